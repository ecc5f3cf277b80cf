-- `fields::put_hold` meets its contract: the contents are counted once they are written. Assumes nothing.
use native.Mathlib.Omega.{arith}
use Rattle.fields.proofs.Filed.{filed}
use Rattle.fields.proofs.put_hold.Goals as goal

pub returns-in-Live-clause-wrote : goal.returns-in-Live-clause-wrote
returns-in-Live-clause-wrote c = rw c.in-Live.is (filed c.put_call-size.ensures.wrote (omega arith) c.put_field.ensures.wrote)
