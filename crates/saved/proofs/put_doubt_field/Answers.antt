-- `saved::put_doubt_field` meets its contract: the contents are counted once they are written. Assumes nothing.
use native.Mathlib.Omega.{arith}
use Rattle.fields.proofs.Filed.{filed}
use Rattle.saved.proofs.put_doubt_field.Goals as goal

pub returns-clause-wrote : goal.returns-clause-wrote
returns-clause-wrote c = filed c.put_pairs-size.ensures.wrote (omega arith) c.put_field.ensures.wrote
