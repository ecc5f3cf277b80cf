-- `saved::put_range_field` meets its contract: the contents are counted once they are written. Assumes nothing.
use native.Mathlib.Omega.{arith}
use Rattle.fields.proofs.Filed.{filed}
use Rattle.saved.proofs.put_range_field.Goals as goal

pub returns-clause-wrote : goal.returns-clause-wrote
returns-clause-wrote c = filed c.put_ranges-size.ensures.wrote (omega arith) c.put_field.ensures.wrote
