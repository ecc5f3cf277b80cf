-- `replies::write_setup` meets its contract: a header, the Connection identifier and the body, one after the other.
-- Assumes nothing.
use native.Mathlib.Omega.{arith}
use Rattle.octets.proofs.Stores.{chain, chained}
use Rattle.replies.proofs.write_setup.Goals as goal

pub returns : goal.returns
returns c = chained (chain c.put-first.ensures (chain c.put_connection-second.ensures c.put.ensures.stored)) (omega arith)
