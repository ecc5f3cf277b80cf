-- `explain::put_change` meets its contract: its parts one behind the other. Assumes nothing.
use Rattle.octets.proofs.Stores.{chain}
use Rattle.explain.proofs.put_change.Goals as goal

pub returns-clause-wrote : goal.returns-clause-wrote
returns-clause-wrote c = chain (chain (chain c.put_labelled-numbered.ensures.wrote c.put_slot-first.ensures.wrote) c.put-to.ensures.stored) c.put_slot.ensures.wrote
