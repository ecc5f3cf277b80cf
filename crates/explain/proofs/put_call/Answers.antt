-- `explain::put_call` meets its contract: its parts one behind the other. Assumes nothing.
use Rattle.octets.proofs.Stores.{chain}
use Rattle.explain.proofs.put_call.Goals as goal

pub returns-clause-wrote : goal.returns-clause-wrote
returns-clause-wrote c = rw (← c.number.ensures) (chain (chain (chain c.put_labelled-stated.ensures.wrote c.put_labelled-half.ensures.wrote) c.put_labelled-paired.ensures.wrote) c.put_timer.ensures.wrote)
