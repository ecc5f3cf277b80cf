-- `explain::put_message` meets its contract: its parts one behind the other. Assumes nothing.
use Rattle.octets.proofs.Stores.{chain}
use Rattle.explain.proofs.put_message.Goals as goal

pub returns-in-Some-clause-wrote : goal.returns-in-Some-clause-wrote
returns-in-Some-clause-wrote c = rw (← c.read.ensures, c.in-Some.is) (chain c.put_header-next.ensures.wrote c.put_cause_of.ensures.wrote)
