-- `explain::put_cause` meets its contract: its parts one behind the other. Assumes nothing.
use Rattle.octets.proofs.Stores.{chain}
use Rattle.explain.proofs.put_cause.Goals as goal

pub returns-clause-wrote : goal.returns-clause-wrote
returns-clause-wrote c = chain (chain c.put-next.ensures.stored c.put_octet-end.ensures.wrote) (rw (← c.cause_name.ensures.name) c.put.ensures.stored)
