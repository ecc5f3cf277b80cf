-- `explain::put_line` meets its contract: its parts one behind the other. Assumes nothing.
use Rattle.octets.proofs.Stores.{chain}
use Rattle.explain.proofs.put_line.Goals as goal

pub returns-clause-wrote : goal.returns-clause-wrote
returns-clause-wrote c = chain (chain (chain (chain (chain c.put-first.ensures.stored c.put_request-asked.ensures.wrote) (rw (← c.refusal_name.ensures.name) c.put-refused.ensures.stored)) c.put_reply-replied.ensures.wrote) c.put_slots-changed.ensures.wrote) c.put.ensures.stored
