-- `answers::put_reply` meets its contract: its parts one behind the other. Assumes nothing.
use Rattle.octets.proofs.Stores.{chain}
use Rattle.answers.proofs.put_reply.Goals as goal

pub returns-clause-wrote : goal.returns-clause-wrote
returns-clause-wrote c = chain (chain (chain c.put_octet-refused.ensures.wrote c.put-second.ensures.stored) c.put_hex-replied.ensures.wrote) c.put.ensures.stored
