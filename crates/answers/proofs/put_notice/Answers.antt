-- `answers::put_notice` meets its contract: its parts one behind the other. Assumes nothing.
use Rattle.octets.proofs.Stores.{chain}
use Rattle.answers.proofs.put_notice.Goals as goal

pub returns-clause-wrote : goal.returns-clause-wrote
returns-clause-wrote c = chain (chain (chain c.put_octet-noticed.ensures.wrote c.put-second.ensures.stored) c.put_flags-flagged.ensures.wrote) c.put_more.ensures.wrote
