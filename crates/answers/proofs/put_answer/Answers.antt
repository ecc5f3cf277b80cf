-- `answers::put_answer` meets its contract: its two parts one behind the other. Assumes nothing.
use Rattle.octets.proofs.Stores.{chain}
use Rattle.answers.proofs.put_answer.Goals as goal

pub returns-clause-wrote : goal.returns-clause-wrote
returns-clause-wrote c = chain c.put_reply-next.ensures.wrote c.put_notice.ensures.wrote
