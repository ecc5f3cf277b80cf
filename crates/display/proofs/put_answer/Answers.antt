-- `display::put_answer` meets its contract: its parts one behind the other. Assumes nothing.
use Rattle.octets.proofs.Stores.{chain}
use Rattle.display.proofs.put_answer.Goals as goal

pub returns-clause-wrote : goal.returns-clause-wrote
returns-clause-wrote c = chain (chain c.put_extent-told.ensures.wrote c.put_hex-shown.ensures.wrote) c.put.ensures.stored
