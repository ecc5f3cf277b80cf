-- `display::put_numbers` meets its contract: its parts one behind the other. Assumes nothing.
use Rattle.octets.proofs.Stores.{chain}
use Rattle.display.proofs.put_numbers.Goals as goal

pub returns-clause-wrote : goal.returns-clause-wrote
returns-clause-wrote c = chain
    (chain (chain (chain c.put-worded.ensures.stored c.put_decimal-placed.ensures.wrote) c.put-second.ensures.stored) c.put_decimal-counted.ensures.wrote)
    c.put.ensures.stored
