-- `explain::put_header` meets its contract: its parts one behind the other. Assumes nothing.
use Rattle.octets.proofs.Stores.{chain}
use Rattle.explain.proofs.put_header.Goals as goal

pub returns-clause-wrote : goal.returns-clause-wrote
returns-clause-wrote c = chain (chain c.put_kind-named.ensures.wrote c.put_flag-flagged.ensures.wrote) c.put_decimal.ensures.wrote
