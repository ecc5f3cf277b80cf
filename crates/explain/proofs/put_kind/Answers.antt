-- `explain::put_kind` meets its contract: a type that is unknown has no name. Assumes nothing.
use Rattle.std.proofs.Common.{◌≡◌, ℕ, [], tests, rules}
use Rattle.octets.proofs.Stores.{chain}
use Rattle.header.specs.MessageType.{IsUnknown}
use Rattle.explain.specs.Names.{name_in, kind_names}
use Rattle.explain.proofs.put_kind.Goals as goal

no_name : (n : ℕ) → IsUnknown n → name_in kind_names n ≡ []
unfolding name_in kind_names
no_name n u = search (rules, tests)

pub returns-in-Err-clause-wrote : goal.returns-in-Err-clause-wrote
returns-in-Err-clause-wrote c = rw (no_name c.args.kind c.in-Err.ensures.0) (chain c.put-next.ensures.stored c.put_octet.ensures.wrote)
