-- `replies::Heading::write_restart_all` meets its contract: a header and one element.
-- Assumes nothing.
use native.Mathlib.Omega.{arith}
use mathlib.Core.List.{[], ◌∷◌}
use mathlib.Core.Path.{refl}
use Rattle.octets.proofs.Stores.{chain}
use Rattle.header.specs.MessageType.{number_of}
use Rattle.replies.proofs.Whole.{whole}
use Rattle.replies.specs.Reply.{restart}
use Rattle.replies.proofs.Heading.write_restart_all.Goals as goal

pub returns : goal.returns
returns c = whole c.args.self.flag c.args.self.reference (number_of c.args.self.kind) 5 (restart 0x82 ∷ []) refl (omega arith)
    (chain c.put-at.ensures c.put_short.ensures)
