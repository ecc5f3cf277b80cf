-- `replies::Heading::write_restart_pair` meets its contract: a header and two elements.
-- Assumes nothing.
use native.Mathlib.Omega.{arith}
use mathlib.Core.List.{[], ◌∷◌}
use mathlib.Core.Path.{refl}
use Rattle.octets.proofs.Stores.{chain}
use Rattle.header.specs.MessageType.{number_of}
use Rattle.replies.proofs.Whole.{whole}
use Rattle.replies.specs.Reply.{connection, restart}
use Rattle.replies.proofs.Heading.write_restart_pair.Goals as goal

pub returns : goal.returns
returns c = whole c.args.self.flag c.args.self.reference (number_of c.args.self.kind) 14 (restart 0x80 ∷ connection c.args.pair.vpci c.args.pair.vci ∷ []) refl (omega arith)
    (chain c.put-first.ensures (chain c.put_short-second.ensures c.put_connection.ensures))
