-- `replies::Heading::write_connection` meets its contract: a header and one element.
-- Assumes nothing.
use native.Mathlib.Omega.{arith}
use mathlib.Core.List.{[], ◌∷◌}
use mathlib.Core.Path.{refl}
use Rattle.octets.proofs.Stores.{chain}
use Rattle.header.specs.MessageType.{number_of}
use Rattle.replies.proofs.Whole.{whole}
use Rattle.replies.specs.Reply.{connection}
use Rattle.replies.proofs.Heading.write_connection.Goals as goal

pub returns : goal.returns
returns c = whole c.args.self.flag c.args.self.reference (number_of c.args.self.kind) 9 (connection c.args.pair.vpci c.args.pair.vci ∷ []) refl (omega arith)
    (chain c.put-at.ensures c.put_connection.ensures)
