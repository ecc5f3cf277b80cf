-- `replies::Heading::write_cause` meets its contract: a header, whose length field counts the diagnostic, and one element.
-- Assumes nothing.
use borrow.Author.Rules.{rules}
use native.Mathlib.Omega.{arith}
use mathlib.Core.List.{[], ◌∷◌}
use Prim.Native.Nat.{◌+◌}
use mathlib.Core.Path.{◌≡◌, sym, ap, ◌∙◌}
use lib.ListN.{length}
use Rattle.octets.proofs.Stores.{chain, wrote_none}
use Rattle.replies.proofs.Sizes.{field-size}
use Rattle.header.specs.MessageType.{number_of}
use Rattle.replies.proofs.Whole.{body-size, whole}
use Rattle.replies.specs.Message.{body}
use Rattle.replies.specs.Reply.{cause}
use Rattle.replies.proofs.Heading.write_cause.Goals as goal

pub returns : goal.returns
returns c = let many = sym (ap length c.diagnostic_field-size.ensures.result_value) ∙ field-size c.diagnostic_field-size.result (search rules) c.diagnostic_field-size.ensures.size_bound in
    let es = cause c.args.why ∷ [] in
    let size : length (body es) ≡ 6 + c.diagnostic_field-size.result.size = rw (body-size (cause c.args.why) []) (omega arith) in
    whole c.args.self.flag c.args.self.reference (number_of c.args.self.kind) (6 + c.diagnostic_field-size.result.size) es size (omega arith)
    (chain c.put-at.ensures (chain c.put_cause.ensures (wrote_none _ _)))
