-- `replies::Heading::write_status` meets its contract: a header, whose length field counts the diagnostic, and two elements.
-- Assumes nothing.
use borrow.Author.Rules.{rules}
use native.Mathlib.Omega.{arith}
use mathlib.Core.List.{[], ◌∷◌}
use Prim.Native.Nat.{◌+◌}
use mathlib.Core.Path.{◌≡◌, sym, ap, ◌∙◌}
use lib.ListN.{length}
use Rattle.octets.proofs.Stores.{chain, wrote_none}
use Rattle.replies.proofs.Sizes.{field-size}
use Rattle.header.specs.MessageType.{number_of}
use Rattle.replies.proofs.Whole.{body-size, whole}
use Rattle.replies.specs.Message.{body}
use Rattle.replies.specs.Reply.{call_state, cause}
use Rattle.replies.proofs.Heading.write_status.Goals as goal

pub returns : goal.returns
returns c = let many = sym (ap length c.diagnostic_field-size.ensures.result_value) ∙ field-size c.diagnostic_field-size.result (search rules) c.diagnostic_field-size.ensures.size_bound in
    let es = call_state c.args.state ∷ cause c.args.why ∷ [] in
    let size : length (body es) ≡ 11 + c.diagnostic_field-size.result.size =
    rw (body-size (call_state c.args.state) (cause c.args.why ∷ []), body-size (cause c.args.why) []) (omega arith)
    in
    whole c.args.self.flag c.args.self.reference (number_of c.args.self.kind) (11 + c.diagnostic_field-size.result.size) es size (omega arith)
    (chain c.put-first.ensures (chain c.put_short-second.ensures (chain c.put_cause.ensures (wrote_none _ _))))
