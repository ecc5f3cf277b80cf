use Rattle.std.proofs.Common.{◌≡◌, length, sym, ◌∙◌, arith, rules}
use Rattle.calls.specs.Calls.{no_slot, is_call}
use Rattle.first.proofs.First.{placed}
use Rattle.slots.proofs.Slots.find.Goals as goal

pub offset_bounds-self-i : goal.offset_bounds-self-i
offset_bounds-self-i c =
    let found = placed (is_call c.args.network c.args.reference) no_slot c.args.self.all c.in_ok-i.i (sym c.place_of.ensures ∙ c.in_ok-i.was) in
    let long : length c.args.self.all ≡ 32 = search rules in
    omega (arith, found.below)

pub bounds-self-i : goal.bounds-self-i
bounds-self-i c =
    let found = placed (is_call c.args.network c.args.reference) no_slot c.args.self.all c.in_ok-i.i (sym c.place_of.ensures ∙ c.in_ok-i.was) in
    let long : length c.args.self.all ≡ 32 = search rules in
    omega (arith, found.below)
