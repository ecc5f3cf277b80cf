use Rattle.std.proofs.Common.{◌≡◌, sym, ap, ◌∙◌, arith}
use Rattle.slots.specs.Slots.{slot_count}
use Rattle.provisioning.specs.Provisioning.{all_below}
use Rattle.provisioning.proofs.Below.{not_below}
use Rattle.rules.specs.Rules.{slot_kept}
use Rattle.rules.proofs.are_slots_kept.Goals as goal

pub returns-then-not-is_slot_kept : goal.returns-then-not-is_slot_kept
returns-then-not-is_slot_kept c = sym (not_below (slot_kept c.args.table) slot_count c.loop-i.i (omega arith) (sym c.is_slot_kept.ensures ∙ c.if-not-is_slot_kept.true))

pub returns : goal.returns
returns c =
    let all : c.loop-i.i ≡ slot_count = omega (arith, c.loop-i.auto.i-end, c.loop-i-test.false) in
    sym (sym (ap (all_below (slot_kept c.args.table)) all) ∙ c.loop-i.invariant)
