-- `are_slots_kept`: the slots passed are kept.
use Rattle.std.proofs.Common.{◌≡◌, true}
use Rattle.provisioning.specs.Provisioning.{all_below}
use Rattle.rules.specs.Rules.{slot_kept}
use Rattle.rules.proofs.are_slots_kept.Given as goal

abbrev pub invariant-loop-i : goal.invariant-loop-i
invariant-loop-i l = all_below (slot_kept l.fn.table) l.i ≡ true
