-- `explain::put_slots` meets its contract: the slots that the event is about or that it changed, in their order. Assumes nothing.
use Rattle.std.proofs.Common.{◌+◌, ◌*◌, ◌≤◌}
use Rattle.explain.proofs.Shown.{Shown}
use Rattle.explain.proofs.put_slots.Given as goal

abbrev pub invariant-loop-i : goal.invariant-loop-i
invariant-loop-i l = (l.at ≤ l.next) × (l.next ≤ l.at + 370 * l.i) × Shown l.request l.came l.fn.before.all l.after.all l.initial.out l.at l.out l.next l.i
