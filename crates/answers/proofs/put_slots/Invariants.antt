-- `answers::put_slots` meets its contract. The loop's invariant: the numbers of the slots passed are written, at most four octets for each.
-- Assumes nothing.
use Rattle.std.proofs.Common.{◌+◌, ◌*◌, ◌≤◌}
use Rattle.answers.proofs.Texts.{Joined}
use Rattle.answers.proofs.put_slots.Given as goal

abbrev pub invariant-loop-i : goal.invariant-loop-i
invariant-loop-i l = (l.at ≤ l.next) × (l.next ≤ l.at + 4 * l.i) × Joined l.fn.flags.on l.initial.out l.at l.out l.next l.i
