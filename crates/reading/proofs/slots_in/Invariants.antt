-- `slots_in`: the slots passed are in the array, and the next field is at its place.
use Rattle.std.proofs.Common.{◌≡◌, ◌+◌, ◌*◌, ◌≤◌, length}
use Rattle.reading.proofs.Walk.{Walked}
use Rattle.reading.proofs.slots_in.Given as goal

abbrev pub invariant-loop-i : goal.invariant-loop-i
invariant-loop-i l = (l.next ≤ 393228 + l.i * 65538) × (length l.slot-items ≡ 32) × Walked l.form l.fn.at 32 l.slot-items l.next l.i
