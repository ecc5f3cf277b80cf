-- `list_in`: the numbers passed are in the array.
use Rattle.std.proofs.Common.{◌≡◌, length, drop}
use Rattle.reading.proofs.Walk.{Listed}
use Rattle.reading.proofs.list_in.Given as goal

abbrev pub invariant-loop-k : goal.invariant-loop-k
invariant-loop-k l = (length l.number-items ≡ 16) × Listed (drop l.at l.form) l.number-items l.k
