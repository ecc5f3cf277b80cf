-- `is_ascending`: the numbers ascend if and only if those left do, with the one before them.
use Rattle.std.proofs.Common.{◌≡◌, ◌-◌, drop}
use Rattle.pairs.specs.Pairs.{ascending}
use Rattle.rules.proofs.is_ascending.Given as goal

abbrev pub invariant-loop-i : goal.invariant-loop-i
invariant-loop-i l = ascending l.numbers ≡ ascending (drop (l.i - 1) l.numbers)
