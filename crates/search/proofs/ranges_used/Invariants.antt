-- `ranges_used`: so many of the ranges passed are up to the last that has a VCI.
use Rattle.std.proofs.Common.{◌≡◌, take}
use Rattle.search.specs.Marks.{used}
use Rattle.search.proofs.ranges_used.Given as goal

abbrev pub invariant-loop-k : goal.invariant-loop-k
invariant-loop-k l = l.n ≡ used (take l.k l.ranges)
