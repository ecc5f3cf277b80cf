-- `Marks::read`: the pair's marks are set in the ranges passed.
use Rattle.std.proofs.Common.{◌≡◌, ◌+◌}
use Rattle.search.proofs.Marked.{Upto}
use Rattle.search.proofs.Marks.read.Given as goal

abbrev pub invariant-loop-k : goal.invariant-loop-k
invariant-loop-k l = (l.self.reads ≡ l.fn.self.reads + 1) × Upto l.ranges.all l.k l.pair l.fn.self.on l.self.on
