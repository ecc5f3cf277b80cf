-- `Marks::read_listed`: the pairs of the numbers passed are read.
use Rattle.std.proofs.Common.{true}
use Rattle.pairs.specs.Pairs.{is_number}
use Rattle.search.specs.Marks.{looked}
use Rattle.search.proofs.Pass.{Passed}
use Rattle.search.proofs.Marks.read_listed.Given as goal

abbrev pub invariant-loop-number : goal.invariant-loop-number
invariant-loop-number l = Passed (λ x. true) is_number (looked l.ranges) l.fn.numbers l.fn.self l.number-index l.self
