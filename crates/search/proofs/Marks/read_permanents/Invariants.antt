-- `Marks::read_permanents`: the pairs of the places passed are read.
use Rattle.identifier.specs.Pair.{is_pair}
use Rattle.search.specs.Search.{has_pair}
use Rattle.search.specs.Marks.{looked}
use Rattle.search.proofs.Pass.{Passed}
use Rattle.search.proofs.Marks.read_permanents.Given as goal

abbrev pub invariant-loop-place : goal.invariant-loop-place
invariant-loop-place l = Passed has_pair is_pair (looked l.ranges) l.fn.permanents l.fn.self l.place-index l.self
