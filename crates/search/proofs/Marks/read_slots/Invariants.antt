-- `Marks::read_slots`: the pairs of the slots passed are read.
use Rattle.calls.specs.Calls.{is_live, holds_pair}
use Rattle.search.specs.Marks.{looked}
use Rattle.search.proofs.Pass.{Passed}
use Rattle.search.proofs.Marks.read_slots.Given as goal

abbrev pub invariant-loop-slot : goal.invariant-loop-slot
invariant-loop-slot l = Passed is_live holds_pair (looked l.ranges) l.fn.slots l.fn.self l.slot-index l.self
