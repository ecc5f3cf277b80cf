-- `find_free`: the lowest pair without a mark is that of the ranges left; and, in a range, the marks passed are set.
use Rattle.std.proofs.Common.{◌≡◌, ℕ, ◌+◌, ◌*◌, ◌<◌, drop, get_or}
use Rattle.std.specs.Prelude.{true, false, None}
use Rattle.search.specs.Marks.{near, lowest_in}
use Rattle.search.proofs.find_free.Given as goal

abbrev pub invariant-search : goal.invariant-search
invariant-search l = (l.found ≡ None) × (lowest_in l.marks.on 0 l.range-items ≡ lowest_in l.marks.on l.k (drop l.k l.range-items))

abbrev pub invariant-loop-offset : goal.invariant-loop-offset
invariant-loop-offset l = (l.found ≡ None) × ((o : ℕ) → o < l.offset → get_or l.marks.on (l.k * near + o) false ≡ true)
