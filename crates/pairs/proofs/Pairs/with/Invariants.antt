-- `Pairs::with` meets its contract. The loop's invariant: the pairs passed and the carried one stand at their place in front, and the carried one is to be
-- put into what is left. Assumes nothing.
use Prim.Native.Nat.{◌≤◌, ◌<◌, ◌-◌}
use mathlib.Core.Path.{◌≡◌}
use mathlib.Core.List.{◌++◌}
use lib.ListN.{take, drop}
use Rattle.pairs.specs.Pairs.{room, pair_number, listed, inserted}
use Rattle.pairs.proofs.Places.{Span, Filled}
use Rattle.pairs.proofs.Pairs.with.Given as goal

abbrev pub invariant-loop-i : goal.invariant-loop-i
invariant-loop-i l = (l.i ≤ l.n) × Span l.self l.n × (l.n < room) × Filled l.numbers l.i
    × (inserted (pair_number l.fn.pair.vpci l.fn.pair.vci) (listed l.self) ≡ take l.i l.numbers ++ inserted l.carried (drop l.i (listed l.self)))

abbrev pub decreases-loop-i : goal.decreases-loop-i
decreases-loop-i l = l.n - l.i
