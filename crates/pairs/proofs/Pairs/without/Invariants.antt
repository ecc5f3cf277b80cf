-- `Pairs::without` meets its contract. The loop's invariant: the pairs passed that stay are in front, and the pair is to be taken out of what is left.
-- Assumes nothing.
use Prim.Native.Nat.{◌≤◌, ◌-◌}
use mathlib.Core.Path.{◌≡◌}
use mathlib.Core.List.{◌++◌}
use lib.ListN.{take, drop}
use Rattle.pairs.specs.Pairs.{listed, removed}
use Rattle.pairs.proofs.Places.{Span, Filled}
use Rattle.pairs.proofs.Pairs.without.Given as goal

abbrev pub invariant-loop-i : goal.invariant-loop-i
invariant-loop-i l = (l.i ≤ l.n) × Span l.self l.n × (l.kept ≤ l.i) × Filled l.numbers l.kept × (removed l.pair.vpci l.pair.vci (listed l.self) ≡ take l.kept l.numbers ++ removed l.pair.vpci l.pair.vci (drop l.i (listed l.self)))

abbrev pub decreases-loop-i : goal.decreases-loop-i
decreases-loop-i l = l.n - l.i
