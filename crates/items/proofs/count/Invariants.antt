-- `items::count` meets its contract. The loop's invariant: those counted, at most one an octet, and those from the present place on are all. Assumes nothing.
use Prim.Native.Nat.{◌+◌, ◌-◌, ◌≤◌}
use mathlib.Core.Path.{◌≡◌}
use lib.ListN.{length}
use Rattle.items.specs.Items.{count_of, items}
use Rattle.items.proofs.count.Given as goal

abbrev pub invariant-loop-met : goal.invariant-loop-met
invariant-loop-met l = (l.n ≤ l.at) × (count_of l.id (items l.m l.from) ≡ l.n + count_of l.id (items l.m l.at))

abbrev pub decreases-loop-met : goal.decreases-loop-met
decreases-loop-met l = length l.m - l.at
