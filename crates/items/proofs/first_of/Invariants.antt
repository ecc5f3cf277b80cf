-- `items::first_of` meets its contract. The loop's invariant: the first is the first from the present place on. Assumes nothing.
use Prim.Native.Nat.{◌-◌}
use mathlib.Core.Path.{◌≡◌}
use lib.ListN.{length}
use Rattle.items.specs.Items.{first_of, items}
use Rattle.items.proofs.first_of.Given as goal

abbrev pub invariant-loop-met : goal.invariant-loop-met
invariant-loop-met l = first_of l.id (items l.m l.from) ≡ first_of l.id (items l.m l.at)

abbrev pub decreases-loop-met : goal.decreases-loop-met
decreases-loop-met l = length l.m - l.at
