-- `items::whole` meets its contract. The loop's invariant: all are whole if those from the present place on are. Assumes nothing.
use Prim.Native.Nat.{◌-◌}
use mathlib.Core.Path.{◌≡◌}
use lib.ListN.{length}
use Rattle.items.specs.Items.{whole_from}
use Rattle.items.proofs.whole.Given as goal

abbrev pub invariant-loop-end : goal.invariant-loop-end
invariant-loop-end l = whole_from l.m l.from ≡ whole_from l.m l.at

abbrev pub decreases-loop-end : goal.decreases-loop-end
decreases-loop-end l = length l.m - l.at
