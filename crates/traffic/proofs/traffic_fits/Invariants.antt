-- `traffic::traffic_fits` meets its contract. The loop's invariant: the subfields fit if those from the present place on do. Assumes nothing.
use Prim.Native.Nat.{◌-◌}
use mathlib.Core.Path.{◌≡◌}
use lib.ListN.{length}
use Rattle.traffic.specs.Traffic.{fitting, subfields}
use Rattle.traffic.proofs.traffic_fits.Given as goal

abbrev pub invariant-loop-id : goal.invariant-loop-id
invariant-loop-id l = fitting (subfields l.c 0) ≡ fitting (subfields l.c l.at)

abbrev pub decreases-loop-id : goal.decreases-loop-id
decreases-loop-id l = length l.c - l.at
