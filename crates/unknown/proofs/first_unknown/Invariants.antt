-- `unknown::first_unknown` meets its contract. The loop's invariant: the first unknown one is the first from the present place on.
-- Assumes nothing.
use Prim.Native.Nat.{◌-◌}
use lib.ListN.{length}
use Rattle.unknown.proofs.First.{Same}
use Rattle.unknown.proofs.first_unknown.Given as goal

abbrev pub invariant-loop-id : goal.invariant-loop-id
invariant-loop-id l = Same l.m l.from l.at

abbrev pub decreases-loop-id : goal.decreases-loop-id
decreases-loop-id l = length l.m - l.at
