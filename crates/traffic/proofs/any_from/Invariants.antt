-- `traffic::any_from` meets its contract. The loop's invariant: one passes if one from the present place on does. Assumes nothing.
use Rattle.std.proofs.Common.{◌≡◌, ◌-◌, ℕ, Bool, length}
use Rattle.std.specs.List.{list_any}
use Rattle.traffic.specs.Traffic.{identifiers, subfields}
use Rattle.traffic.proofs.any_from.Given as goal

abbrev pub invariant-loop-test : goal.invariant-loop-test
invariant-loop-test g l =
    (test : ℕ → Bool) → ((n : ℕ) (b : Bool) → goal.F-post g l.test n b → b ≡ test n)
    → list_any test (identifiers (subfields l.c l.from)) ≡ list_any test (identifiers (subfields l.c l.at))

abbrev pub decreases-loop-test : goal.decreases-loop-test
decreases-loop-test g l = length l.c - l.at
