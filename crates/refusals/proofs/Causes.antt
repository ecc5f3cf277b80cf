-- The host's causes: one computed test over the whole list, and a law that turns it into a fact on each.
--   member-passes   what all of a list passes, a member passes
--   host_small      a cause of the host's list fits the octet that it is written in
-- Assumes nothing.
use Prim.Native.Nat.{ℕ, ◌<◌}
use mathlib.Core.Path.{◌≡◌, refl}
use mathlib.Core.Bool.{Bool, true, false, not}
use mathlib.Core.List.{List, [], ◌∷◌}
use lib.Dec.{eqb, ltb}
use borrow.Author.Tests.{eqb-true, ltb-true}
use Rattle.traffic.specs.Traffic.{member}
use Rattle.std.specs.List.{list_any}
use Rattle.channels.proofs.Cases.{by_test, clash}
use Rattle.refusals.specs.Refusals.{host_causes}

pub member-passes : (q : ℕ → Bool) (n : ℕ) (xs : List ℕ) → list_any (λ x. not (q x)) xs ≡ false → member n xs ≡ true → q n ≡ true
member-passes q n [] all e = clash e refl
member-passes q n (x ∷ xs) all e =
    by_test (q x)
    (λ y. by_test (eqb n x) (λ same. rw (eqb-true n x same) y) (λ other. member-passes q n xs (rw y at all) (rw other at e)))
    (λ z. clash (rw z) all)

pub host_small : (n : ℕ) → member n host_causes ≡ true → n < 128
host_small n host = ltb-true n 128 (member-passes (λ x. ltb x 128) n host_causes refl host)
