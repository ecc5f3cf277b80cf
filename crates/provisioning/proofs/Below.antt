-- Laws of `all_below`, for the loops that test one number after the other.
--   not_below      one that does not
--   below_at       each passes
-- Assumes nothing.
use Prim.Native.Nat.{ℕ, zero, suc, ◌<◌}
use mathlib.Core.Path.{◌≡◌}
use mathlib.Core.Bool.{Bool, true, false, and-false}
use native.Mathlib.Omega.{arith}
use lib.Dec.{eqb}
use borrow.Author.Tests.{eqb-true, eqb-false}
use Rattle.channels.proofs.Cases.{by_test, clash}
use Rattle.provisioning.specs.Provisioning.{all_below}

module _ (p : ℕ → Bool) where
  pub not_below : (n k : ℕ) → k < n → p k ≡ false → all_below p n ≡ false
  not_below zero k h e = absurd (omega arith)
  not_below (suc n) k h e =
      by_test (eqb k n)
      (λ t. rw (← eqb-true k n t, e) (and-false (all_below p k)))
      (λ t. rw (not_below n k (omega (arith, eqb-false k n t)) e))

  pub below_at : (n k : ℕ) → all_below p n ≡ true → k < n → p k ≡ true
  below_at n k e h = by_test (p k) (λ t. t) (λ t. clash e (not_below n k h t))
