-- How many ranges there are up to the last that has a VCI.
--   used_most, used_few         there are no more than ranges
--   used-spanning               there are none exactly if no range has a VCI
--   lowest_used                 the ranges behind them have no pair
-- Assumes nothing.
use Rattle.std.specs.Prelude.{None}
use Prim.Native.Nat.{ℕ, ◌+◌, ◌-◌, ◌≤◌}
use mathlib.Core.Path.{◌≡◌, refl, ◌∙◌}
use mathlib.Core.Bool.{Bool}
use mathlib.Core.List.{List, [], ◌∷◌}
use native.Mathlib.Omega.{arith}
use native.Mathlib.Numerals.{add-one}
use lib.Dec.{eqb}
use lib.ListN.{length, take}
use lib.Seq.{length-take-le}
use borrow.Author.Tests.{eqb-true, eqb-false, ne_eqb, leb-false}
use Rattle.channels.specs.Channels.{lowest}
use Rattle.channels.specs.declared.Range.{Range}
use Rattle.channels.proofs.Cases.{by_test}
use Rattle.search.specs.Search.{spans, spanning}
use Rattle.search.specs.Marks.{used}

pub used_most : (rs : List Range) → used rs ≤ length rs
used_most [] = omega arith
used_most (r ∷ rs) =
    let rest = used_most rs in
    by_test (spans r)
    (λ s. rw s (omega arith))
    (λ s. by_test (eqb (used rs) 0) (λ u. rw (s, u) (omega arith)) (λ u. rw (s, u) (omega arith)))

pub used_few : (rs : List Range) (n : ℕ) → length rs ≡ n → length (take (used rs) rs) ≤ n
used_few rs n h = let most = used_most rs in let long = length-take-le (used rs) rs most in omega arith

pub used-spanning : (rs : List Range) → eqb (spanning rs) 0 ≡ eqb (used rs) 0
used-spanning [] = refl
used-spanning (r ∷ rs) =
    let rest = used-spanning rs in
    by_test (spans r)
    (λ t. rw (t, ne_eqb (1 + spanning rs) 0 (λ z. omega arith), ne_eqb (used rs + 1) 0 (λ z. omega arith)))
    (λ t. by_test (eqb (used rs) 0)
    (λ u. let none = eqb-true (spanning rs) 0 (rest ∙ u) in rw (t, u, none))
    (λ u. let some = eqb-false (spanning rs) 0 (rest ∙ u) in rw (t, u, ne_eqb (0 + spanning rs) 0 (λ z. omega arith), ne_eqb (used rs + 1) 0 (λ z. omega arith))))

module _ (t : ℕ → ℕ → Bool) where
  none-used : (rs : List Range) → used rs ≡ 0 → lowest t rs ≡ None
  none-used [] e = refl
  none-used (r ∷ rs) e =
      by_test (spans r)
      (λ s. let z : used rs + 1 ≡ 0 = rw s at e in absurd (omega arith))
      (λ s. by_test (eqb (used rs) 0)
      (λ u.
      let high = leb-false r.first r.last s in
      let none : (r.last + 1) - r.first ≡ 0 = omega arith in
      rw none (none-used rs (eqb-true (used rs) 0 u)))
      (λ u. let z : used rs + 1 ≡ 0 = rw (s, u) at e in absurd (omega arith)))

  pub lowest_used : (rs : List Range) → lowest t rs ≡ lowest t (take (used rs) rs)
  lowest_used [] = refl
  lowest_used (r ∷ rs) =
      by_test (spans r)
      (λ s. rw (s, add-one (used rs), ← lowest_used rs))
      (λ s. by_test (eqb (used rs) 0)
      (λ u. rw (s, u) (none-used (r ∷ rs) (rw (s, u))))
      (λ u. rw (s, u, add-one (used rs), ← lowest_used rs)))
