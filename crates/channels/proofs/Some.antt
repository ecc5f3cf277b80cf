-- Laws of `list_any`.
--   some_at          an element that passes, by its number
--   some_none        none passes, by their numbers
-- Assumes nothing.
use Prim.Native.Nat.{ℕ, zero, suc, ◌<◌}
use mathlib.Core.Path.{◌≡◌, refl}
use mathlib.Core.Bool.{Bool, true, false, or-true}
use mathlib.Core.List.{List, [], ◌∷◌}
use native.Mathlib.Omega.{arith}
use lib.ListN.{length, get_or}
use Rattle.std.specs.List.{list_any}

module _ {A : Type 0} (p : A → Bool) (d : A) where
  pub some_at : (xs : List A) (i : ℕ) → i < length xs → p (get_or xs i d) ≡ true → list_any p xs ≡ true
  some_at [] i h e = absurd (omega arith)
  some_at (x ∷ xs) zero h e = rw e
  some_at (x ∷ xs) (suc i) h e = rw (some_at xs i (omega arith) e) (or-true (p x))

  pub some_none : (xs : List A) → ((i : ℕ) → i < length xs → p (get_or xs i d) ≡ false) → list_any p xs ≡ false
  some_none [] h = refl
  some_none (x ∷ xs) h = rw (h 0 (omega arith)) (some_none xs (λ i k. h (suc i) (omega arith)))
