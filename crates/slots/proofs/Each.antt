-- Laws for a loop that fills an array with a function of each element of another: the first i are made, the rest is as it was.
--   mapped          the array at that point
--   mapped_more     one more
-- And of flags made so:
--   some_set        a flag is set if and only if some element passes
-- Assumes nothing.
use Prim.Native.Nat.{ℕ, zero, suc, ◌+◌, ◌<◌}
use mathlib.Core.Path.{◌≡◌, refl, ap, ◌∙◌}
use mathlib.Core.Bool.{Bool, ◌||◌}
use mathlib.Core.List.{List, [], ◌∷◌, ◌++◌, map}
use native.Mathlib.Omega.{arith}
use native.Mathlib.Numerals.{add-one}
use lib.ListN.{length, take, drop, get_or, set}
use Rattle.std.specs.List.{list_any}
use Rattle.slots.specs.Slots.{is_set}

module _ {A B : Type 0} (f : A → B) where
  abbrev pub mapped : List A → List B → ℕ → List B
  mapped xs ys i = map f (take i xs) ++ drop i ys

  pub mapped_suc : (xs : List A) (ys : List B) (i : ℕ) (d : A) → i < length xs → i < length ys
      → set (mapped xs ys i) i (f (get_or xs i d)) ≡ mapped xs ys (suc i)
  mapped_suc [] ys i d h k = absurd (omega arith)
  mapped_suc (x ∷ xs) [] i d h k = absurd (omega arith)
  mapped_suc (x ∷ xs) (y ∷ ys) zero d h k = refl
  mapped_suc (x ∷ xs) (y ∷ ys) (suc i) d h k = ap (λ (l : List B). f x ∷ l) (mapped_suc xs ys i d (omega arith) (omega arith))

  pub mapped_more : (xs : List A) (ys : List B) (i : ℕ) (d : A) → i < length xs → i < length ys
      → set (mapped xs ys i) i (f (get_or xs i d)) ≡ mapped xs ys (i + 1)
  mapped_more xs ys i d h k = mapped_suc xs ys i d h k ∙ rw (add-one i)

pub some_set : {A : Type 0} (p : A → Bool) (xs : List A) → list_any is_set (map p xs) ≡ list_any p xs
some_set p [] = refl
some_set p (x ∷ xs) = ap (λ (b : Bool). p x || b) (some_set p xs)
