-- Elements of a list by their numbers, over any element type.
--   some_found, some_place     an element that passes a test is at a number, and then a first one is found
--   passes_within              what passes, where the default does not, is one of the list
--   set_case, set_same         an element after another one is set, and after it is set to itself
--   get_d_map                   an element after all are changed
--   get_or-replicate_default     an element of so many times the default
-- Assumes nothing.
use Rattle.std.specs.Prelude.{Option, Some, None}
use Prim.Native.Nat.{ℕ, zero, suc, ◌<◌}
use mathlib.Core.Path.{◌≡◌, refl, sym, ap}
use mathlib.Core.Logic.{◌⊎◌, inl, inr, ⊎_elim}
use mathlib.Core.Bool.{Bool, true, false}
use mathlib.Core.List.{List, [], ◌∷◌, map}
use native.Mathlib.Omega.{arith}
use lib.ListN.{length, get_or, set, replicate}
use Rattle.std.specs.List.{list_any}
use Rattle.channels.proofs.Cases.{by_test, clash}
use Rattle.first.specs.First.{place}
use Rattle.first.proofs.First.{unplaced}

module _ {A : Type 0} (q : A → Bool) (d : A) where
  pub some_found : (xs : List A) → list_any q xs ≡ true → (i : ℕ) × ((i < length xs) × (q (get_or xs i d) ≡ true))
  some_found [] e = clash e refl
  some_found (x ∷ xs) e =
      by_test (q x)
      (λ t. (0, (omega arith, t)))
      (λ t. let ih = some_found xs (rw t at e) in (suc ih.0, (omega (arith, ih.1.0), ih.1.1)))

  pub passes_within : (xs : List A) (i : ℕ) → q d ≡ false → q (get_or xs i d) ≡ true → i < length xs
  passes_within [] i e h = clash h e
  passes_within (x ∷ xs) zero e h = omega arith
  passes_within (x ∷ xs) (suc i) e h = omega (arith, passes_within xs i e h)

  pub some_place : (xs : List A) (f : Option ℕ) → place q xs ≡ f → list_any q xs ≡ true → (i : ℕ) × (f ≡ Some i)
  some_place xs None e s = clash s (unplaced q d xs e).some
  some_place xs (Some i) e s = (i, refl)

module _ {A : Type 0} where
  pub set_case : (xs : List A) (i : ℕ) (x : A) (j : ℕ) (d : A) → (get_or (set xs i x) j d ≡ get_or xs j d) ⊎ ((i ≡ j) × (get_or (set xs i x) j d ≡ x))
  set_case [] i x j d = inl refl
  set_case (y ∷ xs) zero x zero d = inr (refl, refl)
  set_case (y ∷ xs) zero x (suc j) d = inl refl
  set_case (y ∷ xs) (suc i) x zero d = inl refl
  set_case (y ∷ xs) (suc i) x (suc j) d =
      ⊎_elim
      (λ (e : get_or (set xs i x) j d ≡ get_or xs j d). inl e)
      (λ (e : (i ≡ j) × (get_or (set xs i x) j d ≡ x)). inr (ap suc e.0, e.1))
      (set_case xs i x j d)

  pub get_d_map : (f : A → A) (d : A) → f d ≡ d → (xs : List A) (j : ℕ) → get_or (map f xs) j d ≡ f (get_or xs j d)
  get_d_map f d e [] j = sym e
  get_d_map f d e (x ∷ xs) zero = refl
  get_d_map f d e (x ∷ xs) (suc j) = get_d_map f d e xs j

  pub set_same : (xs : List A) (i : ℕ) (d : A) → set xs i (get_or xs i d) ≡ xs
  set_same [] i d = refl
  set_same (x ∷ xs) zero d = refl
  set_same (x ∷ xs) (suc i) d = ap (λ (l : List A). x ∷ l) (set_same xs i d)

  pub get_or-replicate_default : (n j : ℕ) (a : A) → get_or (replicate n a) j a ≡ a
  get_or-replicate_default zero j a = refl
  get_or-replicate_default (suc n) zero a = refl
  get_or-replicate_default (suc n) (suc j) a = get_or-replicate_default n j a
