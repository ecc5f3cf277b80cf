-- The first element of a list that passes a test: where it is, what it is, and the list with it changed.
--   place       its number from 0, or nothing
--   first       the element, or a default
--   upd         the list with that element changed, the rest as it was
--   marked      a list of flags: true at that element, false elsewhere
--   none        as many flags, none of them true
--   Below       a place that is found lies below n
-- Over any element type, any test and a list of any length. Assumes nothing.
use Rattle.std.specs.Prelude.{ℕ, ◌<◌, Bool, true, false, cond, List, [], ◌∷◌, Option, Some, None}
use Rattle.std.specs.List.{position_from}

module _ {A : Type 0} where
  abbrev pub place : (A → Bool) → List A → Option ℕ
  place p xs = position_from p 0 xs

  abbrev pub first : (A → Bool) → A → List A → A
  first p d [] = d
  first p d (x ∷ xs) = cond (p x) x (first p d xs)

  abbrev pub upd : (A → Bool) → (A → A) → List A → List A
  upd p f [] = []
  upd p f (x ∷ xs) = cond (p x) (f x ∷ xs) (x ∷ upd p f xs)

  abbrev pub none : List A → List Bool
  none [] = []
  none (x ∷ xs) = false ∷ none xs

  abbrev pub marked : (A → Bool) → List A → List Bool
  marked p [] = []
  marked p (x ∷ xs) = cond (p x) (true ∷ none xs) (false ∷ marked p xs)

abbrev pub Below : ℕ → Option ℕ → Type 0
Below n None = Unit {0}
Below n (Some i) = i < n
