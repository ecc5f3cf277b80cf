-- Messages taken one after the other, and the same messages in another order. Over any state, message and answer.
--   answers, final   what the messages get, and the state after the last one
--   Order            an order of the positions that keeps dependent messages in order
--   reordered        the messages in that order
--   Commute          two steps whose order does not matter in a state
-- Assumes nothing.
use Rattle.std.specs.Prelude.{ℕ, ◌<◌, ◌≡◌, ◌≢◌, List, [], ◌∷◌, map, length, get_or}

-- "The first message gets that table, each later one the table that the one before gave back."
module _ {S M A : Type 0} (step : S → M → A × S) where
  abbrev pub answers : S → List M → List A
  answers s [] = []
  answers s (m ∷ ms) = (step s m).0 ∷ answers (step s m).1 ms

  abbrev pub final : S → List M → S
  final s [] = s
  final s (m ∷ ms) = final (step s m).1 ms

-- "Reorder the list in any way that keeps the order": ps says which position of xs comes first, which second, and so on. It has as many positions as
-- xs, each within xs, none twice. D x y says that x must not come before y unless it did so in xs; a symmetric D says that the two keep their order.
pub record Order {M : Type 0} (D : M → M → Type 0) (d : M) (xs : List M) (ps : List ℕ) : Type 0 where
  pub long : length ps ≡ length xs
  pub within : (k : ℕ) → k < length ps → get_or ps k 0 < length xs
  pub once : (k l : ℕ) → k < l → l < length ps → get_or ps k 0 ≢ get_or ps l 0
  pub kept : (k l : ℕ) → k < l → l < length ps → D (get_or xs (get_or ps k 0) d) (get_or xs (get_or ps l 0) d) → get_or ps k 0 < get_or ps l 0

-- the messages of xs in the order ps; d stands for a message at no position, and an Order has none
abbrev pub reordered : {M : Type 0} → List M → List ℕ → M → List M
reordered xs ps d = map (λ (i : ℕ). get_or xs i d) ps

-- each step gives the same answer before and after the other, and both together the same state
pub record Commute {S A : Type 0} (f g : S → A × S) (s : S) : Type 0 where
  pub first : (f s).0 ≡ (f (g s).1).0
  pub second : (g s).0 ≡ (g (f s).1).0
  pub both : (g (f s).1).1 ≡ (f (g s).1).1
