-- Lists of positions.
--   without            a list less one of its places, and what is left in it
--   Spread             a relation that holds from each position to every later one
--   cover              positions, none twice, all of them in a list that is no longer than they are many: they are all of that list
--   upto               positions one after the other
--   read_all, read-map a list read at all its positions is the list; a list of what positions give, read at a place
--   every, spread      facts by index, as facts by membership
-- Assumes nothing.
use Prim.Native.Nat.{ℕ, zero, suc, ◌+◌, ◌≤◌, ◌<◌}
use native.Mathlib.Nat.{eq-or-lt_of_le}
use native.Mathlib.Omega.{arith}
use mathlib.Core.Path.{◌≡◌, refl, sym, ap, ◌∙◌}
use mathlib.Core.Logic.{◌≢◌, ◌⊎◌, inl, inr, ⊎_elim}
use mathlib.Core.List.Memᴰ.{head as here}
use mathlib.Core.List.Memᴰ.{tail as there}
use mathlib.Core.List.{List, [], ◌∷◌, map, Memᴰ as Mem}
use lib.ListN.{length, get_or}

abbrev pub without : {p : ℕ} {us : List ℕ} → Mem p us → List ℕ
without (here {xs = us} e) = us
without (there {x = u} m) = u ∷ without m

-- what is left was there before
pub left_in : {p q : ℕ} {us : List ℕ} (m : Mem p us) → Mem q (without m) → Mem q us
left_in (here e) n = there n
left_in (there m) (here e) = here e
left_in (there m) (there n) = there (left_in m n)

-- and what was there is left, or was the one taken out
pub taken_or_left : {p q : ℕ} {us : List ℕ} (m : Mem p us) → Mem q us → (q ≡ p) ⊎ Mem q (without m)
taken_or_left (here e) (here f) = inl (f ∙ sym e)
taken_or_left (here e) (there n) = inr n
taken_or_left (there m) (here f) = inr (here f)
taken_or_left (there m) (there n) = ⊎_elim inl (λ k. inr (there k)) (taken_or_left m n)

pub length_without : {p : ℕ} {us : List ℕ} (m : Mem p us) → suc (length (without m)) ≡ length us
length_without (here e) = refl
length_without (there m) = ap suc (length_without m)

pub data Spread (R : ℕ → ℕ → Type 0) : List ℕ → Type 0 where
  none : Spread R []
  more : {p : ℕ} {ps : List ℕ} → ((q : ℕ) → Mem q ps → R p q) → Spread R ps → Spread R (p ∷ ps)

pub spread_without : {R : ℕ → ℕ → Type 0} {p : ℕ} {us : List ℕ} (m : Mem p us) → Spread R us → Spread R (without m)
spread_without (here e) (more r rs) = rs
spread_without (there m) (more r rs) = more (λ q n. r q (left_in m n)) (spread_without m rs)

-- positions other than the one taken out are still there
pub still_in : {p : ℕ} {ps us : List ℕ} (m : Mem p us) → ((q : ℕ) → Mem q ps → p ≢ q) → ((q : ℕ) → Mem q ps → Mem q us) → (q : ℕ) → Mem q ps → Mem q (without m)
still_in m other in-us q n = ⊎_elim (λ e. absurd (other q n (sym e))) (λ k. k) (taken_or_left m (in-us q n))

-- pigeonhole: each of ps takes one place of us away, and no place is left over
pub cover : (ps us : List ℕ) → Spread ◌≢◌ ps → length ps ≡ length us → ((q : ℕ) → Mem q ps → Mem q us) → (q : ℕ) → Mem q us → Mem q ps
cover ps us none long in-us q n = absurd (omega (arith, length_without n))
cover ps us (more {p} {ps = qs} other rest) long in-us q n =
    let m : Mem p us = in-us p (here refl) in
    ⊎_elim here
    (λ k. there (cover qs (without m) rest (omega (arith, length_without m)) (still_in m other (λ j i. in-us j (there i))) q k))
    (taken_or_left m n)

-- n positions from i on
abbrev pub upto : ℕ → ℕ → List ℕ
upto i zero = []
upto i (suc n) = i ∷ upto (suc i) n

pub length_upto : (i n : ℕ) → length (upto i n) ≡ n
length_upto i zero = refl
length_upto i (suc n) = ap suc (length_upto (suc i) n)

pub in_upto : (i n q : ℕ) → i ≤ q → q < i + n → Mem q (upto i n)
in_upto i zero q a b = absurd (omega arith)
in_upto i (suc n) q a b = ⊎_elim (λ e. here (sym e)) (λ l. there (in_upto (suc i) n q l (omega arith))) (eq-or-lt_of_le a)

pub of_upto : (i n q : ℕ) → Mem q (upto i n) → (i ≤ q) × (q < i + n)
of_upto i zero q x' = elim x' [ ]
of_upto i (suc n) q (here e) = omega arith
of_upto i (suc n) q (there m) = omega (arith, of_upto (suc i) n q m)

pub upto_ascends : (i n : ℕ) → Spread ◌<◌ (upto i n)
upto_ascends i zero = none
upto_ascends i (suc n) = more (λ q m. (of_upto (suc i) n q m).0) (upto_ascends (suc i) n)

module _ {A : Type 0} where
  read_on : (f : ℕ → A) (i n : ℕ) → map f (upto (suc i) n) ≡ map (λ (k : ℕ). f (suc k)) (upto i n)
  read_on f i zero = refl
  read_on f i (suc n) = ap (λ (l : List A). f (suc i) ∷ l) (read_on f (suc i) n)

  pub read_all : (d : A) (xs : List A) → map (λ (i : ℕ). get_or xs i d) (upto 0 (length xs)) ≡ xs
  read_all d [] = refl
  read_all d (x ∷ xs) = ap (λ (l : List A). x ∷ l) (read_on (λ (i : ℕ). get_or (x ∷ xs) i d) 0 (length xs) ∙ read_all d xs)

module _ {A : Type 0} (f : ℕ → A) (a : A) where
  pub read-map : (ps : List ℕ) (k : ℕ) → k < length ps → get_or (map f ps) k a ≡ f (get_or ps k 0)
  read-map [] k h = absurd (omega arith)
  read-map (p ∷ ps) zero h = refl
  read-map (p ∷ ps) (suc k) h = read-map ps k (omega arith)

at_each : (P : ℕ → Type 0) (q : ℕ) (ps : List ℕ) → ((k : ℕ) → k < length ps → P (get_or ps k 0)) → Mem q ps → P q
at_each P q ps h (here e) = rw e (h 0 (omega arith))
at_each P q ps h (there {xs = qs} m) = at_each P q qs (λ k l. h (suc k) (omega arith)) m

pub every : (P : ℕ → Type 0) (ps : List ℕ) → ((k : ℕ) → k < length ps → P (get_or ps k 0)) → (q : ℕ) → Mem q ps → P q
every P ps h q m = at_each P q ps h m

pub spread : (R : ℕ → ℕ → Type 0) (ps : List ℕ) → ((k l : ℕ) → k < l → l < length ps → R (get_or ps k 0) (get_or ps l 0)) → Spread R ps
spread R [] h = none
spread R (p ∷ ps) h =
    more (every (R p) ps (λ l b. h 0 (suc l) (omega arith) (omega arith))) (spread R ps (λ k l a b. h (suc k) (suc l) (omega arith) (omega arith)))
