-- Laws for the loops of the reader.
--   Listed, listed_list    numbers read into an array
--   Walked, walked_more, walked_all     slots read into an array, their fields one behind the other
--   fours_more, four_next               numbers of four octets read into an array
--   least_min                           the smaller of two numbers
-- Assumes nothing.
use Rattle.std.proofs.lemmas.Bool.Decides.{nat_tests}
use Prim.Native.Nat.{ℕ, min, zero, suc, ◌+◌, ◌*◌, ◌-◌, ◌/◌, ◌≤◌, ◌<◌}
use mathlib.Core.Path.{◌≡◌, refl, sym, ap, ◌∙◌}
use mathlib.Core.List.{List, [], ◌∷◌, ◌++◌, append_assoc, append-nil}
use native.Mathlib.Omega.{arith}
use native.Mathlib.Numerals.{add-one}
use lib.ListN.{length, get_or, set, take, drop}
use lib.Seq.{get_or-drop, take-suc-set, take_all}
use Rattle.calls.specs.declared.Slot.{Slot}
use Rattle.reading.specs.Reading.{two_at, four_at, numbers_in, least, list_in, fours_in, slot_in, behind_slot, slots_in}

-- the first k numbers of the contents are read
pub record Listed (f numbers : List ℕ) (k : ℕ) : Type 0 where
  pub each : (j : ℕ) → j < k → get_or numbers j 0 ≡ two_at f (3 + j * 2)

two_behind : (n : ℕ) (f : List ℕ) (k : ℕ) → two_at (drop n f) k ≡ two_at f (n + k)
two_behind n f k =
    let e : n + (k + 1) ≡ n + k + 1 = omega arith in
    rw (get_or-drop n f k 0, get_or-drop n f (k + 1) 0, e)

four_behind : (n : ℕ) (f : List ℕ) (k : ℕ) → four_at (drop n f) k ≡ four_at f (n + k)
four_behind n f k =
    let e : n + (k + 2) ≡ n + k + 2 = omega arith in
    rw (two_behind n f k, two_behind n f (k + 2), e)

taken : (n : ℕ) (f a : List ℕ) → n ≤ length a → ((j : ℕ) → j < n → get_or a j 0 ≡ two_at f (j * 2)) → take n a ≡ numbers_in f n
taken zero f a h each = refl
taken (suc n) f [] h each = absurd (omega arith)
taken (suc n) f (x ∷ a) h each =
    let first : x ≡ two_at f 0 = each 0 (omega arith) in
    let others : (j : ℕ) → j < n → get_or a j 0 ≡ two_at (drop 2 f) (j * 2) = λ j less.
    let e : suc j * 2 ≡ 2 + j * 2 = omega arith in
    each (suc j) (omega arith) ∙ ap (two_at f) e ∙ sym (two_behind 2 f (j * 2)) in
    rw (first, taken n (drop 2 f) a (omega arith) others)

listed_all : (f numbers : List ℕ) (k n : ℕ) → Listed f numbers k → n ≤ k → n ≤ length numbers → take n numbers ≡ numbers_in (drop 3 f) n
listed_all f numbers k n l h size =
    taken n (drop 3 f) numbers size (λ j less. l.each j (omega arith) ∙ sym (two_behind 3 f (j * 2)))

pub listed_list : (most room : ℕ) (f numbers : List ℕ) (k n : ℕ) → Listed f numbers k → room ≤ k → length numbers ≡ room → n ≤ room → n ≡ least most (two_at f 1 / 2)
    → take n numbers ≡ list_in most f
listed_list most room f numbers k n l h size few e = listed_all f numbers k n l (omega arith) (omega arith) ∙ ap (numbers_in (drop 3 f)) e

-- the first i slots are read, and the field of the next, if it has one, is at this place
pub record Walked (f : List ℕ) (at n : ℕ) (all : List Slot) (next i : ℕ) : Type 0 where
  pub same : slots_in 0 (drop at f) n ≡ take i all ++ slots_in i (drop next f) (n - i)

slots_suc : (i m : ℕ) (f : List ℕ) → slots_in i f (suc m) ≡ slot_in i f ∷ slots_in (i + 1) (behind_slot i f) m
unfolding slots_in
slots_suc i m f = refl

slots_zero : (i : ℕ) (f : List ℕ) → slots_in i f 0 ≡ []
unfolding slots_in
slots_zero i f = refl

pub walked_more : (f : List ℕ) (at n : ℕ) (all : List Slot) (next i : ℕ) (s : Slot) (after : ℕ) → i < n → i < length all → s ≡ slot_in i (drop next f)
    → drop after f ≡ behind_slot i (drop next f) → Walked f at n all next i → Walked f at n (set all i s) after (i + 1)
walked_more f at n all next i s after h k slot behind w =
    let one : n - i ≡ suc (n - (i + 1)) = omega arith in
    let left : slots_in i (drop next f) (n - i) ≡ s ∷ slots_in (i + 1) (drop after f) (n - (i + 1)) =
    ap (slots_in i (drop next f)) one ∙ slots_suc i (n - (i + 1)) (drop next f) ∙ rw (slot, behind) in
    let front : take (i + 1) (set all i s) ≡ take i all ++ (s ∷ []) = rw (add-one i) (take-suc-set all i s k) in
    record { same = w.same ∙ ap (λ (r : List Slot). take i all ++ r) left ∙ sym (append_assoc (take i all) (s ∷ []) _) ∙ ap (λ (r : List Slot). r ++ slots_in (i + 1) (drop after f) (n - (i + 1))) (sym front) }

pub walked_all : (f : List ℕ) (at n : ℕ) (all : List Slot) (next i : ℕ) → n ≤ i → length all ≤ i → Walked f at n all next i → all ≡ slots_in 0 (drop at f) n
walked_all f at n all next i h k w =
    let none : n - i ≡ 0 = omega arith in
    sym (w.same ∙ rw (none, slots_zero i (drop next f), take_all i all k) (append-nil all))

-- one number of four octets more
pub fours_more : (f : List ℕ) (k : ℕ) → fours_in f (suc k) ≡ fours_in f k ++ (four_at f (k * 4) ∷ [])
fours_more f zero = refl
fours_more f (suc k) =
    let e : suc k * 4 ≡ 4 + k * 4 = omega arith in
    ap (λ (l : List ℕ). four_at f 0 ∷ l) (fours_more (drop 4 f) k ∙ rw (four_behind 4 f (k * 4), e))

pub four_next : (from : ℕ) (f ns : List ℕ) (k v : ℕ) → k < length ns → v ≡ four_at f (from + k * 4) → take k ns ≡ fours_in (drop from f) k
    → take (k + 1) (set ns k v) ≡ fours_in (drop from f) (k + 1)
four_next from f ns k v h e left = rw (add-one k, fours_more (drop from f) k, four_behind from f (k * 4), ← e, ← left) (take-suc-set ns k v h)

-- the smaller of two numbers
pub least_min : (a b : ℕ) → min a b ≡ least a b
least_min a b = grind (arith, nat_tests)
