-- A pass over a list, each of whose elements may be a pair: what its loop keeps.
--   many_most, many_few, many_all         at most as many pass a test as there are; as many where it always passes
--   Passed                      the first i elements are read
--   passed_more, passed_end     one more; all
--   place_read, slot_read       what one place, or one slot, has is read
--   passed_room                 the count has room for one more
-- Over lists of any length. Assumes nothing.
use Prim.Native.Nat.{ℕ, ◌+◌, ◌*◌, ◌≤◌, ◌<◌, zero-le}
use mathlib.Core.Path.{◌≡◌, refl, sym}
use mathlib.Core.Bool.{Bool, true, cond, not, ◌||◌, or-false, or_assoc}
use Rattle.std.specs.Prelude.{Option, Some, None}
use mathlib.Core.List.{List, [], ◌∷◌, ◌++◌}
use native.Mathlib.Omega.{arith}
use native.Mathlib.Numerals.{add-one}
use lib.ListN.{length, take, get_or}
use lib.Seq.{take-suc, take_all, length-take-le}
use Rattle.std.specs.List.{list_any}
use Rattle.identifier.specs.Pair.{is_pair}
use Rattle.identifier.specs.declared.Pair.{Pair}
use Rattle.channels.specs.declared.Range.{Range}
use Rattle.channels.proofs.Cases.{by_test}
use Rattle.calls.specs.Calls.{empty_hold, is_live, pair_held, holds_pair, pair_of, entry_of}
use Rattle.calls.specs.declared.Hold.{Hold}
use Rattle.calls.specs.declared.Hold.TheVariants.{Empty, Live}
use Rattle.calls.specs.declared.Slot.{Slot}
use Rattle.search.specs.Search.{how_many, has_pair, there}
use Rattle.search.specs.Marks.{near, Read}
use Rattle.search.specs.declared.Marks.{Marks}
use Rattle.search.proofs.Marked.{read_then, read_same}

pub many_all : {A : Type 0} (xs : List A) → how_many (λ x. true) xs ≡ length xs
many_all [] = refl
many_all (x ∷ xs) = let rest = many_all xs in omega arith

module _ {A : Type 0} (p : A → Bool) where
  pub many_most : (xs : List A) → how_many p xs ≤ length xs
  many_most [] = zero-le
  many_most (x ∷ xs) = let rest = many_most xs in by_test (p x) (λ e. rw e (omega arith)) (λ e. rw e (omega arith))

  pub many_few : (xs : List A) (n : ℕ) → length xs ≡ n → how_many p xs ≤ n
  many_few xs n h = let most = many_most xs in omega arith

  many_append : (xs ys : List A) → how_many p (xs ++ ys) ≡ how_many p xs + how_many p ys
  many_append [] ys = omega arith
  many_append (x ∷ xs) ys = let rest = many_append xs ys in omega arith

  some_append : (xs ys : List A) → list_any p (xs ++ ys) ≡ (list_any p xs || list_any p ys)
  some_append [] ys = refl
  some_append (x ∷ xs) ys = rw (some_append xs ys) (sym (or_assoc (p x) (list_any p xs) (list_any p ys)))

  module _ (xs : List A) (i : ℕ) (d : A) (h : i < length xs) where
    many_next : how_many p (take (i + 1) xs) ≡ how_many p (take i xs) + cond (p (get_or xs i d)) 1 0
    many_next = rw (add-one i, take-suc xs i d h, many_append (take i xs) (get_or xs i d ∷ [])) (omega arith)

    some_next : list_any p (take (i + 1) xs) ≡ (list_any p (take i xs) || p (get_or xs i d))
    some_next = rw (add-one i, take-suc xs i d h, some_append (take i xs) (get_or xs i d ∷ []), or-false (p (get_or xs i d)))

module _ {A : Type 0} (has : A → Bool) (at : ℕ → ℕ → A → Bool) (rs : List Range) (xs : List A) (old : Marks) where
  abbrev pub Passed : ℕ → Marks → Type 0
  Passed i on = Read rs (λ p v. list_any (at p v) (take i xs)) (how_many has (take i xs)) old on

  pub passed_room : (i : ℕ) (on : Marks) → old.reads ≤ near → i ≤ length xs → i < near → Passed i on → on.reads < 3 * near
  passed_room i on few within h c =
      let count = c.count in
      let most = many_most has (take i xs) in
      let long = length-take-le i xs within in
      omega arith

  pub passed_more : (i : ℕ) (d : A) (on new : Marks) → i < length xs → Passed i on
      → Read rs (λ p v. at p v (get_or xs i d)) (cond (has (get_or xs i d)) 1 0) on new → Passed (i + 1) new
  passed_more i d on new h c one =
      read_same rs (λ p v. sym (some_next (at p v) xs i d h)) (sym (many_next has xs i d h)) (read_then rs c one)

  pub passed_end : (i : ℕ) (on : Marks) → length xs ≤ i → Passed i on → Read rs (λ p v. list_any (at p v) xs) (how_many has xs) old on
  passed_end i on h c = let all = take_all i xs h in rw all at c

-- what a place, or a slot, has is read
module _ (rs : List Range) {old new : Marks} where
  pub place_read : (e : Option Pair) → Read rs (λ p v. is_pair p v e) (there e) old new → Read rs (λ p v. is_pair p v e) (cond (has_pair e) 1 0) old new
  place_read None r = r
  place_read (Some c) r = r

  hold_read : (h : Hold) → Read rs (λ p v. is_pair p v (pair_of h)) (there (pair_of h)) old new
      → Read rs (λ p v. pair_held p v h) (cond (not (empty_hold h)) 1 0) old new
  hold_read Empty r = r
  hold_read (Live c q) r = r

  pub slot_read : (s : Slot) {e : Option Pair} → e ≡ entry_of s → Read rs (λ p v. is_pair p v e) (there e) old new
      → Read rs (λ p v. holds_pair p v s) (cond (is_live s) 1 0) old new
  slot_read s e r = hold_read s.hold (rw e at r)
