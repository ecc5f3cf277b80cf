-- Laws of the first element that passes a test, over any element type.
--   placed, unplaced            `place` says what `first`, `upd` and `marked` do: at a place that is found, none before it passes; and where
--                               nothing is found
--   none-replicate              `none` as so many times false
--   marked-placed               `marked` as one flag set among so many
--   some_nothing                nothing is found if nothing passes
--   upd_comm                    two changes commute where neither meets what the other changes
--   first-after, place_after, marked-after, some_after     what a search finds after such a change is what it finds before
--   none_after, length-after    as many flags, and as many elements, after any change
-- Assumes nothing.
use Rattle.std.specs.Prelude.{Some, None}
use Prim.Native.Nat.{ℕ, zero, suc, ◌+◌, ◌-◌, ◌≤◌, ◌<◌}
use mathlib.Core.Path.{◌≡◌, refl, ap, ◌∙◌}
use mathlib.Core.Bool.{Bool, true, false}
use mathlib.Core.List.{List, [], ◌∷◌}
use native.Mathlib.Omega.{arith}
use lib.ListN.{length, get_or, set, replicate}
use Rattle.std.specs.List.{list_any}
use Rattle.channels.proofs.Cases.{by_test, clash}
use Rattle.std.specs.List.{position_from}
use Rattle.first.specs.First.{place, first, upd, none, marked}

-- the first of xs that passes p is at i
pub record Placed {A : Type 0} (p : A → Bool) (d : A) (xs : List A) (i : ℕ) : Type 0 where
  pub below : i < length xs
  pub passes : p (get_or xs i d) ≡ true
  pub earlier : (k : ℕ) → k < i → p (get_or xs k d) ≡ false
  pub found : first p d xs ≡ get_or xs i d
  pub changed : (f : A → A) → upd p f xs ≡ set xs i (f (get_or xs i d))
  pub flagged : marked p xs ≡ set (none xs) i true
  pub some : list_any p xs ≡ true

-- none of xs passes p
pub record Unplaced {A : Type 0} (p : A → Bool) (d : A) (xs : List A) : Type 0 where
  pub found : first p d xs ≡ d
  pub changed : (f : A → A) → upd p f xs ≡ xs
  pub flagged : marked p xs ≡ none xs
  pub some : list_any p xs ≡ false

module _ {A : Type 0} (p : A → Bool) (d : A) where
  pub placed_head : (x : A) (xs : List A) → p x ≡ true → Placed p d (x ∷ xs) 0
  placed_head x xs e =
      record {
        below = omega arith;
        passes = e;
        earlier = λ k h. absurd (omega (arith, h));
        found = rw e;
        changed = λ f. rw e;
        flagged = rw e;
        some = rw e;
      }

  earlier_tail : (x : A) (xs : List A) (i : ℕ) → p x ≡ false → ((k : ℕ) → k < i → p (get_or xs k d) ≡ false)
      → (k : ℕ) → k < suc i → p (get_or (x ∷ xs) k d) ≡ false
  earlier_tail x xs i e before zero h = e
  earlier_tail x xs i e before (suc k) h = before k (omega arith)

  pub placed_tail : (x : A) (xs : List A) (i : ℕ) → p x ≡ false → Placed p d xs i → Placed p d (x ∷ xs) (suc i)
  placed_tail x xs i e r =
      record {
        below = omega arith;
        passes = r.passes;
        earlier = earlier_tail x xs i e r.earlier;
        found = rw e r.found;
        changed = λ f. rw e (ap (λ (l : List A). x ∷ l) (r.changed f));
        flagged = rw e (ap (λ (l : List Bool). false ∷ l) r.flagged);
        some = rw e r.some;
      }

  pub placed_from : (n : ℕ) (xs : List A) (i : ℕ) → position_from p n xs ≡ Some i → (n ≤ i) × Placed p d xs (i - n)
  placed_from n [] i e = let z : ◌≡◌ {A = ℕ} 0 1 = cc in absurd (omega arith)
  placed_from n (x ∷ xs) i e =
      by_test (p x)
      (λ t.
      let here : Some n ≡ Some i = rw t at e in
      let same : n ≡ i = cc in
      let z : i - n ≡ 0 = omega arith in
      (omega arith, rw z (placed_head x xs t)))
      (λ t.
      let ih = placed_from (n + 1) xs i (rw t at e) in
      let z : i - n ≡ suc (i - (n + 1)) = omega (arith, ih.0) in
      (omega (arith, ih.0), rw z (placed_tail x xs (i - (n + 1)) t ih.1)))

  pub placed : (xs : List A) (i : ℕ) → place p xs ≡ Some i → Placed p d xs i
  placed xs i e =
      let z : i - 0 ≡ i = omega arith in
      rw z at (placed_from 0 xs i e).1

  pub unplaced_from : (n : ℕ) (xs : List A) → position_from p n xs ≡ None → Unplaced p d xs
  unplaced_from n [] e = record { found = refl; changed = λ f. refl; flagged = refl; some = refl }
  unplaced_from n (x ∷ xs) e =
      by_test (p x)
      (λ t.
      let here : Some n ≡ None = rw t at e in
      let z : ◌≡◌ {A = ℕ} 0 1 = cc in
      absurd (omega arith))
      (λ t.
      let ih = unplaced_from (n + 1) xs (rw t at e) in
      record {
        found = rw t ih.found;
        changed = λ f. rw t (ap (λ (l : List A). x ∷ l) (ih.changed f));
        flagged = rw t (ap (λ (l : List Bool). false ∷ l) ih.flagged);
        some = rw t ih.some;
      })

  pub unplaced : (xs : List A) → place p xs ≡ None → Unplaced p d xs
  unplaced xs e = unplaced_from 0 xs e

module _ {A : Type 0} where
  pub none-replicate : (xs : List A) → none xs ≡ replicate (length xs) false
  none-replicate [] = refl
  none-replicate (x ∷ xs) = ap (λ (l : List Bool). false ∷ l) (none-replicate xs)

  pub marked-placed : (p : A → Bool) (d : A) (xs : List A) (i : ℕ) → place p xs ≡ Some i → marked p xs ≡ set (replicate (length xs) false) i true
  marked-placed p d xs i e = (placed p d xs i e).flagged ∙ rw (none-replicate xs)

  pub nothing_from : (p : A → Bool) (n : ℕ) (xs : List A) → list_any p xs ≡ false → position_from p n xs ≡ None
  nothing_from p n [] e = refl
  nothing_from p n (x ∷ xs) e = by_test (p x) (λ t. clash (rw t) e) (λ t. rw t (nothing_from p (n + 1) xs (rw t at e)))

  pub some_nothing : (p : A → Bool) (xs : List A) → list_any p xs ≡ false → place p xs ≡ None
  some_nothing p xs e = nothing_from p 0 xs e

-- what passes a does not pass b, neither before nor after f
abbrev pub Off : {A : Type 0} → (A → Bool) → (A → Bool) → (A → A) → Type 0
Off {A} b a f = (x : A) → a x ≡ true → (b x ≡ false) × (b (f x) ≡ false)

module _ {A : Type 0} (a b : A → Bool) (f : A → A) (off : Off b a f) where
  pub first-after : (d : A) (xs : List A) → first b d (upd a f xs) ≡ first b d xs
  first-after d [] = refl
  first-after d (x ∷ xs) =
      by_test (a x)
      (λ t. rw (t, (off x t).0, (off x t).1))
      (λ t. by_test (b x) (λ u. rw (t, u)) (λ u. rw (t, u) (first-after d xs)))

  pub place_after_from : (n : ℕ) (xs : List A) → position_from b n (upd a f xs) ≡ position_from b n xs
  place_after_from n [] = refl
  place_after_from n (x ∷ xs) =
      by_test (a x)
      (λ t. rw (t, (off x t).0, (off x t).1))
      (λ t. by_test (b x) (λ u. rw (t, u)) (λ u. rw (t, u) (place_after_from (n + 1) xs)))

  pub place_after : (xs : List A) → place b (upd a f xs) ≡ place b xs
  place_after xs = place_after_from 0 xs

  pub some_after : (xs : List A) → list_any b (upd a f xs) ≡ list_any b xs
  some_after [] = refl
  some_after (x ∷ xs) =
      by_test (a x)
      (λ t. rw (t, (off x t).0, (off x t).1))
      (λ t. by_test (b x) (λ u. rw (t, u)) (λ u. rw (t, u) (some_after xs)))

module _ {A : Type 0} (a : A → Bool) (f : A → A) where
  pub none_after : (xs : List A) → none (upd a f xs) ≡ none xs
  none_after [] = refl
  none_after (x ∷ xs) = by_test (a x) (λ t. rw t) (λ t. rw t (ap (λ (l : List Bool). false ∷ l) (none_after xs)))

  pub length-after : (xs : List A) → length (upd a f xs) ≡ length xs
  length-after [] = refl
  length-after (x ∷ xs) = by_test (a x) (λ t. rw t) (λ t. rw t (ap suc (length-after xs)))

module _ {A : Type 0} (a b : A → Bool) (f : A → A) (off : Off b a f) where
  pub marked-after : (xs : List A) → marked b (upd a f xs) ≡ marked b xs
  marked-after [] = refl
  marked-after (x ∷ xs) =
      by_test (a x)
      (λ t. rw (t, (off x t).0, (off x t).1))
      (λ t. by_test (b x)
      (λ u. rw (t, u) (ap (λ (l : List Bool). true ∷ l) (none_after a f xs)))
      (λ u. rw (t, u) (ap (λ (l : List Bool). false ∷ l) (marked-after xs))))

module _ {A : Type 0} (a b : A → Bool) (f g : A → A) (off : Off b a f) (off' : Off a b g) where
  pub upd_comm : (xs : List A) → upd a f (upd b g xs) ≡ upd b g (upd a f xs)
  upd_comm [] = refl
  upd_comm (x ∷ xs) =
      by_test (a x)
      (λ t. simp (t, (off x t).0, (off x t).1))
      (λ t. by_test (b x)
      (λ u. simp (t, u, (off' x u).1))
      (λ u. simp (t, u) (ap (λ (l : List A). x ∷ l) (upd_comm xs))))
