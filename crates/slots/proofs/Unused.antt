-- Laws of the lowest reference that is not in use.
--   unused_not_here          for the loop: r is in use
--   unused_found             what is found: it is the lowest, and not in use if it is one of those tried
--   unused_is_unused         the reference that is found is not in use: fewer slots than references cannot have them all
--   unused_is_lowest         every reference from 1 below it is in use
-- Assumes nothing.
use Prim.Native.Nat.{ℕ, zero, suc, ◌+◌, ◌-◌, ◌≤◌, ◌<◌}
use mathlib.Core.Path.{◌≡◌, refl, sym, ap, ◌∙◌}
use mathlib.Core.Bool.{Bool, true, false, cond}
use mathlib.Core.List.{List, [], ◌∷◌}
use native.Mathlib.Omega.{arith}
use lib.Dec.{ltb}
use lib.ListN.{length}
use borrow.Author.Tests.{ltb-true, ltb-false}
use Rattle.std.specs.List.{list_any}
use Rattle.channels.proofs.Cases.{by_test, clash}
use Rattle.calls.specs.declared.Slot.{Slot}
use Rattle.calls.specs.Calls.{is_call}
use Rattle.calls.proofs.Calls.{call_named_once}
use Rattle.slots.specs.Slots.{in_use, unused_from, unused_reference}

module _ (end r : ℕ) (ss : List Slot) where
  pub unused_not_here : r < end → in_use r ss ≡ true → unused_from r (end - r) ss ≡ unused_from (r + 1) (end - (r + 1)) ss
  unused_not_here h e =
      let n : end - r ≡ suc (end - (r + 1)) = omega arith in
      rw (n, e)

-- the list without the first that passes
abbrev without : {A : Type 0} → (A → Bool) → List A → List A
without p [] = []
without p (x ∷ xs) = cond (p x) xs (x ∷ without p xs)

length_without : {A : Type 0} (p : A → Bool) (xs : List A) → list_any p xs ≡ true → length xs ≡ suc (length (without p xs))
length_without p [] e = clash e refl
length_without p (x ∷ xs) e = by_test (p x) (λ t. rw t) (λ t. rw t (ap suc (length_without p xs (rw t at e))))

some_without : {A : Type 0} (p q : A → Bool) (xs : List A) → ((x : A) → p x ≡ true → q x ≡ false) → list_any q xs ≡ list_any q (without p xs)
some_without p q [] h = refl
some_without p q (x ∷ xs) h =
    by_test (p x)
    (λ t. rw (t, h x t))
    (λ t. by_test (q x) (λ u. rw (t, u)) (λ u. rw (t, u) (some_without p q xs h)))

other_reference : (r q : ℕ) → (r ≡ q → ⊥) → (s : Slot) → is_call true r s ≡ true → is_call true q s ≡ false
other_reference r q h s e = by_test (is_call true q s) (λ t. absurd (h (call_named_once true true r q s e t).1)) (λ t. t)

-- k slots at most, and k references from n in use: no reference behind those is
pigeonhole : (k n : ℕ) (ss : List Slot) → length ss ≤ k → ((r : ℕ) → n ≤ r → r < n + k → in_use r ss ≡ true) → (x : ℕ) → n + k ≤ x → in_use x ss ≡ false
pigeonhole zero n [] h used x above = refl
pigeonhole zero n (s ∷ ss) h used x above = absurd (omega arith)
pigeonhole (suc k) n ss h used x above =
    let last = is_call true (n + k) in
    let u : in_use (n + k) ss ≡ true = used (n + k) (omega arith) (omega arith) in
    let same : (r : ℕ) → (n + k ≡ r → ⊥) → in_use r ss ≡ in_use r (without last ss) =
    λ r d. some_without last (is_call true r) ss (other_reference (n + k) r d) in
    same x (λ e. omega arith)
    ∙ pigeonhole k n (without last ss) (omega (arith, length_without last ss u))
    (λ r low high. sym (same r (λ e. omega arith)) ∙ used r low (omega arith)) x (omega arith)

pub record Unused (r k : ℕ) (ss : List Slot) (u : ℕ) : Type 0 where
  pub low : r ≤ u
  pub high : u ≤ r + k
  pub free : u < r + k → in_use u ss ≡ false
  pub below : (q : ℕ) → r ≤ q → q < u → in_use q ss ≡ true

pub unused_found : (k r : ℕ) (ss : List Slot) → Unused r k ss (unused_from r k ss)
unused_found zero r ss = record { low = omega arith; high = omega arith; free = λ h. absurd (omega arith); below = λ q a b. absurd (omega arith) }
unused_found (suc k) r ss =
    by_test (in_use r ss)
    (λ t.
    let ih = unused_found k (r + 1) ss in
    rw t
    (record {
      low = omega (arith, ih.low);
      high = omega (arith, ih.high);
      free = λ h. ih.free (omega arith);
      below = λ q a b. by_test (ltb r q) (λ lt. ih.below q (omega (arith, ltb-true r q lt)) b) (λ le. rw (let e : q ≡ r = omega (arith, ltb-false r q le) in e) t);
    }))
    (λ t. rw t (record { low = omega arith; high = omega arith; free = λ h. t; below = λ q a b. absurd (omega arith) }))

pub unused_is_unused : (ss : List Slot) → in_use (unused_reference ss) ss ≡ false
unused_is_unused ss =
    let u = unused_found (length ss) 1 ss in
    by_test (ltb (unused_reference ss) (1 + length ss))
    (λ lt. u.free (ltb-true _ _ lt))
    (λ le.
    let all : unused_reference ss ≡ 1 + length ss = omega (arith, ltb-false (unused_reference ss) (1 + length ss) le, u.high) in
    pigeonhole (length ss) 1 ss (omega arith) (λ r low high. u.below r low (omega arith)) (unused_reference ss) (omega arith))

pub unused_is_lowest : (ss : List Slot) (q : ℕ) → 1 ≤ q → q < unused_reference ss → in_use q ss ≡ true
unused_is_lowest ss = (unused_found (length ss) 1 ss).below
