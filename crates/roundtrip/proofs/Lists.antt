-- The lists of start, saved: their octets are those of their numbers.
--   ranges-octets, pairs_octets
--   Whole                      a list with as many numbers as its elements need, each with room in two octets
--   ranges_whole, pairs_whole  those that start accepts
-- Assumes nothing.
use Prim.Native.Nat.{ℕ, zero, suc, ◌+◌, ◌-◌, ◌*◌, ◌/◌, ◌%◌, ◌≤◌, ◌<◌}
use mathlib.Core.Path.{◌≡◌, refl, sym, ◌∙◌}
use mathlib.Core.Logic.{◌≢◌}
use mathlib.Core.Bool.{true}
use mathlib.Core.List.{List, [], ◌∷◌}
use native.Mathlib.Omega.{arith}
use lib.Dec.{eqb, leb, ltb}
use lib.ListN.{length, get_or, get_or-eq_default}
use borrow.Author.Tests.{le-leb, lt-ltb, le-ltb, ltb-true, ltb-false, leb-true, eqb-true, eqb-false}
use Rattle.channels.specs.Channels.{no_range}
use Rattle.channels.proofs.Cases.{by_test, both}
use Rattle.provisioning.specs.Provisioning.{range_at, single_at, entry_at, range_ok, fits, ranges_ok, pairs_ok, numbered}
use Rattle.provisioning.proofs.Below.{below_at}
use Rattle.provisioning.proofs.Accepted.{Limits, limits, ranges_lists}
use Rattle.fields.specs.Fields.{two, range_octets, channel_octets}
use Rattle.saved.specs.Form.{joined}

-- a list numbered from one further
numbered_shift : {A : Type 0} (f g : ℕ → A) → ((k : ℕ) → f (k + 1) ≡ g k) → (k n : ℕ) → numbered f (k + 1) n ≡ numbered g k n
numbered_shift f g h k zero = refl
numbered_shift f g h k (suc n) = rw (h k, numbered_shift f g h (k + 1) n)

module _ (a b d : ℕ) (s : List ℕ) where
  abbrev longer : List ℕ
  longer = a ∷ b ∷ d ∷ s

  third : (k : ℕ) → ltb (k + 1) (length longer / 3) ≡ ltb k (length s / 3)
  third k =
      by_test (ltb k (length s / 3))
      (λ y. lt-ltb (k + 1) (length longer / 3) (omega (arith, ltb-true k (length s / 3) y)) ∙ sym y)
      (λ n. le-ltb (k + 1) (length longer / 3) (omega (arith, ltb-false k (length s / 3) n)) ∙ sym n)

  range_shift : (k : ℕ) → range_at longer (k + 1) ≡ range_at s k
  range_shift k =
      let p : (k + 1) * 3 ≡ suc (suc (suc (k * 3))) = omega arith in
      let q : (k + 1) * 3 + 1 ≡ suc (suc (suc (k * 3 + 1))) = omega arith in
      let r : (k + 1) * 3 + 2 ≡ suc (suc (suc (k * 3 + 2))) = omega arith in
      rw (third k, q, r, p)

-- where the list is at its end, there is no range
no_range_lem : (k : ℕ) → range_at [] k ≡ no_range
no_range_lem k = rw (le-ltb k 0 (omega arith))

no_ranges : (k n : ℕ) → joined range_octets (numbered (range_at []) k n) ≡ []
no_ranges k zero = refl
no_ranges k (suc n) = rw (no_range_lem k) (no_ranges (k + 1) n)

pub ranges-octets : (s : List ℕ) (n : ℕ) → length s % 3 ≡ 0 → length s / 3 ≤ n
    → ((k : ℕ) → k < length s / 3 → (range_at s k).first ≤ (range_at s k).last) → joined range_octets (numbered (range_at s) 0 n) ≡ joined two s
ranges-octets [] n whole few order = no_ranges 0 n
ranges-octets (a ∷ []) n whole few order = absurd (omega arith)
ranges-octets (a ∷ b ∷ []) n whole few order = absurd (omega arith)
ranges-octets (a ∷ b ∷ d ∷ s) n whole few order =
    let m : n ≡ suc (n - 1) = omega arith in
    let there : ltb 0 (length (a ∷ b ∷ d ∷ s) / 3) ≡ true = lt-ltb 0 (length (a ∷ b ∷ d ∷ s) / 3) (omega arith) in
    let up : leb b d ≡ true = le-leb b d (rw there at (order 0 (omega arith))) in
    let ih = ranges-octets s (n - 1) (omega arith) (omega arith) (λ k h. rw (range_shift a b d s k) at (order (k + 1) (omega arith))) in
    rw (m, there, up, numbered_shift (range_at (a ∷ b ∷ d ∷ s)) (range_at s) (range_shift a b d s) 0 (n - 1), ih)

module _ (a b : ℕ) (s : List ℕ) where
  second : (k : ℕ) → ltb (k + 1) (length (a ∷ b ∷ s) / 2) ≡ ltb k (length s / 2)
  second k =
      by_test (ltb k (length s / 2))
      (λ y. lt-ltb (k + 1) (length (a ∷ b ∷ s) / 2) (omega (arith, ltb-true k (length s / 2) y)) ∙ sym y)
      (λ n. le-ltb (k + 1) (length (a ∷ b ∷ s) / 2) (omega (arith, ltb-false k (length s / 2) n)) ∙ sym n)

  entry_shift : (k : ℕ) → entry_at (a ∷ b ∷ s) (k + 1) ≡ entry_at s k
  entry_shift k =
      let p : (k + 1) * 2 ≡ suc (suc (k * 2)) = omega arith in
      let q : (k + 1) * 2 + 1 ≡ suc (suc (k * 2 + 1)) = omega arith in
      rw (second k, q, p)

no_entries : (k n : ℕ) → joined channel_octets (numbered (entry_at []) k n) ≡ []
no_entries k zero = refl
no_entries k (suc n) = rw (le-ltb k 0 (omega arith)) (no_entries (k + 1) n)

pub pairs_octets : (s : List ℕ) (n : ℕ) → length s % 2 ≡ 0 → length s / 2 ≤ n → joined channel_octets (numbered (entry_at s) 0 n) ≡ joined two s
pairs_octets [] n whole few = no_entries 0 n
pairs_octets (a ∷ []) n whole few = absurd (omega arith)
pairs_octets (a ∷ b ∷ s) n whole few =
    let m : n ≡ suc (n - 1) = omega arith in
    let there : ltb 0 (length (a ∷ b ∷ s) / 2) ≡ true = lt-ltb 0 (length (a ∷ b ∷ s) / 2) (omega arith) in
    let ih = pairs_octets s (n - 1) (omega arith) (omega arith) in
    rw (m, there, numbered_shift (entry_at (a ∷ b ∷ s)) (entry_at s) (entry_shift a b s) 0 (n - 1), ih)

-- a list of so many elements of n numbers each, every number with room in two octets
pub record Whole (n most : ℕ) (s : List ℕ) : Type 0 where
  pub whole : length s % n ≡ 0
  pub few : length s / n ≤ most
  pub small : (k : ℕ) → get_or s k 0 < 65536

-- a number is in one of its list's elements, or behind the end
behind_small : (s : List ℕ) → ((k : ℕ) → k < length s → get_or s k 0 < 65536) → (k : ℕ) → get_or s k 0 < 65536
behind_small s h k =
    by_test (ltb k (length s))
    (λ y. h k (ltb-true k (length s) y))
    (λ n. rw (get_or-eq_default s 0 {n = k} (ltb-false k (length s) n)) (omega arith))

triple_small : (s : List ℕ) (j : ℕ) → j < length s / 3 → Limits (range_at s j) → (get_or s (j * 3) 0 < 65536) × (get_or s (j * 3 + 1) 0 < 65536) × (get_or s (j * 3 + 2) 0 < 65536)
triple_small s j h l =
    let m = rw (lt-ltb j (length s / 3) h) at l in
    (omega (arith, m.vpci_high), omega (arith, m.high, m.order), omega (arith, m.high))

third_of : (s : List ℕ) (k : ℕ) → (get_or s (k / 3 * 3) 0 < 65536) × (get_or s (k / 3 * 3 + 1) 0 < 65536) × (get_or s (k / 3 * 3 + 2) 0 < 65536) → get_or s k 0 < 65536
third_of s k m =
    by_test (eqb (k % 3) 0)
    (λ y. let z : k / 3 * 3 ≡ k = omega (arith, eqb-true (k % 3) 0 y) in rw z at m.0)
    (λ n.
    by_test (eqb (k % 3) 1)
    (λ y. let z : k / 3 * 3 + 1 ≡ k = omega (arith, eqb-true (k % 3) 1 y) in rw z at m.1)
    (λ o.
    let p : k % 3 ≢ 0 = eqb-false (k % 3) 0 n in
    let q : k % 3 ≢ 1 = eqb-false (k % 3) 1 o in
    let z : k / 3 * 3 + 2 ≡ k = omega (arith, p, q) in rw z at m.2))

pub ranges_whole : (s : List ℕ) → ranges_ok s ≡ true → Whole 3 4 s
ranges_whole s e =
    let whole : length s % 3 ≡ 0 = eqb-true (length s % 3) 0 (both (eqb (length s % 3) 0) _ e).0 in
    let l = ranges_lists s e in
    record {
      whole = whole;
      few = l.few;
      small = behind_small s (λ k h. third_of s k (triple_small s (k / 3) (omega arith) (l.each (k / 3) (omega arith))));
    }

single_small : (s : List ℕ) (j : ℕ) → j < length s / 2 → Limits (single_at s j) → (get_or s (j * 2) 0 < 65536) × (get_or s (j * 2 + 1) 0 < 65536)
single_small s j h l =
    let m = rw (lt-ltb j (length s / 2) h) at l in
    (omega (arith, m.vpci_high), omega (arith, m.high))

half_of : (s : List ℕ) (k : ℕ) → (get_or s (k / 2 * 2) 0 < 65536) × (get_or s (k / 2 * 2 + 1) 0 < 65536) → get_or s k 0 < 65536
half_of s k m =
    by_test (eqb (k % 2) 0)
    (λ y. let z : k / 2 * 2 ≡ k = omega (arith, eqb-true (k % 2) 0 y) in rw z at m.0)
    (λ n.
    let p : k % 2 ≢ 0 = eqb-false (k % 2) 0 n in
    let z : k / 2 * 2 + 1 ≡ k = omega (arith, p) in rw z at m.1)

pub pairs_whole : (s : List ℕ) → pairs_ok s ≡ true → Whole 2 8 s
pairs_whole s e =
    let a = both (eqb (length s % 2) 0) _ e in
    let b = both (leb (length s / 2) 8) _ a.1 in
    let whole : length s % 2 ≡ 0 = eqb-true (length s % 2) 0 a.0 in
    let each : (j : ℕ) → j < length s / 2 → Limits (single_at s j) =
    λ j h. limits (single_at s j) (both (range_ok (single_at s j)) _ (below_at (fits (single_at s)) (length s / 2) j b.1 h)).0 in
    record {
      whole = whole;
      few = leb-true _ _ b.0;
      small = behind_small s (λ k h. half_of s k (single_small s (k / 2) (omega arith) (each (k / 2) (omega arith))));
    }
