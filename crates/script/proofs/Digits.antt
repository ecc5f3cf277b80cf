-- Laws of the reading of a number, digit by digit.
--   value_grows      digits never make a value smaller
--   number_more      a digit that is taken leaves the same number to read
--   number_bad       a digit that is not taken spoils the whole
--   none_at, more_at   the same at a place of a word
-- Assumes nothing.
use Rattle.std.proofs.Common.{◌≡◌, ℕ, ◌+◌, ◌*◌, ◌-◌, ◌≤◌, ◌<◌, List, ◌∷◌, [], leb, Some, None, suc, eqb, length, get_or, drop, drop-cons, add-one, arith}
use borrow.Author.Tests.{leb-true, leb-false, lt-leb}
use Rattle.octets.proofs.Cases.{by_test}
use Rattle.script.specs.Decimal.{is_digit, all_digits, value_from, with_digit, number_from, number_of}

pub value_grows : (w : List ℕ) (v : ℕ) → v ≤ value_from v w
value_grows [] v = omega arith
value_grows (o ∷ os) v = omega (arith, value_grows os (v * 10 + (o - 48)))

-- the two answers to a digit, with what they say
pub number_more : (v o m : ℕ) (os : List ℕ) → Some m ≡ with_digit v o → (number_from v (o ∷ os) ≡ number_from m os) × (m ≤ 18446744073709551615)
number_more v o m os h = by_test (is_digit o)
    (λ e. by_test (leb (v * 10 + (o - 48)) 18446744073709551615)
    (λ f. let q : v * 10 + (o - 48) ≡ m = (let g = rw (e, f) at h in cc) in (rw (e, q), rw q at (leb-true (v * 10 + (o - 48)) 18446744073709551615 f)))
    (λ f. let g = rw (e, f) at h in cc))
    (λ e. let g = rw e at h in cc)

pub number_bad : (v o : ℕ) (os : List ℕ) → None ≡ with_digit v o → None ≡ number_from v (o ∷ os)
number_bad v o os h = by_test (is_digit o)
    (λ e. by_test (leb (v * 10 + (o - 48)) 18446744073709551615)
    (λ f. let g = rw (e, f) at h in cc)
    (λ f.
    let big : 18446744073709551615 < value_from (v * 10 + (o - 48)) os = omega (arith, leb-false (v * 10 + (o - 48)) 18446744073709551615 f, value_grows os (v * 10 + (o - 48))) in
    by_test (all_digits os) (λ g. rw (e, g, lt-leb _ _ big)) (λ g. rw (e, g))))
    (λ e. rw e)

module _ (w : List ℕ) (v i : ℕ) (h : i < length w) (same : number_from 0 w ≡ number_from v (drop i w)) where
  pub none_at : None ≡ with_digit v (get_or w i 0) → None ≡ number_of w
  none_at n =
      let e : None ≡ number_from 0 w = rw (same, drop-cons w i 0 h) (number_bad v (get_or w i 0) (drop (suc i) w) n) in
      by_test (eqb (length w) 0) (λ z. rw z) (λ z. rw z e)

  pub more_at : (m : ℕ) → Some m ≡ with_digit v (get_or w i 0) → (m ≤ 18446744073709551615) × (number_from 0 w ≡ number_from m (drop (i + 1) w))
  more_at m n =
      let more = number_more v (get_or w i 0) m (drop (suc i) w) n in
      (more.1, rw (same, drop-cons w i 0 h, add-one) more.0)
