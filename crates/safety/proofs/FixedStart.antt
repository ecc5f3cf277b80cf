-- Demand 1 holds of start: its two lists are refused if and only if they break a rule.
--   limits_ok, apart-before      a test of one range, and of two, says what the rule says
--   ascends, ascending_rules     the first n ranges ascend if and only if each keeps its limits and ends before the next begins
--   fixed_start
-- Assumes nothing.
use Prim.Native.Nat.{ℕ, zero, suc, ◌-◌, ◌/◌, ◌%◌, ◌<◌}
use mathlib.Core.Path.{◌≡◌, refl}
use mathlib.Core.Logic.{inl, inr, ⊎_elim}
use mathlib.Core.Bool.{true, false}
use mathlib.Core.List.{List}
use native.Mathlib.Omega.{arith}
use lib.Dec.{eqb, leb, ltb}
use lib.ListN.{length}
use borrow.Author.Tests.{eqb-true, eq-eqb, ne_eqb, leb-true, le-leb, ltb-true, lt-ltb}
use Rattle.channels.specs.declared.Range.{Range}
use Rattle.channels.proofs.Cases.{by_test, both}
use Rattle.provisioning.specs.Provisioning.{range_at, single_at, range_ok, apart, fits, ascending, ranges_ok, pairs_ok, provision}
use Rattle.provisioning.proofs.Below.{below_at}
use Rattle.provisioning.proofs.Accepted.{accepted_lists}
use Rattle.control.specs.Events.{start_of}
use Rattle.safety.specs.FixedAnswers.{Limits, Apart, RangeRules, PairRules, FixedStart}

ok_limits : (r : Range) → range_ok r ≡ true → Limits r
ok_limits r e =
    let a = both (leb r.vpci 255) _ e in
    let b = both (leb 32 r.first) _ a.1 in
    let d = both (leb r.last 65535) _ b.1 in
    record { vpci = leb-true _ _ a.0; first = leb-true _ _ b.0; last = leb-true _ _ d.0; order = leb-true _ _ d.1 }

limits_ok : (r : Range) → Limits r → range_ok r ≡ true
limits_ok r l = rw (le-leb _ _ l.vpci, le-leb _ _ l.first, le-leb _ _ l.last, le-leb _ _ l.order)

before-apart : (a b : Range) → apart a b ≡ true → Apart a b
before-apart a b e =
    by_test (ltb a.vpci b.vpci)
    (λ t. inl (ltb-true _ _ t))
    (λ t. let d = both (eqb a.vpci b.vpci) _ (rw t at e) in inr (eqb-true _ _ d.0, ltb-true _ _ d.1))

apart-before : (a b : Range) → Apart a b → apart a b ≡ true
apart-before a b =
    ⊎_elim
    (λ (h : a.vpci < b.vpci). rw (lt-ltb _ _ h))
    (λ (h : (a.vpci ≡ b.vpci) × (a.last < b.first)).
    by_test (ltb a.vpci b.vpci) (λ t. rw t) (λ t. rw (t, eq-eqb _ _ h.0, lt-ltb _ _ h.1)))

module _ (at : ℕ → Range) where
  -- the rules of the first n ranges
  pub record Ascend (n : ℕ) : Type 0 where
    pub limits : (k : ℕ) → k < n → Limits (at k)
    pub ascend : (k : ℕ) → suc k < n → Apart (at k) (at (suc k))

  fits_next : (k : ℕ) → fits at (suc k) ≡ true → Apart (at k) (at (suc k))
  fits_next k e =
      let z : eqb (suc k) 0 ≡ false = ne_eqb (suc k) 0 (λ h. omega arith) in
      let b : suc k - 1 ≡ k = omega arith in
      before-apart (at k) (at (suc k)) (rw (z, b) at (both (range_ok (at (suc k))) _ e).1)

  pub ascends : (n : ℕ) → ascending at n ≡ true → Ascend n
  ascends n e = record {
    limits = λ k below. ok_limits (at k) (both (range_ok (at k)) _ (below_at (fits at) n k e below)).0;
    ascend = λ k below. fits_next k (below_at (fits at) n (suc k) e below);
  }

  next_fits : (k : ℕ) → Ascend (suc k) → fits at k ≡ true
  next_fits zero a = rw (limits_ok (at 0) (a.limits 0 (omega arith)))
  next_fits (suc k) a =
      let z : eqb (suc k) 0 ≡ false = ne_eqb (suc k) 0 (λ h. omega arith) in
      let b : suc k - 1 ≡ k = omega arith in
      rw (limits_ok (at (suc k)) (a.limits (suc k) (omega arith)), z, b) (apart-before (at k) (at (suc k)) (a.ascend k (omega arith)))

  pub ascending_rules : (n : ℕ) → Ascend n → ascending at n ≡ true
  ascending_rules zero a = refl
  ascending_rules (suc n) a =
      rw (ascending_rules n (record { limits = λ k below. a.limits k (omega arith); ascend = λ k below. a.ascend k (omega arith) }))
      (next_fits n a)

pub range_rules : (s : List ℕ) → ranges_ok s ≡ true → RangeRules s
range_rules s e =
    let a = both (eqb (length s % 3) 0) _ e in
    let b = both (leb 1 (length s / 3)) _ a.1 in
    let d = both (leb (length s / 3) 4) _ b.1 in
    let r = ascends (range_at s) (length s / 3) d.1 in
    record { whole = eqb-true _ _ a.0; least = leb-true _ _ b.0; most = leb-true _ _ d.0; limits = r.limits; ascend = r.ascend }

pub rules_range : (s : List ℕ) → RangeRules s → ranges_ok s ≡ true
rules_range s r =
    rw (eq-eqb _ _ r.whole, le-leb _ _ r.least, le-leb _ _ r.most)
    (ascending_rules (range_at s) (length s / 3) (record { limits = r.limits; ascend = r.ascend }))

pub pair_rules : (s : List ℕ) → pairs_ok s ≡ true → PairRules s
pair_rules s e =
    let a = both (eqb (length s % 2) 0) _ e in
    let b = both (leb (length s / 2) 8) _ a.1 in
    let r = ascends (single_at s) (length s / 2) b.1 in
    record { whole = eqb-true _ _ a.0; most = leb-true _ _ b.0; limits = r.limits; ascend = r.ascend }

pub rules_pair : (s : List ℕ) → PairRules s → pairs_ok s ≡ true
rules_pair s r =
    rw (eq-eqb _ _ r.whole, le-leb _ _ r.most)
    (ascending_rules (single_at s) (length s / 2) (record { limits = r.limits; ascend = r.ascend }))

module _ (ranges pairs : List ℕ) where
  pub start_accepts : (start_of ranges pairs).refusal ≡ 0 → (provision ranges pairs).accepted ≡ true
  start_accepts e = by_test (provision ranges pairs).accepted (λ t. t) (λ t. let z : ◌≡◌ {A = ℕ} 9 0 = rw t at e in absurd (omega arith))

  start_lists : (start_of ranges pairs).refusal ≡ 0 → RangeRules ranges × PairRules pairs
  start_lists e =
      let a = accepted_lists ranges pairs (start_accepts e) in
      (range_rules ranges a.0, pair_rules pairs a.1)

  start_zero : RangeRules ranges → PairRules pairs → (start_of ranges pairs).refusal ≡ 0
  start_zero r p = rw (rules_range ranges r, rules_pair pairs p)

  start_nine : ¬ (RangeRules ranges × PairRules pairs) → (start_of ranges pairs).refusal ≡ 9
  start_nine h =
      by_test (provision ranges pairs).accepted
      (λ t. absurd (h (start_lists (rw t))))
      (λ t. rw t)

  pub fixed_start : FixedStart ranges pairs
  fixed_start = record {
    accepted = start_zero;
    refused = start_nine;
    lists = start_lists;
    slots = refl;
    last = refl;
    pool = λ e. (accepted_lists ranges pairs (start_accepts e)).2;
  }
