-- The order of channels by VPCI and then VCI, where no pair comes behind every pair. A channel d may stand behind c if it is no pair, or c is before it:
-- `is_none d || channel_before c d`.
--   Lower                       what the order of two pairs says of their numbers
--   lower_true, true_lower      `channel_before` tests it
--   lower_false                 otherwise the other pair is lower, or they are the same
--   lower_chain, not_lower      a pair lower than a lower one is lower, and no two pairs are lower than each other
--   before_pair, none_behind    what is before something is a pair; behind what is no pair none may stand
--   none_pair                   what is no pair is not the pair of p and v
--   not_before, behind_chain    what may stand behind is not before; by way of a third
--   behind_pair, not_itself     what is not before a pair may stand behind it or is that pair; a pair is not before itself
--   never_again                 behind what is not before a pair that pair does not come
--   named_pair, same_pair       what is the pair of p and v is that of q and w if these are the same numbers
-- Assumes nothing.
use Rattle.std.specs.Prelude.{Option, Some, None}
use Prim.Native.Nat.{ℕ, ◌<◌}
use mathlib.Core.Path.{◌≡◌, refl}
use mathlib.Core.Logic.{◌⊎◌, inl, inr, ⊎_elim}
use mathlib.Core.Bool.{true, false, ◌&&◌, ◌||◌, or-true}
use native.Mathlib.Omega.{arith}
use lib.Dec.{eqb, ltb}
use borrow.Author.Tests.{ltb-true, ltb-false, eqb-true, eqb-false, lt-ltb, eq-eqb}
use Rattle.identifier.specs.Pair.{pair, is_pair}
use Rattle.std.specs.Option.{is_none}
use Rattle.channels.specs.Order.{channel_before}
use Rattle.identifier.specs.declared.Pair.{Pair}
use Rattle.channels.proofs.Cases.{by_test, clash, both}

abbrev pub Lower : ℕ → ℕ → ℕ → ℕ → Type 0
Lower p v q w = (p < q) ⊎ ((p ≡ q) × (v < w))

module _ (p v q w : ℕ) where
  pub lower_true : Lower p v q w → channel_before (Some (pair p v)) (Some (pair q w)) ≡ true
  lower_true = ⊎_elim (λ (h : p < q). rw (lt-ltb p q h)) (λ (h : (p ≡ q) × (v < w)). rw (eq-eqb p q h.0, lt-ltb v w h.1) (or-true (ltb p q)))

  pub true_lower : channel_before (Some (pair p v)) (Some (pair q w)) ≡ true → Lower p v q w
  true_lower e =
      by_test (ltb p q)
      (λ a. inl (ltb-true p q a))
      (λ a. by_test (eqb p q)
      (λ b. by_test (ltb v w)
      (λ d. inr (eqb-true p q b, ltb-true v w d))
      (λ d. clash e (rw (a, b, d))))
      (λ b. clash e (rw (a, b))))

  pub lower_false : channel_before (Some (pair p v)) (Some (pair q w)) ≡ false → Lower q w p v ⊎ ((p ≡ q) × (v ≡ w))
  lower_false e =
      by_test (ltb p q)
      (λ a. clash (rw a) e)
      (λ a. by_test (eqb p q)
      (λ b. by_test (ltb v w)
      (λ d. clash (rw (a, b, d)) e)
      (λ d. by_test (eqb v w)
      (λ g. inr (eqb-true p q b, eqb-true v w g))
      (λ g. inl (inr (omega (arith, eqb-true p q b), omega (arith, ltb-false v w d, eqb-false v w g))))))
      (λ b. inl (inl (omega (arith, ltb-false p q a, eqb-false p q b)))))

pub lower_chain : (p v q w a b : ℕ) → Lower p v q w → Lower q w a b → Lower p v a b
lower_chain p v q w a b =
    ⊎_elim
    (λ (h : p < q). ⊎_elim (λ (k : q < a). inl (omega arith)) (λ (k : (q ≡ a) × (w < b)). inl (omega (arith, k.0))))
    (λ (h : (p ≡ q) × (v < w)). ⊎_elim (λ (k : q < a). inl (omega (arith, h.0))) (λ (k : (q ≡ a) × (w < b)). inr (omega (arith, h.0, k.0), omega (arith, h.1, k.1))))

pub not_lower : (p v q w : ℕ) {P : Type 0} → Lower p v q w → Lower q w p v → P
not_lower p v q w =
    ⊎_elim
    (λ (h : p < q). ⊎_elim (λ (k : q < p). absurd (omega arith)) (λ (k : (q ≡ p) × (w < v)). absurd (omega (arith, k.0))))
    (λ (h : (p ≡ q) × (v < w)). ⊎_elim (λ (k : q < p). absurd (omega (arith, h.0))) (λ (k : (q ≡ p) × (w < v)). absurd (omega (arith, h.1, k.1))))

pub before_pair : (c d : Option Pair) → channel_before c d ≡ true → is_none c ≡ false
before_pair None d h = clash h refl
before_pair (Some pv) d h = refl

pub none_behind : (c d : Option Pair) → is_none c ≡ true → (is_none d || channel_before c d) ≡ true → is_none d ≡ true
none_behind c None n h = refl
none_behind None (Some qw) n h = clash h refl
none_behind (Some pv) (Some qw) n h = clash n refl

pub none_pair : (p v : ℕ) (d : Option Pair) → is_none d ≡ true → is_pair p v d ≡ false
none_pair p v None n = refl
none_pair p v (Some qw) n = clash n refl

pub not_before : (c d : Option Pair) → (is_none d || channel_before c d) ≡ true → channel_before d c ≡ false
not_before c None h = refl
not_before None (Some qw) h = clash h refl
not_before (Some pv) (Some qw) h =
    by_test (channel_before (Some qw) (Some pv)) (λ e. not_lower pv.vpci pv.vci qw.vpci qw.vci (true_lower pv.vpci pv.vci qw.vpci qw.vci h) (true_lower qw.vpci qw.vci pv.vpci pv.vci e)) (λ e. e)

pub behind_chain : (c d b : Option Pair) → (is_none d || channel_before c d) ≡ true → (is_none b || channel_before d b) ≡ true
    → (is_none b || channel_before c b) ≡ true
behind_chain c d None h k = refl
behind_chain c None (Some ab) h k = clash k refl
behind_chain None (Some qw) (Some ab) h k = clash h refl
behind_chain (Some pv) (Some qw) (Some ab) h k = lower_true pv.vpci pv.vci ab.vpci ab.vci (lower_chain pv.vpci pv.vci qw.vpci qw.vci ab.vpci ab.vci (true_lower pv.vpci pv.vci qw.vpci qw.vci h) (true_lower qw.vpci qw.vci ab.vpci ab.vci k))

module _ (p v : ℕ) where
  pub behind_pair : (d : Option Pair) → channel_before d (Some (pair p v)) ≡ false → is_pair p v d ≡ false → (is_none d || channel_before (Some (pair p v)) d) ≡ true
  behind_pair None e h = refl
  behind_pair (Some qw) e h =
      ⊎_elim
      (λ (l : Lower p v qw.vpci qw.vci). lower_true p v qw.vpci qw.vci l)
      (λ (s : (qw.vpci ≡ p) × (qw.vci ≡ v)). clash (rw (eq-eqb qw.vpci p s.0, eq-eqb qw.vci v s.1)) h)
      (lower_false qw.vpci qw.vci p v e)

  pub not_itself : (d : Option Pair) → is_pair p v d ≡ true → channel_before d (Some (pair p v)) ≡ false
  not_itself None h = refl
  not_itself (Some qw) h =
      let s = both (eqb qw.vpci p) (eqb qw.vci v) h in
      rw (eqb-true qw.vpci p s.0, eqb-true qw.vci v s.1)
      (by_test (channel_before (Some (pair p v)) (Some (pair p v))) (λ e. not_lower p v p v (true_lower p v p v e) (true_lower p v p v e)) (λ e. e))

  pub never_again : (c d : Option Pair) → (is_none d || channel_before c d) ≡ true → channel_before c (Some (pair p v)) ≡ false
      → (is_pair p v d ≡ false) × (channel_before d (Some (pair p v)) ≡ false)
  never_again c None h e = (refl, refl)
  never_again None (Some qw) h e = clash h refl
  never_again (Some ab) (Some qw) h e = (
    by_test (is_pair p v (Some qw))
        (λ t. let s = both (eqb qw.vpci p) (eqb qw.vci v) t in clash (rw (eqb-true qw.vpci p s.0, eqb-true qw.vci v s.1) at h) e)
        (λ t. t),
    by_test (channel_before (Some qw) (Some (pair p v)))
        (λ t. clash (lower_true ab.vpci ab.vci p v (lower_chain ab.vpci ab.vci qw.vpci qw.vci p v (true_lower ab.vpci ab.vci qw.vpci qw.vci h) (true_lower qw.vpci qw.vci p v t))) e)
        (λ t. t),
  )

  pub named_pair : (q w : ℕ) (d : Option Pair) → is_pair p v d ≡ true → is_pair q w d ≡ (eqb p q && eqb v w)
  named_pair q w None h = clash h refl
  named_pair q w (Some ab) h = let s = both (eqb ab.vpci p) (eqb ab.vci v) h in rw (eqb-true ab.vpci p s.0, eqb-true ab.vci v s.1)

  pub same_pair : (q w : ℕ) (d : Option Pair) → (eqb p q && eqb v w) ≡ true → is_pair q w d ≡ is_pair p v d
  same_pair q w d h = let s = both (eqb p q) (eqb v w) h in rw (eqb-true p q s.0, eqb-true v w s.1)
