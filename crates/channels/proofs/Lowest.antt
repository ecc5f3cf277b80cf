-- What the lowest free pair is, for any test t and any list of ranges.
--   lowest_free_lem         a pair that is found lies in a range, and t does not name it
--   lowest-none         if none is found, t names every pair of every range
--   none-lowest         and the other way round
--   lowest_same         two tests that agree on every pair have one answer
-- Assumes nothing.
use Rattle.std.specs.Prelude.{Option, Some, None}
use Prim.Native.Nat.{ℕ, zero, suc, ◌+◌, ◌-◌, ◌≤◌, ◌<◌}
use mathlib.Core.Path.{◌≡◌, refl, ap, ◌∙◌, fun_ext}
use mathlib.Core.Logic.{◌⊎◌, inl, inr, ⊎_elim}
use mathlib.Core.Bool.{Bool, true, false, or-true}
use mathlib.Core.List.{List, [], ◌∷◌}
use native.Mathlib.Omega.{arith}
use lib.Dec.{eqb, leb}
use borrow.Author.Tests.{eqb-true, eqb-false, leb-true, eq-eqb, le-leb}
use Rattle.identifier.specs.Pair.{pair}
use Rattle.channels.specs.Channels.{scan, lowest, in_range, in_ranges}
use Rattle.identifier.specs.declared.Pair.{Pair}
use Rattle.channels.specs.declared.Range.{Range}
use Rattle.channels.proofs.Cases.{by_test, clash}
use Rattle.channels.proofs.Parts.{pair_parts}

-- the pair (p, v) is among the n VCIs from w of VPCI q, and t does not name it
pub record Scanned (t : ℕ → ℕ → Bool) (q n w p v : ℕ) : Type 0 where
  pub same : q ≡ p
  pub low : w ≤ v
  pub high : v < w + n
  pub free : t p v ≡ false

-- a test of a range says what its three numbers say
pub record Within (p v : ℕ) (r : Range) : Type 0 where
  pub same : r.vpci ≡ p
  pub low : r.first ≤ v
  pub high : v ≤ r.last

pub within : (p v : ℕ) (r : Range) → in_range p v r ≡ true → Within p v r
within p v r e =
    by_test (eqb r.vpci p)
    (λ a. by_test (leb r.first v)
    (λ b. by_test (leb v r.last)
    (λ d. record { same = eqb-true _ _ a; low = leb-true _ _ b; high = leb-true _ _ d })
    (λ d. clash e (rw (a, b, d))))
    (λ b. clash e (rw (a, b))))
    (λ a. clash e (rw a))

pub within_in : (p v : ℕ) (r : Range) → Within p v r → in_range p v r ≡ true
within_in p v r h = rw (eq-eqb _ _ h.same, le-leb _ _ h.low, le-leb _ _ h.high)

module _ (t : ℕ → ℕ → Bool) (q : ℕ) (rest : Option Pair) where
  pub scan_pair : (n w p v : ℕ) → scan t q n w rest ≡ Some (pair p v) → Scanned t q n w p v ⊎ (rest ≡ Some (pair p v))
  scan_pair zero w p v e = inr e
  scan_pair (suc n) w p v e =
      by_test (t q w)
      (λ named. ⊎_elim (λ (s : Scanned t q n (w + 1) p v). inl (record { same = s.same; low = omega arith; high = omega arith; free = s.free })) inr
      (scan_pair n (w + 1) p v (rw named at e)))
      (λ free.
      let found : Some (pair q w) ≡ Some (pair p v) = rw free at e in
      let same = (pair_parts found).0 in
      let at = (pair_parts found).1 in
      inl (record { same = same; low = omega arith; high = omega arith; free = rw (same, at) at free }))

  pub scan-none : (n w : ℕ) → scan t q n w rest ≡ None → ((v : ℕ) → w ≤ v → v < w + n → t q v ≡ true) × (rest ≡ None)
  scan-none zero w e = (λ v low high. absurd (omega arith), e)
  scan-none (suc n) w e =
      by_test (t q w)
      (λ named.
      let ih = scan-none n (w + 1) (rw named at e) in
      (λ v low high. by_test (eqb w v) (λ same. rw (eqb-true w v same) at named) (λ other. ih.0 v (omega (arith, eqb-false w v other)) (omega arith)), ih.1))
      (λ free. let found : Some (pair q w) ≡ None = rw free at e in let z : ◌≡◌ {A = ℕ} 0 1 = cc in absurd (omega arith))

  pub none-scan : (n w : ℕ) → ((v : ℕ) → w ≤ v → v < w + n → t q v ≡ true) → scan t q n w rest ≡ rest
  none-scan zero w h = refl
  none-scan (suc n) w h = rw (h w (omega arith) (omega arith)) (none-scan n (w + 1) (λ v low high. h v (omega arith) (omega arith)))

pub lowest_free_lem : (t : ℕ → ℕ → Bool) (rs : List Range) (p v : ℕ) → lowest t rs ≡ Some (pair p v) → (in_ranges p v rs ≡ true) × (t p v ≡ false)
lowest_free_lem t [] p v e = let z : ◌≡◌ {A = ℕ} 0 1 = cc in absurd (omega arith)
lowest_free_lem t (r ∷ rs) p v e =
    ⊎_elim
    (λ (s : Scanned t r.vpci ((r.last + 1) - r.first) r.first p v).
    (rw (within_in p v r (record { same = s.same; low = s.low; high = omega arith })), s.free))
    (λ (e' : lowest t rs ≡ Some (pair p v)).
    let ih = lowest_free_lem t rs p v e' in
    (rw ih.0 (or-true (in_range p v r)), ih.1))
    (scan_pair t r.vpci (lowest t rs) ((r.last + 1) - r.first) r.first p v e)

pub lowest-none : (t : ℕ → ℕ → Bool) (rs : List Range) → lowest t rs ≡ None → (p v : ℕ) → in_ranges p v rs ≡ true → t p v ≡ true
lowest-none t [] e p v h = clash h refl
lowest-none t (r ∷ rs) e p v h =
    let s = scan-none t r.vpci (lowest t rs) ((r.last + 1) - r.first) r.first e in
    by_test (in_range p v r)
    (λ here. let w = within p v r here in rw w.same at (s.0 v w.low (omega arith)))
    (λ not-here. lowest-none t rs s.1 p v (rw not-here at h))

pub none-lowest : (t : ℕ → ℕ → Bool) (rs : List Range) → ((p v : ℕ) → in_ranges p v rs ≡ true → t p v ≡ true) → lowest t rs ≡ None
none-lowest t [] h = refl
none-lowest t (r ∷ rs) h =
    none-scan t r.vpci (lowest t rs) ((r.last + 1) - r.first) r.first
    (λ v low high. h r.vpci v (rw (within_in r.vpci v r (record { same = refl; low = low; high = omega arith }))))
    ∙ none-lowest t rs (λ p v in_rest. h p v (rw in_rest (or-true (in_range p v r))))

pub lowest_same : (t u : ℕ → ℕ → Bool) (rs : List Range) → ((p v : ℕ) → t p v ≡ u p v) → lowest t rs ≡ lowest u rs
lowest_same t u rs h = ap (λ (s : ℕ → ℕ → Bool). lowest s rs) (fun_ext (λ p. fun_ext (λ v. h p v)))
