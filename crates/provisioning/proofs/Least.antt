-- The lowest free pair of an accepted provision is the lowest by VPCI and then VCI: no free pair of its ranges comes before it.
--   order                 a pair of 16-bit numbers as one number, VPCI first
--   climb                 of two ranges of an accepted list, the earlier ends before the later begins
--   lowest-least          of any ascending ranges
--   provision-lowest      of an accepted provision
-- Assumes nothing.
use Rattle.std.specs.Prelude.{Option, Some}
use Prim.Native.Nat.{ℕ, zero, suc, ◌+◌, ◌-◌, ◌*◌, ◌/◌, ◌≤◌, ◌<◌}
use mathlib.Core.Path.{◌≡◌, refl, sym}
use mathlib.Core.Logic.{⊎_elim}
use mathlib.Core.Bool.{Bool, true, false}
use mathlib.Core.List.{List, [], ◌∷◌}
use native.Mathlib.Omega.{arith}
use lib.Dec.{eqb, ltb}
use lib.ListN.{length}
use borrow.Author.Tests.{ne_eqb, eqb-true, eqb-false, ltb-true}
use Rattle.identifier.specs.Pair.{pair}
use Rattle.channels.specs.Channels.{in_range, in_ranges, scan, lowest}
use Rattle.identifier.specs.declared.Pair.{Pair}
use Rattle.channels.specs.declared.Range.{Range}
use Rattle.channels.proofs.Cases.{by_test, clash, both}
use Rattle.channels.proofs.Parts.{pair_parts}
use Rattle.channels.proofs.Lowest.{Scanned, within, within_in, scan_pair}
use Rattle.provisioning.specs.Provisioning.{before, fits, ascending, range_at, range_ok, numbered, provision}
use Rattle.provisioning.proofs.Below.{below_at}
use Rattle.provisioning.proofs.Accepted.{Limits, ranges_lists, some_numbered, accepted_lists, provision_pair, in_list}

abbrev pub order : ℕ → ℕ → ℕ
order p v = p * 65536 + v

pub before_order : (p v q w : ℕ) → v ≤ 65535 → before p v q w ≡ true → order p v < order q w
before_order p v q w h e =
    by_test (ltb p q)
    (λ t. let lt = ltb-true p q t in omega arith)
    (λ t. by_test (eqb p q)
    (λ u. let same = eqb-true p q u in let lt = ltb-true v w (rw (t, u) at e) in omega arith)
    (λ u. clash e (rw (t, u))))

-- each range of the list ends before those behind it begin
abbrev pub Sorted : List Range → Type 0
Sorted [] = Unit {0}
Sorted (r ∷ rs) = ((p v q w : ℕ) → in_range p v r ≡ true → in_ranges q w rs ≡ true → order p v < order q w) × Sorted rs

pub scan-least : (t : ℕ → ℕ → Bool) (q : ℕ) (rest : Option Pair) (n w p v u : ℕ) → scan t q n w rest ≡ Some (pair p v) → w ≤ u → u < w + n → t q u ≡ false → (p ≡ q) × (v ≤ u)
scan-least t q rest zero w p v u e low high f = absurd (omega arith)
scan-least t q rest (suc n) w p v u e low high f =
    by_test (t q w)
    (λ named.
    by_test (eqb w u)
    (λ same. clash named (rw (eqb-true w u same) f))
    (λ other. scan-least t q rest n (w + 1) p v u (rw named at e) (omega (arith, eqb-false w u other)) (omega arith) f))
    (λ free.
    let found : Some (pair q w) ≡ Some (pair p v) = rw free at e in
    let here : w ≡ v = (pair_parts found).1 in
    (sym (pair_parts found).0, omega arith))

pub lowest-least : (t : ℕ → ℕ → Bool) (rs : List Range) (p v q w : ℕ) → Sorted rs → lowest t rs ≡ Some (pair p v) → in_ranges q w rs ≡ true → t q w ≡ false
    → order p v ≤ order q w
lowest-least t [] p v q w s e h f = clash h refl
lowest-least t (r ∷ rs) p v q w s e h f =
    by_test (in_range q w r)
    (λ here.
    let i = within q w r here in
    let l = scan-least t r.vpci (lowest t rs) ((r.last + 1) - r.first) r.first p v w e i.low (omega (arith, i.low, i.high)) (rw i.same f) in
    omega (arith, l.0, l.1, i.same))
    (λ there.
    ⊎_elim
    (λ (d : Scanned t r.vpci ((r.last + 1) - r.first) r.first p v).
    let lt = s.0 p v q w (within_in p v r (record { same = d.same; low = d.low; high = omega (arith, d.low, d.high) })) (rw there at h) in
    omega arith)
    (λ (e' : lowest t rs ≡ Some (pair p v)). lowest-least t rs p v q w s.1 e' (rw there at h) f)
    (scan_pair t r.vpci (lowest t rs) ((r.last + 1) - r.first) r.first p v e))

-- where the first n of `at` ascend and keep the limits, and no other has a pair
module _ (at : ℕ → Range) (n : ℕ) (ascend : ascending at n ≡ true) (each : (k : ℕ) → k < n → Limits (at k))
    (outside : (p v j : ℕ) → in_range p v (at j) ≡ true → j < n) where
  next : (k : ℕ) → k + 1 < n → order (at k).vpci (at k).last < order (at (k + 1)).vpci (at (k + 1)).first
  next k h =
      let f = (both (range_ok (at (k + 1))) _ (below_at (fits at) n (k + 1) ascend h)).1 in
      let z : eqb (k + 1) 0 ≡ false = ne_eqb (k + 1) 0 (λ e. omega arith) in
      let b : k + 1 - 1 ≡ k = omega arith in
      before_order (at k).vpci (at k).last (at (k + 1)).vpci (at (k + 1)).first (each k (omega arith)).high (rw (z, b) at f)

  pub climb : (d k : ℕ) → k + suc d < n → order (at k).vpci (at k).last < order (at (k + suc d)).vpci (at (k + suc d)).first
  climb zero k h = let e : k + 1 ≡ k + suc 0 = omega arith in rw e at (next k h)
  climb (suc d) k h =
      let e : (k + suc d) + 1 ≡ k + suc (suc d) = omega arith in
      let a = climb d k (omega arith) in
      let b = rw e at (next (k + suc d) (omega arith)) in
      omega (arith, a, b, (each (k + suc d) (omega arith)).order)

  pub numbered_sorted : (m k : ℕ) → Sorted (numbered at k m)
  numbered_sorted zero k = tt
  numbered_sorted (suc m) k = (
    λ p v q w e h.
        let found = some_numbered at (in_range q w) (k + 1) m h in
        let j = found.0 in
        let a = within p v (at k) e in
        let b = within q w (at j) found.1.1 in
        let last = outside q w j found.1.1 in
        let z : k + suc (j - (k + 1)) ≡ j = omega (arith, found.1.0) in
        let c = rw z at (climb (j - (k + 1)) k (omega arith)) in
        omega (arith, a.same, a.high, b.same, b.low, c),
    numbered_sorted m (k + 1),
  )

pub provision-lowest : (rs ps : List ℕ) (t : ℕ → ℕ → Bool) (p v q w : ℕ) → (provision rs ps).accepted ≡ true
    → lowest t (provision rs ps).pool.ranges ≡ Some (pair p v) → in_ranges q w (provision rs ps).pool.ranges ≡ true → t q w ≡ false
    → before q w p v ≡ false
provision-lowest rs ps t p v q w e found in-range f =
    let a = accepted_lists rs ps e in
    let l = ranges_lists rs a.0 in
    let sorted = numbered_sorted (range_at rs) (length rs / 3) l.ascend l.each (in_list rs) 4 0 in
    let least = lowest-least t (numbered (range_at rs) 0 4) p v q w sorted (rw a.2 at found) (rw a.2 at in-range) f in
    by_test (before q w p v)
    (λ b. let lt = before_order q w p v (provision_pair rs ps q w in-range).high b in absurd (omega arith))
    (λ b. b)
