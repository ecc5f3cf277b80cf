-- What an accepted provision has. The demands cite these.
--   accepted_lists      accepted: both lists break no rule, and the pool is theirs
--   accepted_triple     its k-th range is the k-th triple
--   accepted_limits     each of its ranges keeps the limits, so that its first VCI is at least 32
--   provision_pair      every pair of a range has a VPCI up to 255 and a VCI in 32 to 65535
-- Assumes nothing.
use Prim.Native.Nat.{ℕ, zero, suc, ◌+◌, ◌*◌, ◌/◌, ◌%◌, ◌≤◌, ◌<◌}
use mathlib.Core.Path.{◌≡◌, refl, ap, ◌∙◌}
use mathlib.Core.Bool.{Bool, true, ◌&&◌}
use mathlib.Core.List.{List}
use native.Mathlib.Omega.{arith}
use lib.Dec.{eqb, leb, ltb}
use lib.ListN.{length, get_or}
use borrow.Author.Tests.{leb-true, ltb-true, lt-ltb}
use Rattle.std.specs.List.{list_any}
use Rattle.channels.specs.Channels.{in_range, in_ranges, no_range}
use Rattle.channels.specs.declared.Range.{Range}
use Rattle.channels.proofs.Cases.{by_test, clash, both}
use Rattle.channels.proofs.Lowest.{within}
use Rattle.provisioning.specs.Provisioning.{range_at, range_ok, fits, ascending, ranges_ok, pairs_ok, numbered, pool_of, provision}
use Rattle.provisioning.proofs.Below.{below_at}

-- "VPCI 0 to 255; VCI 32 to 65535; first at most last."
pub record Limits (r : Range) : Type 0 where
  pub vpci_high : r.vpci ≤ 255
  pub low : 32 ≤ r.first
  pub high : r.last ≤ 65535
  pub order : r.first ≤ r.last

pub limits : (r : Range) → range_ok r ≡ true → Limits r
limits r e =
    let a = both (leb r.vpci 255) _ e in
    let b = both (leb 32 r.first) _ a.1 in
    let d = both (leb r.last 65535) _ b.1 in
    record { vpci_high = leb-true _ _ a.0; low = leb-true _ _ b.0; high = leb-true _ _ d.0; order = leb-true _ _ d.1 }

-- a list of ranges that breaks no rule
pub record Lists (s : List ℕ) : Type 0 where
  pub few : length s / 3 ≤ 4
  pub each : (k : ℕ) → k < length s / 3 → Limits (range_at s k)
  pub ascend : ascending (range_at s) (length s / 3) ≡ true

pub ranges_lists : (s : List ℕ) → ranges_ok s ≡ true → Lists s
ranges_lists s e =
    let a = both (eqb (length s % 3) 0) _ e in
    let b = both (leb 1 (length s / 3)) _ a.1 in
    let d = both (leb (length s / 3) 4) _ b.1 in
    record {
      few = leb-true _ _ d.0;
      each = λ k h. limits (range_at s k) (both (range_ok (range_at s k)) _ (below_at (fits (range_at s)) (length s / 3) k d.1 h)).0;
      ascend = d.1;
    }

module _ {A : Type 0} (f : ℕ → A) where
  pub get_d_numbered : (k n i : ℕ) (d : A) → i < n → get_or (numbered f k n) i d ≡ f (k + i)
  get_d_numbered k zero i d h = absurd (omega arith)
  get_d_numbered k (suc n) zero d h = ap f (let e : k ≡ k + 0 = omega arith in e)
  get_d_numbered k (suc n) (suc i) d h = get_d_numbered (k + 1) n i d (omega arith) ∙ ap f (let e : (k + 1) + i ≡ k + suc i = omega arith in e)

  pub some_numbered : (p : A → Bool) (k n : ℕ) → list_any p (numbered f k n) ≡ true → (j : ℕ) × ((k ≤ j) × (p (f j) ≡ true))
  some_numbered p k zero e = clash e refl
  some_numbered p k (suc n) e =
      by_test (p (f k))
      (λ t. (k, (omega arith, t)))
      (λ t. let ih = some_numbered p (k + 1) n (rw t at e) in (ih.0, (omega (arith, ih.1.0), ih.1.1)))

pub accepted_lists : (rs ps : List ℕ) → (provision rs ps).accepted ≡ true
    → (ranges_ok rs ≡ true) × (pairs_ok ps ≡ true) × ((provision rs ps).pool ≡ pool_of rs ps)
accepted_lists rs ps e =
    by_test (ranges_ok rs && pairs_ok ps)
    (λ t. let a = both (ranges_ok rs) (pairs_ok ps) t in (a.0, a.1, rw t))
    (λ t. clash e (rw t))

pub accepted_triple : (rs ps : List ℕ) (k : ℕ) → (provision rs ps).accepted ≡ true → k < length rs / 3
    → get_or (provision rs ps).pool.ranges k no_range ≡ record { vpci = get_or rs (k * 3) 0; first = get_or rs (k * 3 + 1) 0; last = get_or rs (k * 3 + 2) 0 }
accepted_triple rs ps k e h =
    let a = accepted_lists rs ps e in
    let few = (ranges_lists rs a.0).few in
    let z : 0 + k ≡ k = omega arith in
    rw a.2 (get_d_numbered (range_at rs) 0 4 k no_range (omega arith) ∙ rw (z, lt-ltb k (length rs / 3) h))

pub accepted_limits : (rs ps : List ℕ) (k : ℕ) → (provision rs ps).accepted ≡ true → k < length rs / 3
    → Limits (get_or (provision rs ps).pool.ranges k no_range)
accepted_limits rs ps k e h =
    let a = accepted_lists rs ps e in
    let l = ranges_lists rs a.0 in
    let few = l.few in
    let z : 0 + k ≡ k = omega arith in
    rw (a.2, get_d_numbered (range_at rs) 0 4 k no_range (omega arith), z) (l.each k h)

-- the numbers of a pair are in their limits
pub record Numbers (p v : ℕ) : Type 0 where
  pub vpci_high : p ≤ 255
  pub low : 32 ≤ v
  pub high : v ≤ 65535

-- an unused range has no pair
pub no_range_lem : {P : Type 0} (p v : ℕ) → in_range p v no_range ≡ true → P
no_range_lem p v e =
    let w = within p v no_range e in
    absurd (omega (arith, w.low, w.high))

-- a pair lies in a triple of the list
pub in_list : (rs : List ℕ) (p v j : ℕ) → in_range p v (range_at rs j) ≡ true → j < length rs / 3
in_list rs p v j e = by_test (ltb j (length rs / 3)) (λ t. ltb-true _ _ t) (λ t. no_range_lem p v (rw t at e))

pub range_pair : (rs : List ℕ) (p v j : ℕ) → Lists rs → in_range p v (range_at rs j) ≡ true → Numbers p v
range_pair rs p v j l e =
    let m = l.each j (in_list rs p v j e) in
    let w = within p v (range_at rs j) e in
    record {
      vpci_high = omega (arith, m.vpci_high, w.same);
      low = omega (arith, m.low, w.low);
      high = omega (arith, m.high, w.high);
    }

pub provision_pair : (rs ps : List ℕ) (p v : ℕ) → in_ranges p v (provision rs ps).pool.ranges ≡ true → Numbers p v
provision_pair rs ps p v e =
    by_test (ranges_ok rs && pairs_ok ps)
    (λ t.
    let found = some_numbered (range_at rs) (in_range p v) 0 4 (rw t at e) in
    range_pair rs p v found.0 (ranges_lists rs (both (ranges_ok rs) (pairs_ok ps) t).0) found.1.1)
    (λ t.
    let found = some_numbered (λ (k : ℕ). no_range) (in_range p v) 0 4 (rw t at e) in
    no_range_lem p v found.1.1)
