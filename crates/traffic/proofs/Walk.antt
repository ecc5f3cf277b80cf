-- A walk whose steps only go on from later places needs no more steps than there are octets.
--   walk_on      a walk from a place is one step, and then a walk
-- Every walk over octets cites it: subfields here, elements above. Assumes nothing.
use Prim.Native.Nat.{ℕ, zero, suc, ◌+◌, ◌≤◌, ◌<◌}
use mathlib.Core.Path.{◌≡◌, refl, sym}
use native.Mathlib.Omega.{arith}
use Rattle.traffic.specs.Walk.{walk}

-- l: the number of octets. A step looks at later places alone, and past the end it stops.
module _ {A : Type 0} (step : ℕ → (ℕ → A) → A) (stop : A) (l : ℕ)
    (later : (at : ℕ) (f g : ℕ → A) → ((next : ℕ) → at < next → f next ≡ g next) → step at f ≡ step at g)
    (ended : (at : ℕ) (f : ℕ → A) → l ≤ at → step at f ≡ stop) where
  same_walk : (n k at : ℕ) → l ≤ at + n → l ≤ at + k → walk step stop n at ≡ walk step stop k at
  same_walk zero zero at h h' = refl
  same_walk zero (suc k) at h h' = sym (ended at (walk step stop k) (omega arith))
  same_walk (suc n) zero at h h' = ended at (walk step stop n) (omega arith)
  same_walk (suc n) (suc k) at h h' =
      later at (walk step stop n) (walk step stop k) (λ next after. same_walk n k next (omega arith) (omega arith))

  pub walk_on : (at : ℕ) → walk step stop l at ≡ step at (walk step stop l)
  walk_on at = same_walk l (suc l) at (omega arith) (omega arith)
