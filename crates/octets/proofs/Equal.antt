-- Laws of `equal`.
--   equal_same, same_equal                `equal` is equality
-- Assumes nothing.
use Prim.Native.Nat.{ℕ}
use mathlib.Core.Path.{◌≡◌, refl, sym}
use mathlib.Core.Bool.{Bool, true, false, ◌&&◌, true≢false}
use mathlib.Core.List.{List, [], ◌∷◌}
use lib.Dec.{eqb}
use borrow.Author.Tests.{eqb-true, eq-eqb}
use Rattle.octets.specs.Octets.{equal}

split : (a b : Bool) → (a && b) ≡ true → (a ≡ true) × (b ≡ true)
split true b e = (refl, e)
split false b e = absurd (true≢false (sym e))

pub equal_same : (a b : List ℕ) → equal a b ≡ true → a ≡ b
equal_same [] [] e = refl
equal_same [] (b ∷ t) e = absurd (true≢false (sym e))
equal_same (a ∷ s) [] e = absurd (true≢false (sym e))
equal_same (a ∷ s) (b ∷ t) e =
    let parts = split (eqb a b) (equal s t) e in
    rw (eqb-true a b parts.0, equal_same s t parts.1)

pub same_equal : (a : List ℕ) → equal a a ≡ true
same_equal [] = refl
same_equal (a ∷ s) = rw (eq-eqb a a refl) (same_equal s)
