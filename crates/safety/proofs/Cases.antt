-- Cases of a side, of two tests, and of a place.
--   beq_same           a side is itself
--   either, one_passes one of two tests passes; the second does
--   one_place          a place that is found is one place
-- Assumes nothing.
use Rattle.std.specs.Prelude.{Some}
use Prim.Native.Nat.{ℕ}
use mathlib.Core.Path.{◌≡◌, refl}
use mathlib.Core.Bool.{Bool, true, false, ◌||◌, beq}

pub beq_same : (b : Bool) → beq b b ≡ true
beq_same true = refl
beq_same false = refl

pub either : {P : Type 0} (a b : Bool) → (a || b) ≡ true → (a ≡ true → P) → (b ≡ true → P) → P
either true b e f g = f refl
either false b e f g = g e

pub one_passes : (a b : Bool) → b ≡ true → (a || b) ≡ true
one_passes true b e = refl
one_passes false b e = e

pub one_place : (i j : ℕ) → Some i ≡ Some j → i ≡ j
one_place i j h = cc
