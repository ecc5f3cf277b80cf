-- A few lists of document 01, by computation.
-- Assumes nothing.
use Rattle.std.specs.Prelude.{Option, Some}
use Prim.Native.Nat.{ℕ}
use mathlib.Core.Path.{◌≡◌, refl}
use mathlib.Core.Bool.{true, false}
use mathlib.Core.List.{List, [], ◌∷◌}
use Rattle.identifier.specs.Pair.{pair}
use Rattle.channels.specs.Channels.{permanent, lowest}
use Rattle.identifier.specs.declared.Pair.{Pair}
use Rattle.provisioning.specs.Provisioning.{provision}

-- "a start with VPCI 0, VCI 20 to 21 (32 to 33)"
abbrev two_channels : List ℕ
two_channels = 0 ∷ 32 ∷ 33 ∷ []

-- the lowest pair of a start, where only the permanent pairs are taken
abbrev lowest_of : List ℕ → List ℕ → Option Pair
lowest_of ranges permanents = lowest (permanent (provision ranges permanents).pool) (provision ranges permanents).pool.ranges

pub two_channels_lowest : lowest_of two_channels [] ≡ Some (pair 0 32)
two_channels_lowest = refl

pub permanent_is_passed : lowest_of two_channels (0 ∷ 32 ∷ []) ≡ Some (pair 0 33)
permanent_is_passed = refl

pub touching_accepted : (provision (0 ∷ 32 ∷ 33 ∷ 0 ∷ 34 ∷ 65535 ∷ []) []).accepted ≡ true
touching_accepted = refl

pub overlapping_refused : (provision (0 ∷ 32 ∷ 33 ∷ 0 ∷ 33 ∷ 34 ∷ []) []).accepted ≡ false
overlapping_refused = refl

pub no_range_refused : (provision [] []).accepted ≡ false
no_range_refused = refl

pub cut_triple_refused : (provision (0 ∷ 32 ∷ 33 ∷ 0 ∷ []) []).accepted ≡ false
cut_triple_refused = refl
