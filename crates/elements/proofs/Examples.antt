-- What the definitions say of P1's SETUP, of the same cut short, and of a repeated identifier, all computed.
--   setup-read      each of its four elements is readable, at these places, and it has no 5A
--   setup_cut       without its last octet the called number is there and unreadable
--   first_counts    a damaged second element of an identifier changes nothing
-- Assumes nothing.
use Prim.Native.Nat.{ℕ}
use mathlib.Core.Path.{◌≡◌, refl}
use mathlib.Core.Bool.{true, false}
use mathlib.Core.List.{List, [], ◌∷◌, ◌++◌}
use lib.ListN.{take}
use Rattle.items.specs.Items.{items, count_of, whole_from}
use Rattle.elements.specs.declared.Configuration.TheVariants.{PointToPoint}
use Rattle.elements.specs.declared.Part.{Part}
use Rattle.elements.specs.declared.Read.{Read}
use Rattle.elements.specs.declared.Read.TheVariants.{Absent, Unreadable, Readable}
use Rattle.elements.specs.Elements.{look_for}
use Rattle.elements.specs.Values.{bearer_in}

-- readable contents from a place up to another
abbrev found_at : ℕ → ℕ → Read Part
found_at a b = Readable (record { start = a; end = b })

abbrev pub setup : List ℕ
setup =
    0x09 ∷ 0x03 ∷ 0x00 ∷ 0x00 ∷ 0x01 ∷ 0x05 ∷ 0x80 ∷ 0x00 ∷ 0x24
    ∷ 0x59 ∷ 0x80 ∷ 0x00 ∷ 0x08 ∷ 0x84 ∷ 0x00 ∷ 0x10 ∷ 0x00 ∷ 0x85 ∷ 0x00 ∷ 0x10 ∷ 0x00
    ∷ 0x5C ∷ 0x80 ∷ 0x00 ∷ 0x02 ∷ 0x00 ∷ 0x00
    ∷ 0x5E ∷ 0x80 ∷ 0x00 ∷ 0x02 ∷ 0x81 ∷ 0x80
    ∷ 0x70 ∷ 0x80 ∷ 0x00 ∷ 0x08 ∷ 0x91 ∷ 0x35 ∷ 0x35 ∷ 0x35 ∷ 0x31 ∷ 0x32 ∷ 0x33 ∷ 0x34 ∷ []

pub setup-read :
    (look_for setup 9 0x59 ≡ found_at 13 21) × (look_for setup 9 0x5C ≡ found_at 25 27) × (look_for setup 9 0x5E ≡ found_at 31 33)
    × (look_for setup 9 0x70 ≡ found_at 37 45) × (look_for setup 9 0x5A ≡ Absent) × (bearer_in setup 9 ≡ Readable PointToPoint)
    × (whole_from setup 9 ≡ true)
setup-read = (refl, refl, refl, refl, refl, refl, refl)

pub setup_cut : (look_for (take 44 setup) 9 0x70 ≡ Unreadable) × (look_for (take 44 setup) 9 0x5E ≡ found_at 31 33) × (whole_from (take 44 setup) 9 ≡ false)
setup_cut = (refl, refl, refl)

-- a second 5C with octet 2 81, and a third whose length runs past the end
abbrev pub repeats : List ℕ
repeats = setup ++ (0x5C ∷ 0x81 ∷ 0x00 ∷ 0x00 ∷ 0x5C ∷ 0x80 ∷ 0x00 ∷ 0x09 ∷ [])

pub first_counts : (look_for repeats 9 0x5C ≡ found_at 25 27) × (count_of 0x5C (items repeats 9) ≡ 3)
first_counts = (refl, refl)
