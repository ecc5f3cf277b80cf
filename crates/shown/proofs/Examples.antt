-- What the definitions say of small SETUPs, all computed. The record is two octets.
--   plain_shown        without octet 5a the digits are shown
--   allowed-shown      so they are with one that allows it
--   restricted-empty   restricted: the empty part where the address begins
--   second-ignored     an unreadable first 6C is not made good by a second
--   wrong_length       with a wrong length field the record is shown
-- Assumes nothing.
use Prim.Native.Nat.{ℕ}
use mathlib.Core.Path.{◌≡◌, refl}
use mathlib.Core.List.{List, [], ◌∷◌, ◌++◌}
use Rattle.shown.specs.declared.Extent.TheVariants.{Message, Record}
use Rattle.shown.specs.Shown.{extent_of, shown_of}

abbrev subscription : List ℕ
subscription = 0x41 ∷ 0x42 ∷ []

-- a SETUP's header that says n octets follow
abbrev header : ℕ → List ℕ
header n = 0x09 ∷ 0x03 ∷ 0x00 ∷ 0x00 ∷ 0x01 ∷ 0x05 ∷ 0x80 ∷ 0x00 ∷ n ∷ []

abbrev plain : List ℕ
plain = 0x6C ∷ 0x80 ∷ 0x00 ∷ 0x04 ∷ 0x91 ∷ 0x35 ∷ 0x36 ∷ 0x37 ∷ []

-- octet 5a 80, presentation allowed, and A0, restricted
abbrev presented : ℕ → List ℕ
presented o = 0x6C ∷ 0x80 ∷ 0x00 ∷ 0x05 ∷ 0x11 ∷ o ∷ 0x35 ∷ 0x36 ∷ 0x37 ∷ []

pub plain_shown : (extent_of (header 8 ++ plain) subscription ≡ Message 14 3) × (shown_of (header 8 ++ plain) subscription ≡ 0x35 ∷ 0x36 ∷ 0x37 ∷ [])
plain_shown = (refl, refl)

pub allowed-shown :
    (extent_of (header 9 ++ presented 0x80) subscription ≡ Message 15 3)
    × (shown_of (header 9 ++ presented 0x80) subscription ≡ 0x35 ∷ 0x36 ∷ 0x37 ∷ [])
allowed-shown = (refl, refl)

pub restricted-empty :
    (extent_of (header 9 ++ presented 0xA0) subscription ≡ Message 15 0) × (shown_of (header 9 ++ presented 0xA0) subscription ≡ [])
restricted-empty = (refl, refl)

-- octet 5a 00 has its top bit clear
pub second-ignored :
    (extent_of (header 17 ++ presented 0x00 ++ plain) subscription ≡ Record 0 2)
    × (shown_of (header 17 ++ presented 0x00 ++ plain) subscription ≡ subscription)
second-ignored = (refl, refl)

pub wrong_length : extent_of (header 9 ++ plain) subscription ≡ Record 0 2
wrong_length = refl
