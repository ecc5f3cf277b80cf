-- A message as a value, and its octets (document 01, "Octets").
--   Element, element_octets     one element
--   body                       elements one after the other
--   Message, octets            a whole message
-- Assumes nothing.
use Rattle.std.specs.Prelude.{ℕ, ◌+◌, ◌/◌, ◌%◌, Bool, cond, List, [], ◌∷◌, ◌++◌, length}
use Rattle.octets.specs.Octets.{high, low}

pub record Element : Type 0 where
  pub ident : ℕ
  pub action : ℕ
  pub contents : List ℕ

-- "Element: identifier, octet 2, two-octet content length, contents."
abbrev pub element_octets : Element → List ℕ
element_octets e = e.ident ∷ e.action ∷ high (length e.contents) ∷ low (length e.contents) ∷ e.contents

abbrev pub body : List Element → List ℕ
body [] = []
body (e ∷ es) = element_octets e ++ body es

pub record Message : Type 0 where
  pub flag : Bool
  pub reference : ℕ
  pub kind : ℕ
  pub elements : List Element

-- "Header: 09; 03; three octets of flag (top bit) and 23-bit reference; type; 80 ..; two octets of length, counting what
-- follows octet 9, high octet first."
abbrev pub header : Bool → ℕ → ℕ → ℕ → List ℕ
header flag r kind size = 0x09 ∷ 0x03 ∷ (cond flag 0x80 0 + r / 65536 % 128) ∷ r / 256 % 256 ∷ r % 256 ∷ kind ∷ 0x80 ∷ high size ∷ low size ∷ []

abbrev pub octets : Message → List ℕ
octets m = header m.flag m.reference m.kind (length (body m.elements)) ++ body m.elements

abbrev pub message : Bool → ℕ → ℕ → List Element → Message
message flag r kind es = record { flag = flag; reference = r; kind = kind; elements = es }
