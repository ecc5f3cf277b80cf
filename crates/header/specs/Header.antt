-- The header of a message (document 01, "Octets" and steps 1, 2 and 5 of "Order of message checks").
--   header_in     what the header says
--   head_of       the header, where the three header checks let the message pass
-- Assumes nothing.
use Rattle.std.specs.Prelude.{ℕ, ◌+◌, ◌*◌, ◌-◌, ◌%◌, cond, List, eqb, leb, ltb, length, get_or, Option, Some, None}
use Rattle.octets.specs.Octets.{number}
use Rattle.header.specs.declared.Header.{Header}

-- "Header: 09; 03; three octets of flag (top bit) and 23-bit reference; type; 80 (received: not examined); two octets of
-- length, counting what follows octet 9, high octet first."
abbrev pub header_in : List ℕ → Header
header_in m = record {
  flag = leb 128 (get_or m 2 0);
  reference = (get_or m 2 0 % 128) * 65536 + get_or m 3 0 * 256 + get_or m 4 0;
  kind = get_or m 5 0;
  whole = eqb (number (get_or m 7 0) (get_or m 8 0)) (length m - 9);
}

-- "1. First octet not 09, or under 9 octets: ignored. 2. Octet 2 not 03: ignored."
abbrev pub head_of : List ℕ → Option Header
head_of m =
    cond (ltb (length m) 9)
    None
    (cond (eqb (get_or m 0 0) 0x09) (cond (eqb (get_or m 1 0) 0x03) (Some (header_in m)) None) None)
