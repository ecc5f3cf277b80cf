-- Readable contents of the elements that SETUP must have, in the paper's order, but for 59 Traffic descriptor, which is in crate traffic.
-- `c` is the contents, without the element's four octets before them.
--   qos_fits                 5C QoS
--   bearer_fits, multipoint  5E Bearer capability
--   called_fits              70 Called number
-- A value is that of readable contents; an octet that is not there counts as 0. Assumes nothing.
use Rattle.std.specs.Prelude.{ℕ, ◌-◌, ◌%◌, Bool, false, ◌&&◌, ◌||◌, cond, List, eqb, leb, length, get_or, drop}
use Rattle.std.specs.List.{list_all}
use Rattle.octets.specs.Octets.{top_bit}

-- "5C QoS: 2, each 0 to 4."
abbrev pub qos_fits : List ℕ → Bool
qos_fits c = eqb (length c) 2 && leb (get_or c 0 0) 4 && leb (get_or c 1 0) 4

-- "5E Bearer capability: 81 or 83 and one octet; or 10, an octet with top bit set, and one octet.
--  The last has its top bit set; its low two bits are 0 (point-to-point) or 1 (multipoint)."
abbrev pub bearer_last : ℕ → Bool
bearer_last octet = top_bit octet && leb (octet % 4) 1

abbrev pub bearer_of_two : List ℕ → Bool
bearer_of_two c = (eqb (get_or c 0 0) 0x81 || eqb (get_or c 0 0) 0x83) && bearer_last (get_or c 1 0)

abbrev pub bearer_of_three : List ℕ → Bool
bearer_of_three c = eqb (get_or c 0 0) 0x10 && top_bit (get_or c 1 0) && bearer_last (get_or c 2 0)

abbrev pub bearer_fits : List ℕ → Bool
bearer_fits c = cond (eqb (length c) 2) (bearer_of_two c) (cond (eqb (length c) 3) (bearer_of_three c) false)

abbrev pub multipoint : List ℕ → Bool
multipoint c = eqb (get_or c (length c - 1) 0 % 4) 1

-- "70 Called number: 91 and 1 to 15 digits 30 to 39, or 82 and 20 octets."
abbrev pub digits : List ℕ → Bool
digits = list_all (λ o. leb 0x30 o && leb o 0x39)

abbrev pub called_fits : List ℕ → Bool
called_fits c =
    cond (eqb (get_or c 0 0) 0x91) (leb 2 (length c) && leb (length c) 16 && digits (drop 1 c)) (eqb (get_or c 0 0) 0x82 && eqb (length c) 21)
