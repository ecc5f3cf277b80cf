-- 6C Calling number (document 02, R-13). `c` is the contents, without the element's four octets before them.
--   calling_fits      readable contents
--   address_at        where the address begins in them
--   allowed          is presentation allowed?
-- An octet that is not there counts as 0. Assumes nothing.
use Rattle.std.specs.Prelude.{ℕ, ◌+◌, ◌/◌, ◌%◌, Bool, true, ◌&&◌, cond, List, ◌∷◌, eqb, get_or, drop}
use Rattle.octets.specs.Octets.{top_bit}
use Rattle.mandatory.specs.Mandatory.{called_fits}

-- "octet 5 with number type and plan as for the called number, its top bit clear exactly if octet 5a follows, 5a with top bit
-- set, then the same digits or 20 octets": without 5a, and with octet 5's top bit set, they are those of a called number
abbrev pub calling_fits : List ℕ → Bool
calling_fits c = cond (top_bit (get_or c 0 0)) (called_fits c) (top_bit (get_or c 1 0) && called_fits ((get_or c 0 0 + 128) ∷ drop 2 c))

-- behind octet 5, or behind octet 5a where that follows
abbrev pub address_at : List ℕ → ℕ
address_at c = cond (top_bit (get_or c 0 0)) 1 2

-- "A missing 5a means allowed." Otherwise its bits 7 and 6 say it: 00 is allowed.
abbrev pub allowed : List ℕ → Bool
allowed c = cond (top_bit (get_or c 0 0)) true (eqb (get_or c 1 0 / 32 % 4) 0)
