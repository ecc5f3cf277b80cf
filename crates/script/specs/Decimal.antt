-- Decimal numbers, digit by digit.
--   is_digit, all_digits     the octets 0 to 9
--   value_from              the value of digits behind a value
--   up_to                   a number that 64 bits hold, and no other
--   with_digit              a number with one digit more
--   number_from, number_of   the number that a word says
-- Assumes nothing.
use Rattle.std.specs.Prelude.{ℕ, ◌+◌, ◌*◌, ◌-◌, Bool, true, cond, ◌&&◌, List, [], ◌∷◌, eqb, leb, length, Option, Some, None}

-- an octet that is a digit
abbrev pub is_digit : ℕ → Bool
is_digit o = leb 48 o && leb o 57

abbrev pub all_digits : List ℕ → Bool
all_digits [] = true
all_digits (o ∷ os) = is_digit o && all_digits os

-- the value of digits, the most significant first, behind a value that came before them
abbrev pub value_from : ℕ → List ℕ → ℕ
value_from v [] = v
value_from v (o ∷ os) = value_from (v * 10 + (o - 48)) os

-- "a number that is .. over 2^64 - 1" is none
abbrev pub up_to : ℕ → Option ℕ
up_to n = cond (leb n 18446744073709551615) (Some n) None

abbrev pub with_digit : ℕ → ℕ → Option ℕ
with_digit v o = cond (is_digit o) (up_to (v * 10 + (o - 48))) None

abbrev pub number_from : ℕ → List ℕ → Option ℕ
number_from v w = cond (all_digits w) (up_to (value_from v w)) None

-- all digits, and at least one
abbrev pub number_of : List ℕ → Option ℕ
number_of w = cond (eqb (length w) 0) None (number_from 0 w)
