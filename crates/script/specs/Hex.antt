-- Octets in hex.
--   hex_digit, of_digits, hex_pair   the value of one digit, and of two
--   before, hex_octets       the octets up to the first pair that is none
--   decoded                 how many octets were read, if all are octets
--   by_form                  what a word's length says of its octets
--   octets_read, octets_stored   what is read of a word, and what is stored
-- Assumes nothing.
use Rattle.std.specs.Prelude.{ℕ, zero, suc, ◌+◌, ◌*◌, ◌-◌, ◌/◌, ◌%◌, cond, ◌&&◌, List, [], ◌∷◌, eqb, ltb, leb, length, drop, get_or, Option, Some, None}

-- 0 to 9, A to F, a to f; any other octet is none
abbrev pub hex_digit : ℕ → Option ℕ
hex_digit o =
    cond (leb 48 o && leb o 57) (Some (o - 48))
    (cond (leb 65 o && leb o 70) (Some (o - 55))
    (cond (leb 97 o && leb o 102) (Some (o - 87)) None))

-- the octet of two digits, if both are digits
abbrev pub of_digits : Option ℕ → Option ℕ → Option ℕ
of_digits None low = None
of_digits (Some h) None = None
of_digits (Some h) (Some l) = Some (h * 16 + l)

abbrev pub hex_pair : ℕ → ℕ → Option ℕ
hex_pair high low = of_digits (hex_digit high) (hex_digit low)

-- an octet before others, or nothing where there is none
abbrev pub before : Option ℕ → List ℕ → List ℕ
before None os = []
before (Some o) os = o ∷ os

-- at most n octets, up to the first pair that is none
abbrev pub hex_octets : ℕ → List ℕ → List ℕ
hex_octets zero w = []
hex_octets (suc n) w = before (hex_pair (get_or w 0 0) (get_or w 1 0)) (hex_octets n (drop 2 w))

-- all n octets were read, or there are none
abbrev pub decoded : ℕ → List ℕ → Option ℕ
decoded n w = cond (eqb (length (hex_octets n w)) n) (Some n) None

-- "`-` for none", "odd .. octets", more octets than the room holds; otherwise pairs
abbrev pub by_form : {A : Type 0} → ℕ → List ℕ → A → A → (ℕ → A) → A
by_form room w bad none pairs =
    cond (eqb (length w) 0) bad
    (cond (eqb (length w) 1) (cond (eqb (get_or w 0 0) 45) none bad)
    (cond (eqb (length w % 2) 1) bad
    (cond (ltb room (length w / 2)) bad (pairs (length w / 2)))))

abbrev pub octets_read : ℕ → List ℕ → Option ℕ
octets_read room w = by_form room w None (Some 0) (λ n. decoded n w)

abbrev pub octets_stored : ℕ → List ℕ → List ℕ
octets_stored room w = by_form room w [] [] (λ n. hex_octets n w)
