-- Text in ASCII.
--   word                         the octets of a text
--   or_else                       octets, or others where there are none
--   decimal_within, decimal_text   a number in decimal
-- Assumes nothing.
use Rattle.std.specs.Prelude.{ℕ, zero, suc, ◌+◌, ◌/◌, ◌%◌, cond, List, [], ◌∷◌, ◌++◌, ltb}
use Prim.Native.Char.{code}
use Prim.Native.String.{String, [] as nothing, ◌∷◌ as ◌before◌}

-- the octets of a text whose characters are ASCII's
abbrev pub word : String → List ℕ
word nothing = []
word (c before s) = code c ∷ word s

abbrev pub or_else : List ℕ → List ℕ → List ℕ
or_else [] other = other
or_else (o ∷ s) other = o ∷ s

-- a number's digits: the last is its remainder, and the others are those of its tenth; at most k before the last
abbrev pub decimal_within : ℕ → ℕ → List ℕ
decimal_within zero n = (48 + n) ∷ []
decimal_within (suc k) n = cond (ltb n 10) ((48 + n) ∷ []) (decimal_within k (n / 10) ++ (48 + n % 10) ∷ [])

-- a number below 10^20; 2^64 is less
unfoldable pub decimal_text : ℕ → List ℕ
decimal_text n = decimal_within 19 n
