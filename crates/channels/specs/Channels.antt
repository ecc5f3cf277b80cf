-- Channels: what is permitted, and the lowest free pair.
--   range_count, permanent_count  how many ranges and permanent pairs there can be
--   among                         if some place of a list holds the pair of VPCI p and VCI v
--   in_range, in_ranges           if a range, or some range of a list, has the pair
--   permanent, permitted        of a pool
--   scan, lowest                the lowest pair of a list of ranges that a test does not name as taken
--   known_vpci                   if a VPCI stands in a range or in a permanent pair
--   empty_pool                   the pool that permits nothing
-- Lists are of any length, and `lowest` is over any test. Assumes nothing.
use Rattle.std.specs.Prelude.{ℕ, zero, suc, ◌+◌, ◌-◌, Bool, false, cond, not, ◌&&◌, ◌||◌, List, [], ◌∷◌, eqb, leb, replicate, Option, Some, None}
use Rattle.std.specs.List.{list_any}
use Rattle.identifier.specs.Pair.{pair, is_pair}
use Rattle.identifier.specs.declared.Pair.{Pair}
use Rattle.channels.specs.declared.Range.{Range}
use Rattle.channels.specs.declared.Pool.{Pool}

-- "1 to 4 ranges, 0 to 8 pairs"
abbrev pub range_count : ℕ
range_count = 4

abbrev pub permanent_count : ℕ
permanent_count = 8

abbrev pub among : ℕ → ℕ → List (Option Pair) → Bool
among p v es = list_any (is_pair p v) es

-- "three for each range (VPCI, first VCI, last VCI)"
abbrev pub in_range : ℕ → ℕ → Range → Bool
in_range p v r = eqb r.vpci p && (leb r.first v && leb v r.last)

abbrev pub in_ranges : ℕ → ℕ → List Range → Bool
in_ranges p v rs = list_any (in_range p v) rs

-- "A pair is permitted if it is in a range and not permanent."
abbrev pub permanent : Pool → ℕ → ℕ → Bool
permanent pool p v = among p v pool.permanents

abbrev pub permitted : Pool → ℕ → ℕ → Bool
permitted pool p v = in_ranges p v pool.ranges && not (permanent pool p v)

-- "lowest free permitted pair by VPCI and then VCI": the first of n VCIs from v that is not taken, or else the answer of the ranges behind
abbrev pub scan : (ℕ → ℕ → Bool) → ℕ → ℕ → ℕ → Option Pair → Option Pair
scan t p zero v rest = rest
scan t p (suc n) v rest = cond (t p v) (scan t p n (v + 1) rest) (Some (pair p v))

abbrev pub lowest : (ℕ → ℕ → Bool) → List Range → Option Pair
lowest t [] = None
lowest t (r ∷ rs) = scan t r.vpci ((r.last + 1) - r.first) r.first (lowest t rs)

-- "its VPCI in no range and in no permanent pair": a range with no VCI has no VPCI
abbrev pub spans_vpci : ℕ → Range → Bool
spans_vpci p r = eqb r.vpci p && leb r.first r.last

abbrev pub spanned_vpci : ℕ → List Range → Bool
spanned_vpci p rs = list_any (spans_vpci p) rs

abbrev pub names_vpci : ℕ → Option Pair → Bool
names_vpci p None = false
names_vpci p (Some qw) = eqb qw.vpci p

abbrev pub named_vpci : ℕ → List (Option Pair) → Bool
named_vpci p es = list_any (names_vpci p) es

abbrev pub known_vpci : Pool → ℕ → Bool
known_vpci pool p = spanned_vpci p pool.ranges || named_vpci p pool.permanents

-- what is in no use: a range with no VCI, and no pair
abbrev pub no_range : Range
no_range = record { vpci = 0; first = 1; last = 0 }

abbrev pub empty_pool : Pool
empty_pool = record { ranges = replicate range_count no_range; permanents = replicate permanent_count None }
