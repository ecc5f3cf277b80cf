-- Unknown elements (document 02, R-5): which they are, where the first stands, and the identifiers that are told.
--   known_identifiers, known     the identifiers that count as known
--   first_unknown                where the first unknown one of the elements from a place on stands
--   unknown_in, from_first        the identifiers of the unknown ones, in message order; the same, by where the first stands
--   told                        the first 8 of them
--   skipped_of                   identifiers in an array with their number, as a STATUS tells them
--   skipped_octets               the octets of what a STATUS tells
-- Assumes nothing.
use Rattle.std.specs.Prelude.{ℕ, Bool, cond, List, [], ◌∷◌, length, take, replicate, Option, Some, None}
use Rattle.octets.specs.Octets.{front}
use Rattle.traffic.specs.Traffic.{member}
use Rattle.items.specs.declared.Item.{Item}
use Rattle.items.specs.declared.Item.TheVariants.{End, Overrun, Whole}
use Rattle.items.specs.Items.{items}
use Rattle.unknown.specs.declared.Skipped.{Skipped}
use Rattle.unknown.specs.declared.Unknown.{Unknown}

-- document 01 has rules for 08 14 59 5A 5C 5E 70 79; document 02, R-5: "Identifiers 54, 55, 58, 5D, 5F, 60 to 63, 6C, 6D, 71 and 78
-- count as known here and stay skipped."
abbrev pub known_identifiers : List ℕ
known_identifiers =
    0x08 ∷ 0x14 ∷ 0x59 ∷ 0x5A ∷ 0x5C ∷ 0x5E ∷ 0x70 ∷ 0x79
    ∷ 0x54 ∷ 0x55 ∷ 0x58 ∷ 0x5D ∷ 0x5F ∷ 0x60 ∷ 0x61 ∷ 0x62 ∷ 0x63 ∷ 0x6C ∷ 0x6D ∷ 0x71 ∷ 0x78 ∷ []

abbrev pub known : ℕ → Bool
known id = member id known_identifiers

-- "The reader of one element must now also answer where an unknown one stands.": its identifier, its place, and the place behind it; an
-- element that overruns "is present .., and ends" the walk
abbrev pub first_unknown : List ℕ → ℕ → List Item → Option Unknown
first_unknown m at [] = None
first_unknown m at (End ∷ is) = None
first_unknown m at (Overrun id ∷ is) = cond (known id) None (Some (record { id = id; at = at; next = length m }))
first_unknown m at (Whole id action start end ∷ is) = cond (known id) (first_unknown m end is) (Some (record { id = id; at = at; next = end }))

-- "their identifiers, .. in message order, repeats included"
abbrev pub unknown_in : List Item → List ℕ
unknown_in [] = []
unknown_in (End ∷ is) = unknown_in is
unknown_in (Overrun id ∷ is) = cond (known id) (unknown_in is) (id ∷ unknown_in is)
unknown_in (Whole id action start end ∷ is) = cond (known id) (unknown_in is) (id ∷ unknown_in is)

abbrev pub from_first : List ℕ → Option Unknown → List ℕ
from_first m None = []
from_first m (Some u) = u.id ∷ unknown_in (items m u.next)

-- "first 8 in message order"
abbrev pub told : List ℕ → ℕ → List ℕ
told m from = take 8 (unknown_in (items m from))

-- document 02, R-5: "their identifiers, first 8 in message order, repeats included": at the front of an array, with 0 behind them
abbrev pub skipped_of : List ℕ → Skipped
skipped_of ids = record { identifiers = front ids (replicate 8 0); count = length ids }

abbrev pub skipped_octets : Skipped → List ℕ
skipped_octets s = take s.count s.identifiers
