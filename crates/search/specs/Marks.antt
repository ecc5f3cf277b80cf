-- The marks that a search sets, one for each of the first VCIs of each range: what the functions beneath `find_free` say of them, and its walk.
--   near, all_marks        how many VCIs of a range have a mark; how many marks there are
--   used                  how many ranges there are up to the last that has a VCI
--   range_at               a range of a list, by its number
--   looked                 the ranges that a search looks at
--   offset_in              which mark of a range a pair has
--   Read                  pairs are read: they are counted, and the marks of those that pass a test are set beside those that were
--   width, free_in          how many VCIs of a range a search looks at; the first of them whose mark is not set
--   lowest_in              the lowest pair whose mark is not set
-- Lists of ranges are of any length. Assumes nothing.
use Rattle.std.specs.Prelude.{ℕ, ◌+◌, ◌-◌, ◌*◌, ◌<◌, ◌≡◌, Bool, false, cond, not, ◌&&◌, ◌||◌, List, [], ◌∷◌, eqb, leb, ltb, length, take, drop, get_or, Option, Some, None}
use Rattle.std.specs.List.{position}
use Rattle.identifier.specs.Pair.{pair}
use Rattle.channels.specs.Channels.{range_count, permanent_count}
use Rattle.identifier.specs.declared.Pair.{Pair}
use Rattle.channels.specs.declared.Range.{Range}
use Rattle.pairs.specs.Pairs.{room}
use Rattle.slots.specs.Slots.{slot_count}
use Rattle.search.specs.Search.{spans}
use Rattle.search.specs.declared.Marks.{Marks}
use Rattle.search.specs.declared.Ranges.{Ranges}

-- one more than there can be pairs
abbrev pub near : ℕ
near = slot_count + room + room + permanent_count + 2

abbrev pub all_marks : ℕ
all_marks = range_count * near

-- a range without a VCI counts only before one that has some
abbrev pub used : List Range → ℕ
used [] = 0
used (r ∷ rs) = cond (spans r) (used rs + 1) (cond (eqb (used rs) 0) 0 (used rs + 1))

abbrev pub range_at : List Range → ℕ → Range
range_at rs k = get_or rs k (record { vpci = 0; first = 0; last = 0 })

abbrev pub offset_in : Range → Pair → Option ℕ
offset_in r c =
    cond (eqb r.vpci c.vpci && leb r.first c.vci)
    (cond (ltb (c.vci - r.first) near) (Some (c.vci - r.first)) None)
    None

-- those that a search looks at
abbrev pub looked : Ranges → List Range
looked r = take r.used r.all

-- range k has the marks from k times `near` on
pub record Read (rs : List Range) (t : ℕ → ℕ → Bool) (many : ℕ) (old new : Marks) : Type 0 where
  pub count : new.reads ≡ old.reads + many
  pub wide : length new.on ≡ length old.on
  pub mark : (k o : ℕ) → k < length rs → o < near
      → get_or new.on (k * near + o) false ≡ (get_or old.on (k * near + o) false || t (range_at rs k).vpci ((range_at rs k).first + o))

abbrev pub width : Range → ℕ
width r = cond (ltb ((r.last + 1) - r.first) near) ((r.last + 1) - r.first) near

abbrev pub free_in : Range → List Bool → Option ℕ
free_in r on = position not (take (width r) on)

abbrev pub at_offset : Range → Option ℕ → Option Pair → Option Pair
at_offset r None rest = rest
at_offset r (Some o) rest = Some (pair r.vpci (r.first + o))

abbrev pub lowest_in : List Bool → ℕ → List Range → Option Pair
lowest_in on k [] = None
lowest_in on k (r ∷ rs) = at_offset r (free_in r (drop (k * near) on)) (lowest_in on (k + 1) rs)
