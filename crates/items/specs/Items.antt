-- The elements of octets `m`, one after another.
--   content_length            how many octets of contents the element at a place says
--   item_at                   the element at a place
--   and_then, item_step, items     one element and what follows it; the elements from a place on
--   named                    has an element this identifier?
--   first_of, Inside, count_of   the first element of an identifier; its contents lie within the octets; how many there are
--   ends_whole, whole_from     are the octets a whole number of elements?
-- A message's elements start at place 9, those of an offer's body at 0. Assumes nothing.
use Rattle.std.specs.Prelude.{ℕ, ◌+◌, ◌-◌, ◌≤◌, Bool, false, cond, List, [], ◌∷◌, eqb, ltb, length, get_or}
use Rattle.octets.specs.Octets.{number}
use Rattle.traffic.specs.Walk.{walk}
use Rattle.items.specs.declared.Item.{Item}
use Rattle.items.specs.declared.Item.TheVariants.{End, Overrun, Whole}

-- "Element: identifier, octet 2, two-octet content length, contents."
abbrev pub content_length : List ℕ → ℕ → ℕ
content_length m at = number (get_or m (at + 2) 0) (get_or m (at + 3) 0)

-- "Fewer than four octets left end the walk. An element that overruns the message is present .., and ends it."
abbrev pub item_at : List ℕ → ℕ → Item
item_at m at =
    cond (ltb (length m) 4)
    End
    (cond (ltb (length m - 4) at)
    End
    (cond (ltb (length m - (at + 4)) (content_length m at))
    (Overrun (get_or m at 0))
    (Whole (get_or m at 0) (get_or m (at + 1) 0) (at + 4) (at + 4 + content_length m at))))

abbrev pub and_then : Item → (ℕ → List Item) → List Item
and_then End rest = []
and_then (Overrun id) rest = Overrun id ∷ []
and_then (Whole id action start end) rest = Whole id action start end ∷ rest end

abbrev pub item_step : List ℕ → ℕ → (ℕ → List Item) → List Item
item_step m at rest = and_then (item_at m at) rest

-- the elements from a place on, up to the end or the first that overruns; each has at least four octets
abbrev pub items : List ℕ → ℕ → List Item
items m from = walk (item_step m) [] (length m) from

-- "Only the first of an identifier counts; unknown identifiers are skipped (house)."
abbrev pub named : ℕ → Item → Bool
named id End = false
named id (Overrun met) = eqb met id
named id (Whole met action start end) = eqb met id

abbrev pub first_of : ℕ → List Item → Item
first_of id [] = End
first_of id (i ∷ is) = cond (named id i) i (first_of id is)

-- the contents of an item lie within l octets
abbrev pub Inside : ℕ → Item → Type 0
Inside l End = Unit {0}
Inside l (Overrun id) = Unit {0}
Inside l (Whole id action start end) = (start ≤ end) × (end ≤ l)

abbrev pub count_of : ℕ → List Item → ℕ
count_of id [] = 0
count_of id (i ∷ is) = cond (named id i) 1 0 + count_of id is

-- "a whole number of elements, none overrunning": those from a place on end at the last octet
abbrev pub ends_whole : List ℕ → ℕ → List Item → Bool
ends_whole m at [] = eqb at (length m)
ends_whole m at (End ∷ is) = false
ends_whole m at (Overrun id ∷ is) = false
ends_whole m at (Whole id action start end ∷ is) = ends_whole m end is

abbrev pub whole_from : List ℕ → ℕ → Bool
whole_from m from = ends_whole m from (items m from)
