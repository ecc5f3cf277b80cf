-- Whose number is shown (document 02, R-13). `m` is the message lent, `s` the subscription record lent.
--   passes               a SETUP that passes steps 1, 2 and 5
--   address_shown, read, calling_in     what a message shows of its calling number
--   or_record, extent_of   which of the two is shown, where the part begins and how long it is: the answer
--   length_of             how long an answer says that the part is
--   octets_of, shown_of    the octets of that part
--   beginning            where in memory the part begins
--   Inside, Within       it lies within what was lent
-- Assumes nothing.
use Rattle.header.specs.declared.Header.{Header}
use Rattle.std.specs.Prelude.{ℕ, ◌+◌, ◌-◌, ◌≤◌, Bool, false, ◌&&◌, cond, List, eqb, length, Option, Some, None}
use Rattle.octets.specs.Octets.{part}
use Rattle.header.specs.Header.{head_of}
use Rattle.items.specs.declared.Item.{Item}
use Rattle.items.specs.declared.Item.TheVariants.{End, Overrun, Whole}
use Rattle.items.specs.Items.{items, first_of}
use Rattle.shown.specs.declared.Extent.{Extent}
use Rattle.shown.specs.declared.Extent.TheVariants.{Message, Record}
use Rattle.shown.specs.Calling.{calling_fits, address_at, allowed}

-- "Where the message lent is a SETUP that passes steps 1, 2 and 5"
abbrev pub passes : Option Header → Bool
passes None = false
passes (Some h) = h.whole && eqb h.kind 0x05

-- the address of readable contents `c`, which begin at place `start` of the message and end at its place `end`.
-- "Any presentation but allowed shows the empty part of the message where the address begins."
abbrev pub address_shown : List ℕ → ℕ → ℕ → Option (ℕ × ℕ)
address_shown c start end =
    Some (start + address_at c, cond (allowed c) (end - (start + address_at c)) 0)

-- "and has a readable one": "octet 2 80", and readable contents; an element that overruns the message is unreadable
abbrev pub read : List ℕ → Item → Option (ℕ × ℕ)
read m End = None
read m (Overrun id) = None
read m (Whole id action start end) =
    cond (eqb action 0x80) (cond (calling_fits (part m start end)) (address_shown (part m start end) start end) None) None

-- the calling number element is the first 6C
abbrev pub calling_in : List ℕ → Option (ℕ × ℕ)
calling_in m = cond (passes (head_of m)) (read m (first_of 0x6C (items m 9))) None

-- "the address shown is a part of that message; otherwise it is a part of the subscription record, namely all of it as lent."
abbrev pub or_record : List ℕ → Option (ℕ × ℕ) → Extent
or_record s None = Record 0 (length s)
or_record s (Some (at, n)) = Message at n

-- "Say which one and which octets."
abbrev pub extent_of : List ℕ → List ℕ → Extent
extent_of m s = or_record s (calling_in m)

abbrev pub length_of : Extent → ℕ
length_of (Message at n) = n
length_of (Record at n) = n

abbrev pub octets_of : List ℕ → List ℕ → Extent → List ℕ
octets_of m s (Message at n) = part m at (at + n)
octets_of m s (Record at n) = part s at (at + n)

abbrev pub shown_of : List ℕ → List ℕ → List ℕ
shown_of m s = octets_of m s (extent_of m s)

-- where in memory a part begins, from where the message and the record do: a block and an offset
abbrev pub beginning : ℕ × ℕ → ℕ × ℕ → Extent → ℕ × ℕ
beginning m s (Message at n) = (m.0, at + m.1)
beginning m s (Record at n) = (s.0, at + s.1)

-- what is shown of a message lies within its l octets
abbrev pub Inside : ℕ → Option (ℕ × ℕ) → Type 0
Inside l None = Unit {0}
Inside l (Some (at, n)) = at + n ≤ l

-- a part of a message of l octets, or of a record of k, lies within it
abbrev pub Within : ℕ → ℕ → Extent → Type 0
Within l k (Message at n) = at + n ≤ l
Within l k (Record at n) = at + n ≤ k
