-- Octets read as a message, and the messages that octets can say (document 01, "Octets").
--   elements_among, elements_in   the whole elements of octets, as values
--   Reading, read_message        the message that octets are, if they are one
--   Octets, Fits, EachFits      numbers that are octets; an element, and elements, whose parts fit their octets
--   WellFormed                  a message whose parts fit their octets
-- Assumes nothing.
use Rattle.header.specs.declared.Header.{Header}
use Rattle.std.specs.Prelude.{ℕ, ◌<◌, ◌&&◌, cond, List, [], ◌∷◌, length, get_or, Option, Some, None}
use Rattle.octets.specs.Octets.{part}
use Rattle.header.specs.Header.{head_of}
use Rattle.items.specs.declared.Item.{Item}
use Rattle.items.specs.declared.Item.TheVariants.{End, Overrun, Whole}
use Rattle.items.specs.Items.{items, whole_from}
use Rattle.replies.specs.Message.{Element, body, Message, message}

-- "Element: identifier, octet 2, two-octet content length, contents."
abbrev pub elements_among : List ℕ → List Item → List Element
elements_among m [] = []
elements_among m (End ∷ is) = elements_among m is
elements_among m (Overrun id ∷ is) = elements_among m is
elements_among m (Whole id action start end ∷ is) = record { ident = id; action = action; contents = part m start end } ∷ elements_among m is

abbrev pub elements_in : List ℕ → ℕ → List Element
elements_in m from = elements_among m (items m from)

pub data Reading : Type 0 where
  unreadable : Reading
  reads : Message → Reading

-- the length field is right, and what follows octet 9 is a whole number of elements
abbrev pub read_under : List ℕ → Option Header → Reading
read_under m None = unreadable
read_under m (Some h) = cond (h.whole && whole_from m 9) (reads (message h.flag h.reference h.kind (elements_in m 9))) unreadable

-- "The mission's three header checks are steps 1 and 2."
abbrev pub read_message : List ℕ → Reading
read_message m = read_under m (head_of m)

pub record Octets (m : List ℕ) : Type 0 where
  pub at : (i : ℕ) → get_or m i 0 < 256

pub record Fits (e : Element) : Type 0 where
  pub ident : e.ident < 256
  pub action : e.action < 256
  pub contents : Octets e.contents
  pub size : length e.contents < 65536

pub data EachFits : List Element → Type 0 where
  none : EachFits []
  more : {e : Element} {es : List Element} → Fits e → EachFits es → EachFits (e ∷ es)

-- "23-bit reference", a type of one octet, "two octets of length"
pub record WellFormed (m : Message) : Type 0 where
  pub reference : m.reference < 8388608
  pub kind : m.kind < 256
  pub elements : EachFits m.elements
  pub size : length (body m.elements) < 65536
