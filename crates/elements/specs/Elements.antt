-- What is found of an identifier among the elements of octets `m`.
--   is_absent, is_unreadable  of what is read
--   IfReadable                a fact of what is readable
--   action_fits               is octet 2 readable?
--   judge                    what the first element of an identifier is found to be
--   look_for, Within          absent, unreadable, or where the readable contents are
-- A message's elements start at place 9, those of an offer's body at 0. Assumes nothing.
use Rattle.std.specs.Prelude.{ℕ, ◌≤◌, Bool, true, false, ◌&&◌, ◌||◌, cond, List, eqb}
use Rattle.octets.specs.Octets.{part}
use Rattle.items.specs.declared.Item.{Item}
use Rattle.items.specs.declared.Item.TheVariants.{End, Overrun, Whole}
use Rattle.items.specs.Items.{items, first_of}
use Rattle.contents.specs.Fits.{fits}
use Rattle.elements.specs.declared.Part.{Part}
use Rattle.elements.specs.declared.Read.{Read}
use Rattle.elements.specs.declared.Read.TheVariants.{Absent, Unreadable, Readable}

abbrev pub is_absent : {A : Type 0} → Read A → Bool
is_absent Absent = true
is_absent Unreadable = false
is_absent (Readable x) = false

abbrev pub is_unreadable : {A : Type 0} → Read A → Bool
is_unreadable Absent = false
is_unreadable Unreadable = true
is_unreadable (Readable x) = false

-- a fact of what is readable
abbrev pub IfReadable : {A : Type 0} → Read A → (A → Type 0) → Type 0
IfReadable Absent p = Unit {0}
IfReadable Unreadable p = Unit {0}
IfReadable (Readable x) p = p x

-- "Octet 2 is 80; for Cause and QoS also E0; another value makes a listed element unreadable."
abbrev pub action_fits : ℕ → ℕ → Bool
action_fits id action = eqb action 0x80 || (eqb action 0xE0 && (eqb id 0x08 || eqb id 0x5C))

-- "An element that overruns the message is present and unreadable"
abbrev pub judge : List ℕ → ℕ → Item → Read Part
judge m id End = Absent
judge m id (Overrun met) = Unreadable
judge m id (Whole met action start end) = cond (action_fits id action && fits id (part m start end)) (Readable (record { start = start; end = end })) Unreadable

abbrev pub look_for : List ℕ → ℕ → ℕ → Read Part
look_for m from id = judge m id (first_of id (items m from))

-- readable contents lie within l octets
abbrev pub Within : ℕ → Read Part → Type 0
Within l r = IfReadable r (λ p. (p.start ≤ p.end) × (p.end ≤ l))
