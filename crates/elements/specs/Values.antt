-- The values of a message's elements, each absent, unreadable, or what readable contents say.
--   read             a value for each thing that can be found
--   cause_in          08 Cause: the cause number
--   call_state_in      14 Call state: the state
--   connection_in, pair_read   5A Connection identifier: VPCI and VCI
--   configured, bearer_in   5E Bearer capability: point-to-point or multipoint
--   restart_in        79 Restart indicator: the class
--   IsReadBy          what is read, where a function gives the value of readable contents
-- 59 Traffic descriptor has no one value: it is looked for, and its contents are asked. Assumes nothing.
use Rattle.std.specs.Prelude.{ℕ, ◌≡◌, cond, List}
use Rattle.octets.specs.Octets.{part}
use Rattle.contents.specs.Contents.{cause_number, call_state_value, connection_in as pair_in, restart_class}
use Rattle.identifier.specs.declared.Pair.{Pair}
use Rattle.mandatory.specs.Mandatory.{multipoint}
use Rattle.elements.specs.declared.Part.{Part}
use Rattle.elements.specs.declared.Read.{Read}
use Rattle.elements.specs.declared.Read.TheVariants.{Absent, Unreadable, Readable}
use Rattle.elements.specs.declared.Configuration.{Configuration}
use Rattle.elements.specs.declared.Configuration.TheVariants.{PointToPoint, Multipoint}
use Rattle.elements.specs.Elements.{look_for}

-- what is looked for, read: one value where it is absent, one where it is unreadable, and one made of readable contents
abbrev pub read : {A : Type 0} → List ℕ → A → A → (List ℕ → A) → Read Part → A
read m absent unreadable value Absent = absent
read m absent unreadable value Unreadable = unreadable
read m absent unreadable value (Readable p) = value (part m p.start p.end)

abbrev pub cause_in : List ℕ → ℕ → Read ℕ
cause_in m from = read m Absent Unreadable (λ c. Readable (cause_number c)) (look_for m from 0x08)

abbrev pub call_state_in : List ℕ → ℕ → Read ℕ
call_state_in m from = read m Absent Unreadable (λ c. Readable (call_state_value c)) (look_for m from 0x14)

abbrev pub connection_in : List ℕ → ℕ → Read Pair
connection_in m from = read m Absent Unreadable (λ c. Readable (pair_in c)) (look_for m from 0x5A)

-- the Connection identifier of a VPCI and a VCI
abbrev pub pair_read : ℕ → ℕ → Read Pair
pair_read p v = Readable (record { vpci = p; vci = v })

abbrev pub configured : List ℕ → Configuration
configured c = cond (multipoint c) Multipoint PointToPoint

abbrev pub bearer_in : List ℕ → ℕ → Read Configuration
bearer_in m from = read m Absent Unreadable (λ c. Readable (configured c)) (look_for m from 0x5E)

abbrev pub restart_in : List ℕ → ℕ → Read ℕ
restart_in m from = read m Absent Unreadable (λ c. Readable (restart_class c)) (look_for m from 0x79)

-- what is read, where readable contents give a value
abbrev pub IsReadBy : {A : Type 0} → (List ℕ → A → Type 0) → List ℕ → Read Part → Read A → Type 0
IsReadBy gives m Absent r = r ≡ Absent
IsReadBy gives m Unreadable r = r ≡ Unreadable
IsReadBy {A} gives m (Readable p) r = (x : A) × (r ≡ Readable x) × gives (part m p.start p.end) x
