-- What a SETUP's elements are refused for, before the table is asked (document 01, "SETUP").
--   found_in, chosen               what is found of the four that SETUP must have, and those that pass a test
--   some_named                     if at least one of them is named
--   multipoint_in, allowed_in       the bearer capability, and the traffic rule
--   because, because_of           a cause with no diagnostic, and one that names elements
--   admission                     the first cause that applies
-- The walk begins at place `from`. Assumes nothing.
use Rattle.std.specs.Prelude.{ℕ, Bool, false, cond, ◌||◌, List, Result, Ok, Err, ⊤}
use Rattle.traffic.specs.Traffic.{traffic_allowed}
use Rattle.elements.specs.declared.Part.{Part}
use Rattle.elements.specs.declared.Read.{Read}
use Rattle.elements.specs.Elements.{is_absent, is_unreadable, look_for}
use Rattle.elements.specs.Values.{read}
use Rattle.mandatory.specs.Mandatory.{multipoint}
use Rattle.replies.specs.declared.Cause.{Cause}
use Rattle.replies.specs.declared.Mandatory.{Mandatory}
use Rattle.replies.specs.declared.Diagnostic.TheVariants as diagnostic

-- what is found of 59, 5C, 5E and 70
abbrev pub found_in : List ℕ → ℕ → Mandatory (Read Part)
found_in m from = record {
  traffic = look_for m from 0x59;
  qos = look_for m from 0x5C;
  bearer = look_for m from 0x5E;
  called = look_for m from 0x70;
}

-- those of the four that pass a test
abbrev pub chosen : (Read Part → Bool) → Mandatory (Read Part) → Mandatory Bool
chosen test l = record { traffic = test l.traffic; qos = test l.qos; bearer = test l.bearer; called = test l.called }

abbrev pub some_named : Mandatory Bool → Bool
some_named n = n.traffic || (n.qos || (n.bearer || n.called))

-- "65 multipoint": of a readable bearer capability
abbrev pub multipoint_in : List ℕ → Read Part → Bool
multipoint_in m look = read m false false multipoint look

-- "73 (84 or 85 absent, or BE with any but 84 85 BF)": of a readable traffic descriptor
abbrev pub allowed_in : List ℕ → Read Part → Bool
allowed_in m look = read m false false traffic_allowed look

abbrev pub because : ℕ → Cause
because n = record { number = n; diagnostic = diagnostic.None }

abbrev pub because_of : ℕ → Mandatory Bool → Cause
because_of n named = record { number = n; diagnostic = diagnostic.Elements named }

-- "SETUP refuses with RELEASE COMPLETE, first of: 96 with the missing of 59 5C 5E 70, ascending; 100 with the unreadable of these
-- four, ascending; 65 multipoint; 73 ..; 47 no empty slot; 45 no permitted pair free." (47 and 45 are the table's)
abbrev pub admission : List ℕ → ℕ → Result ⊤ Cause
admission m from =
    cond (some_named (chosen is_absent (found_in m from)))
    (Err (because_of 96 (chosen is_absent (found_in m from))))
    (cond (some_named (chosen is_unreadable (found_in m from)))
    (Err (because_of 100 (chosen is_unreadable (found_in m from))))
    (cond (multipoint_in m (found_in m from).bearer)
    (Err (because 65))
    (cond (allowed_in m (found_in m from).traffic) (Ok tt) (Err (because 73)))))
