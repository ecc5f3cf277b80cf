-- Tables that are reached (document 01, "The list in demand 3", and document 02, R-1).
--   Beginning, begun     a start or a reload, and what it answers
--   Reached              a table that an accepted beginning gave, or any list of events after one
--   BegunInOctets        a reload's form is of octets
-- Assumes nothing.
use Rattle.std.specs.Prelude.{ℕ, ◌<◌, ◌≡◌, List, get_or}
use Rattle.table.specs.declared.Table.{Table}
use Rattle.outcome.specs.declared.Started.{Started}
use Rattle.control.specs.Events.{start_of}
use Rattle.control.specs.Happens.{Event, after}
use Rattle.reload.specs.Reload.{reload_of}

-- "After a reload, demands 2 and 3 hold with that table in place of a fresh start"
pub data Beginning : Type 0 where
  start : (ranges pairs : List ℕ) → Beginning
  reload : (form : List ℕ) → Beginning

abbrev pub begun : Beginning → Started
begun (start ranges pairs) = start_of ranges pairs
begun (reload form) = reload_of form

-- "A table is reached from a fresh start if an accepted start gave it, or any list of the other events after one"
pub record Reached (t : Table) : Type 0 where
  pub beginning : Beginning
  pub accepted : (begun beginning).refusal ≡ 0
  pub events : List Event
  pub gives : after (begun beginning).table events ≡ t

-- the numbers of a saved form are octets
abbrev pub BegunInOctets : Beginning → Type 0
BegunInOctets (start ranges pairs) = Unit {0}
BegunInOctets (reload form) = (k : ℕ) → get_or form k 0 < 256
