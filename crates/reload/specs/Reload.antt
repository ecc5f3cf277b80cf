-- Reloading a table (document 02, R-1): "The reader refuses .. with 9 and gives no table."
--   is_form                 octets that are the saved form of a table of so many slots that keeps the rules
--   no_table                a refusal
--   reload_in, reload_of     what reloading answers, for so many slots and for ours
-- The rules are in crate rules. Assumes nothing.
use Rattle.std.specs.Prelude.{ℕ, Bool, cond, ◌&&◌, List, leb}
use Rattle.octets.specs.Octets.{equal}
use Rattle.provisioning.specs.Provisioning.{provision}
use Rattle.channels.specs.Channels.{empty_pool}
use Rattle.calls.specs.Timers.{largest_reading}
use Rattle.slots.specs.Slots.{slot_count}
use Rattle.outcome.specs.Outcome.{fresh_table}
use Rattle.outcome.specs.declared.Started.{Started}
use Rattle.rules.specs.Rules.{table_kept}
use Rattle.saved.specs.Form.{form_of}
use Rattle.reading.specs.Reading.{range_numbers, pair_numbers, table_in}

-- "lists that start refuses, a reading over the limit", the rules of calls, pairs and RESTART, and octets that are not the table's own form:
-- "unknown tags, a cut, missing .., repeated or misplaced field, a wrong length, a slot the table lacks"; "each table has one saved form"
abbrev pub is_form : ℕ → List ℕ → Bool
is_form count f =
    (provision (range_numbers f) (pair_numbers f)).accepted
    && (leb (table_in count f).last largest_reading
    && (table_kept count (table_in count f) && equal (form_of (table_in count f)) f))

-- "with 9 and gives no table": what a refused start answers
abbrev pub no_table : Started
no_table = record { refusal = 9; table = fresh_table empty_pool }

abbrev pub reload_in : ℕ → List ℕ → Started
reload_in count f = cond (is_form count f) (record { refusal = 0; table = table_in count f }) no_table

abbrev pub reload_of : List ℕ → Started
reload_of f = reload_in slot_count f
