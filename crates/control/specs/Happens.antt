-- One event after the other (document 01, "The list in demand 3").
--   Event, happens     one event other than start, and its outcome on a table
--   after              the table after a list of events
-- Assumes nothing.
use Rattle.std.specs.Prelude.{ℕ, List, [], ◌∷◌}
use Rattle.restarts.specs.declared.Target.{Target}
use Rattle.table.specs.declared.Table.{Table}
use Rattle.outcome.specs.Outcome.{Outcome}
use Rattle.control.specs.Events.{message_of, tick_of, connect_of, clear_of, offer_of, restart_of, put_back_of}

-- label, reading and the length of the reply room; then what the event carries
pub data Event : Type 0 where
  message : (label reading room : ℕ) (octets : List ℕ) → Event
  tick : (label reading room : ℕ) → Event
  connect : (label reading room slot : ℕ) → Event
  clear : (label reading room slot cause : ℕ) → Event
  offer : (label reading room : ℕ) (body : List ℕ) → Event
  restart : (label reading room : ℕ) (target : Target) → Event
  put_marks_back : (label reading room : ℕ) → Event

abbrev pub happens : Table → Event → Outcome
happens t (message label reading room octets) = message_of t label reading room octets
happens t (tick label reading room) = tick_of t label reading room
happens t (connect label reading room slot) = connect_of t label reading room slot
happens t (clear label reading room slot cause) = clear_of t label reading room slot cause
happens t (offer label reading room body) = offer_of t label reading room body
happens t (restart label reading room target) = restart_of t label reading room target
happens t (put_marks_back label reading room) = put_back_of t label reading room

-- "any list of the other events .., refused ones included, each getting the table that the one before gave back"
abbrev pub after : Table → List Event → Table
after t [] = t
after t (e ∷ es) = after (happens t e).answer.table es
