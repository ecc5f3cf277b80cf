-- What an event decides, whichever event it is.
--   label_of, reading_of, room_of, body_of     what an event carries; an offer's body goes with what it sends
--   common_of, own_of, refusal_of     its refusal number: 1 to 4, and behind them
--   effect_of           what it does if it is accepted
--   more_of             for a tick, whether another timer is due
--   outcome_of          its outcome if it is accepted
-- `happens_is` (proofs/View.antt) says that this is what `happens` says. Assumes nothing.
use Rattle.std.specs.Prelude.{ℕ, Bool, false, List, []}
use Rattle.calls.specs.Calls.{is_empty}
use Rattle.first.specs.First.{place}
use Rattle.slots.specs.Slots.{hold_at}
use Rattle.header.specs.Header.{head_of}
use Rattle.effects.specs.declared.Effect.{Effect}
use Rattle.restarts.specs.Own.{named_by, requested, put_back}
use Rattle.table.specs.declared.Table.{Table}
use Rattle.table.specs.Effects.{free_pair, tick_effect, due_after}
use Rattle.refusals.specs.Refusals.{or_else, common_refusal, size_refusal, unconnectable, unclearable, cause_refusal, body_refusal, slot_refusal, pair_refusal, target_refusal}
use Rattle.outcome.specs.Outcome.{Outcome, sending}
use Rattle.commands.specs.Commands.{connected, cleared}
use Rattle.control.specs.Events.{heard_by, offered}
use Rattle.control.specs.Happens.{Event, message, tick, connect, clear, offer, restart, put_marks_back}

-- "All but start carry a clock label, a reading and a reply room."
abbrev pub label_of : Event → ℕ
label_of (message label reading room octets) = label
label_of (tick label reading room) = label
label_of (connect label reading room slot) = label
label_of (clear label reading room slot cause) = label
label_of (offer label reading room body) = label
label_of (restart label reading room target) = label
label_of (put_marks_back label reading room) = label

abbrev pub reading_of : Event → ℕ
reading_of (message label reading room octets) = reading
reading_of (tick label reading room) = reading
reading_of (connect label reading room slot) = reading
reading_of (clear label reading room slot cause) = reading
reading_of (offer label reading room body) = reading
reading_of (restart label reading room target) = reading
reading_of (put_marks_back label reading room) = reading

abbrev pub room_of : Event → ℕ
room_of (message label reading room octets) = room
room_of (tick label reading room) = room
room_of (connect label reading room slot) = room
room_of (clear label reading room slot cause) = room
room_of (offer label reading room body) = room
room_of (restart label reading room target) = room
room_of (put_marks_back label reading room) = room

abbrev pub body_of : Event → List ℕ
body_of (message label reading room octets) = []
body_of (tick label reading room) = []
body_of (connect label reading room slot) = []
body_of (clear label reading room slot cause) = []
body_of (offer label reading room body) = body
body_of (restart label reading room target) = []
body_of (put_marks_back label reading room) = []

-- 1 to 4, and what is asked of an event behind them
abbrev pub common_of : Table → Event → ℕ
common_of t e = common_refusal t.last (label_of e) (reading_of e) (room_of e)

abbrev pub own_of : Table → Event → ℕ
own_of t (message label reading room octets) = size_refusal octets
own_of t (tick label reading room) = 0
own_of t (connect label reading room slot) = unconnectable (hold_at t.slots.all slot)
own_of t (clear label reading room slot cause) = or_else (unclearable (hold_at t.slots.all slot)) (cause_refusal cause)
own_of t (offer label reading room body) = or_else (body_refusal body) (or_else (slot_refusal (place is_empty t.slots.all)) (pair_refusal (free_pair t)))
own_of t (restart label reading room target) = target_refusal t.global.state t.pool target
own_of t (put_marks_back label reading room) = 0

abbrev pub refusal_of : Table → Event → ℕ
refusal_of t e = or_else (common_of t e) (own_of t e)

abbrev pub effect_of : Table → Event → Effect
effect_of t (message label reading room octets) = heard_by t reading octets (head_of octets)
effect_of t (tick label reading room) = tick_effect t reading
effect_of t (connect label reading room slot) = connected slot (hold_at t.slots.all slot)
effect_of t (clear label reading room slot cause) = cleared reading slot cause (hold_at t.slots.all slot)
effect_of t (offer label reading room body) = offered t reading (place is_empty t.slots.all)
effect_of t (restart label reading room target) = requested reading (named_by target) false
effect_of t (put_marks_back label reading room) = put_back

abbrev pub more_of : Table → Event → Bool
more_of t (message label reading room octets) = false
more_of t (tick label reading room) = due_after t reading (tick_effect t reading).change
more_of t (connect label reading room slot) = false
more_of t (clear label reading room slot cause) = false
more_of t (offer label reading room body) = false
more_of t (restart label reading room target) = false
more_of t (put_marks_back label reading room) = false

abbrev pub outcome_of : Table → Event → Outcome
outcome_of t e = sending t (reading_of e) (effect_of t e) (more_of t e) (body_of e)
