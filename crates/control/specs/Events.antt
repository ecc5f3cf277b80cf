-- The events (document 01, "One school, network side" and "Host and timers"; document 02, R-4).
--   start_of, message_of, tick_of, connect_of, clear_of, offer_of, restart_of, put_back_of
--   heard_by              what an accepted message does
--   offered_at, offered   what an offer does: with a slot and a pair, with a slot
-- Each event is the whole answer, the table and the reply, on any input. What is refused is in refusals, what connect, clear and offer
-- do in commands. Assumes nothing.
use Rattle.header.specs.declared.Header.{Header}
use Rattle.std.specs.Prelude.{ℕ, cond, false, List, [], Option, Some, None}
use Rattle.identifier.specs.declared.Pair.{Pair}
use Rattle.provisioning.specs.Provisioning.{provision}
use Rattle.calls.specs.Calls.{is_empty}
use Rattle.first.specs.First.{place}
use Rattle.slots.specs.Slots.{hold_at, unused_reference}
use Rattle.header.specs.Header.{head_of}
use Rattle.effects.specs.declared.Effect.{Effect}
use Rattle.effects.specs.Effect.{quiet}
use Rattle.restarts.specs.declared.Target.{Target}
use Rattle.restarts.specs.Own.{named_by, requested, put_back}
use Rattle.table.specs.declared.Table.{Table}
use Rattle.table.specs.Effects.{free_pair, message_effect, tick_effect, due_after}
use Rattle.refusals.specs.Refusals.{message_refusal, common_refusal, connect_refusal, clear_refusal, offer_refusal, restart_refusal}
use Rattle.outcome.specs.Outcome.{Outcome, sending, accepted_as, unless_refused, fresh_table}
use Rattle.outcome.specs.declared.Started.{Started}
use Rattle.commands.specs.Commands.{connected, cleared, offered_on}

-- "start takes permitted ranges .. and permanent pairs"; "the last accepted reading, 0 at start"; "A refused start gives no table to use."
abbrev pub start_of : List ℕ → List ℕ → Started
start_of ranges pairs = record {
  refusal = cond (provision ranges pairs).accepted 0 9;
  table = fresh_table (provision ranges pairs).pool;
}

-- steps 1 and 2: "ignored"; "An accepted event stores its reading, even where the message is ignored."
abbrev pub heard_by : Table → ℕ → List ℕ → Option Header → Effect
heard_by t reading m None = quiet
heard_by t reading m (Some h) = message_effect t m h reading

abbrev pub message_of : Table → ℕ → ℕ → ℕ → List ℕ → Outcome
message_of t label reading room m =
    unless_refused t (message_refusal t.last label reading room m) (accepted_as t reading (heard_by t reading m (head_of m)))

-- "says if another is due afterwards (refused: no)"
abbrev pub tick_of : Table → ℕ → ℕ → ℕ → Outcome
tick_of t label reading room =
    unless_refused t (common_refusal t.last label reading room)
    (sending t reading (tick_effect t reading) (due_after t reading (tick_effect t reading).change) [])

-- "connect a slot"
abbrev pub connect_of : Table → ℕ → ℕ → ℕ → ℕ → Outcome
connect_of t label reading room slot =
    unless_refused t (connect_refusal t.last label reading room (hold_at t.slots.all slot)) (accepted_as t reading (connected slot (hold_at t.slots.all slot)))

-- "clear a slot with a cause"
abbrev pub clear_of : Table → ℕ → ℕ → ℕ → ℕ → ℕ → Outcome
clear_of t label reading room slot cause =
    unless_refused t (clear_refusal t.last label reading room (hold_at t.slots.all slot) cause)
    (accepted_as t reading (cleared reading slot cause (hold_at t.slots.all slot)))

-- "offer: lowest empty slot, lowest free pair, lowest network-originated reference value from 1 not in use" (no slot or no pair was
-- refused before, with 11 and 12: these cases are never asked)
abbrev pub offered_at : Table → ℕ → ℕ → Option Pair → Effect
offered_at t reading i None = quiet
offered_at t reading i (Some pv) = offered_on reading i (unused_reference t.slots.all) pv.vpci pv.vci

abbrev pub offered : Table → ℕ → Option ℕ → Effect
offered t reading None = quiet
offered t reading (Some i) = offered_at t reading i (free_pair t)

abbrev pub offer_of : Table → ℕ → ℕ → ℕ → List ℕ → Outcome
offer_of t label reading room body =
    unless_refused t (offer_refusal t label reading room body) (sending t reading (offered t reading (place is_empty t.slots.all)) false body)

-- document 02, R-4: "The host may restart one pair or all."
abbrev pub restart_of : Table → ℕ → ℕ → ℕ → Target → Outcome
restart_of t label reading room target =
    unless_refused t (restart_refusal t.last label reading room t.global.state t.pool target)
    (accepted_as t reading (requested reading (named_by target) false))

-- ".. until the host puts all marked pairs back at once"
abbrev pub put_back_of : Table → ℕ → ℕ → ℕ → Outcome
put_back_of t label reading room = unless_refused t (common_refusal t.last label reading room) (accepted_as t reading put_back)
