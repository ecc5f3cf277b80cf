-- The table: what an accepted message and an accepted tick decide (steps 3 to 6, and "Host and timers"), and how a decision is performed.
--   read_at, with_slot, with_doubt, restarted    a reading stored; with one slot changed; with one pair more in doubt; after a RESTART
--   requesting, putting_back            our RESTART is under way; no pair is out of service
--   table_after                         a change performed, and the reading stored
--   free_pair                           the lowest free permitted pair
--   user_call                           the call that an admitted SETUP makes
--   on_pair, admitted, setup_effect      SETUP on no call: with a pair, with a slot, at all
--   on_no_call, on_hold, addressed        a message that names no live call, or that of a slot
--   global_effect                       a message on the global reference
--   message_effect                      a message that passed the header checks
--   no_room                             if there is no room for a doubt
--   fire_hold, fired                    the timer of a slot fires: of what it holds, of the slot
--   sooner, request_first, tick_effect   if T316 comes first; what a tick does
--   due_after                           if another timer is due afterwards
--   fired_slot, fired_request            both together
-- Assumes nothing.
use Rattle.std.specs.Prelude.{ℕ, Bool, true, false, not, cond, ◌&&◌, ◌||◌, List, map, eqb, ltb, set, Option, Some, None}
use Rattle.identifier.specs.declared.Pair.{Pair}
use Rattle.std.specs.Prelude.{ℕ, Bool, true, false, not, cond, ◌&&◌, ◌||◌, List, map, eqb, ltb, set, Result, Ok, Err, ⊤}
use Rattle.channels.specs.declared.Named.{Named}
use Rattle.identifier.specs.Pair.{pair}
use Rattle.channels.specs.Channels.{lowest}
use Rattle.pairs.specs.Pairs.{is_full, with_pair, unless_named}
use Rattle.calls.specs.declared.State.TheVariants.{N3}
use Rattle.calls.specs.declared.Call.{Call}
use Rattle.calls.specs.declared.Hold.{Hold}
use Rattle.calls.specs.declared.Hold.TheVariants.{Empty, Live}
use Rattle.calls.specs.declared.Slot.{Slot}
use Rattle.calls.specs.Calls.{is_empty, is_call, is_named, emptied}
use Rattle.calls.specs.Timers.{due_by}
use Rattle.first.specs.First.{place}
use Rattle.slots.specs.Slots.{slots_of, hold_at}
use Rattle.slots.specs.declared.Timer.{Timer}
use Rattle.slots.specs.Timers.{some_due, soonest, next_due}
use Rattle.service.specs.declared.GlobalState.TheVariants.{RestartRequest}
use Rattle.service.specs.Service.{global_number, global_due, is_waiting, none_out}
use Rattle.search.specs.Search.{taken}
use Rattle.header.specs.declared.Header.{Header}
use Rattle.elements.specs.Values.{connection_in, restart_in}
use Rattle.replies.specs.declared.Cause.{Cause}
use Rattle.replies.specs.declared.Reply.TheVariants as reply
use Rattle.replies.specs.declared.Outgoing.TheVariants as outgoing
use Rattle.setup.specs.Setup.{admission}
use Rattle.verdicts.specs.Verdict.{plain_cause}
use Rattle.verdicts.specs.Expiry.{expire}
use Rattle.judging.specs.Judge.{judge, no_call_reply, global_reply}
use Rattle.effects.specs.declared.Ending.{Ending}
use Rattle.effects.specs.declared.Change.{Change}
use Rattle.effects.specs.declared.Effect.{Effect}
use Rattle.effects.specs.Change.{slots_after, doubts_after, global_ended, global_after, out_ended, out_after}
use Rattle.effects.specs.Effect.{quiet, replying, on_call, assigned}
use Rattle.restarts.specs.User.{restart_effect}
use Rattle.restarts.specs.Own.{acknowledge_effect, expire_effect}
use Rattle.table.specs.declared.Fired.{Fired}
use Rattle.table.specs.declared.Table.{Table}

-- "An accepted event stores its reading"
abbrev pub read_at : Table → ℕ → Table
read_at t reading = record { slots = t.slots; last = reading; doubts = t.doubts; global = t.global; out = t.out; pool = t.pool }

abbrev pub with_slot : Table → ℕ → ℕ → Slot → Table
with_slot t reading i s = record {
  slots = slots_of (set t.slots.all i s);
  last = reading;
  doubts = t.doubts;
  global = t.global;
  out = t.out;
  pool = t.pool;
}

abbrev pub with_doubt : Table → ℕ → ℕ → Table
with_doubt t p v = record {
  slots = t.slots;
  last = t.last;
  doubts = with_pair t.doubts p v;
  global = t.global;
  out = t.out;
  pool = t.pool;
}

abbrev pub restarted : Table → ℕ → Named → Ending → Table
restarted t reading named why = record {
  slots = slots_of (map (emptied (is_named named)) t.slots.all);
  last = reading;
  doubts = unless_named t.doubts named;
  global = global_ended why t.global;
  out = out_ended why named t.out;
  pool = t.pool;
}

abbrev pub requesting : Table → ℕ → Named → Bool → ℕ → Table
requesting t reading named second d = record {
  slots = t.slots;
  last = reading;
  doubts = t.doubts;
  global = record { state = RestartRequest named second d };
  out = t.out;
  pool = t.pool;
}

abbrev pub putting_back : Table → ℕ → Table
putting_back t reading = record { slots = t.slots; last = reading; doubts = t.doubts; global = t.global; out = none_out; pool = t.pool }

-- a decision is performed: the table afterwards
abbrev pub table_after : Table → ℕ → Change → Table
table_after t reading x = record {
  slots = slots_after x t.slots;
  last = reading;
  doubts = doubts_after x t.doubts;
  global = global_after x t.global;
  out = out_after x t.out;
  pool = t.pool;
}

-- "lowest free permitted pair by VPCI and then VCI": the lowest of a range that is neither held by a live call, nor in doubt, nor
-- out of service, nor named by our RESTART, nor permanent (document 02, R-2 and R-4)
abbrev pub free_pair : Table → Option Pair
free_pair t = lowest (taken t.slots.all t.doubts t.out t.global.state t.pool.permanents) t.pool.ranges

-- "Otherwise: lowest empty slot, lowest free permitted pair .., CALL PROCEEDING with its 5A, state N3, notice 1."
abbrev pub user_call : ℕ → ℕ → ℕ → Call
user_call r p v = record { network = false; pair = pair p v; reference = r }

abbrev pub on_pair : ℕ → ℕ → Option Pair → Effect
on_pair r i None = replying true r (reply.ReleaseCompleteWith (plain_cause 45))
on_pair r i (Some pv) = assigned i (user_call r pv.vpci pv.vci) N3 true (outgoing.Reply (reply.CallProceeding pv))

-- "47 no empty slot; 45 no permitted pair free"
abbrev pub admitted : Table → ℕ → Option ℕ → Effect
admitted t r None = replying true r (reply.ReleaseCompleteWith (plain_cause 47))
admitted t r (Some i) = on_pair r i (free_pair t)

abbrev pub setup_effect : Table → ℕ → Result ⊤ Cause → Effect
setup_effect t r (Err c) = replying true r (reply.ReleaseCompleteWith c)
setup_effect t r (Ok u) = admitted t r (place is_empty t.slots.all)

-- "SETUP with flag 1 ..: ignored. No such call: .."; step 5 for SETUP; "a reply on no call .. carries the other flag than received"
abbrev pub on_no_call : Table → List ℕ → Header → Effect
on_no_call t m h =
    cond (eqb h.kind 0x05)
    (cond (not h.flag && h.whole) (setup_effect t h.reference (admission m 9)) quiet)
    (replying (not h.flag) h.reference (no_call_reply m h))

-- "All we send about a user-originated call has flag 1, about a network-originated one flag 0": the other flag than received
abbrev pub on_hold : List ℕ → Header → ℕ → ℕ → Hold → Effect
on_hold m h reading i Empty = quiet
on_hold m h reading i (Live c q) = on_call i c (not h.flag) h.reference (judge m h q reading)

abbrev pub addressed : Table → List ℕ → Header → ℕ → Option ℕ → Effect
addressed t m h reading None = on_no_call t m h
addressed t m h reading (Some i) = on_hold m h reading i (hold_at t.slots.all i)

-- "Global: .. RESTART with flag 0 goes on."; document 02, R-4: "RESTART ACKNOWLEDGE with flag 1 then goes on to step 5": while one is
-- outstanding; step 5 for both
abbrev pub global_effect : Table → List ℕ → Header → Effect
global_effect t m h =
    cond (eqb h.kind 0x46 && not h.flag)
    (cond h.whole (restart_effect (global_number t.global.state) t.pool (restart_in m 9) (connection_in m 9)) quiet)
    (cond ((eqb h.kind 0x4E && h.flag) && is_waiting t.global.state)
    (cond h.whole (acknowledge_effect t.global.state (restart_in m 9) (connection_in m 9)) quiet)
    (replying (not h.flag) 0 (global_reply (global_number t.global.state) h)))

-- "3. Reference." "Value 0 is global." "Flag 0 received names a user-originated call, flag 1 a network-originated one."
abbrev pub message_effect : Table → List ℕ → Header → ℕ → Effect
message_effect t m h reading =
    cond (eqb h.reference 0)
    (global_effect t m h)
    (addressed t m h reading (place (is_call h.flag h.reference) t.slots.all))

-- document 02, R-2: "with 64, a second expiry keeps the call in N12": there are 64 pairs in doubt
abbrev pub no_room : Table → Bool
no_room t = is_full t.doubts

-- "fires at most one due timer ..; with none due only the reading is stored"
abbrev pub fire_hold : Bool → ℕ → ℕ → Hold → Effect
fire_hold full reading i Empty = quiet
fire_hold full reading i (Live c q) = on_call i c (not c.network) c.reference (expire full q reading)

abbrev pub fired : Table → ℕ → Option ℕ → Effect
fired t reading None = quiet
fired t reading (Some i) = fire_hold (no_room t) reading i (hold_at t.slots.all i)

-- document 02, R-4: "In a tick T316 comes after slots of equal deadline."
abbrev pub sooner : Option Timer → ℕ → Bool
sooner None d = true
sooner (Some next) d = ltb d next.deadline

abbrev pub request_first : ℕ → Option Timer → Option ℕ → Bool
request_first reading s None = false
request_first reading s (Some d) = due_by reading (Some d) && sooner s d

abbrev pub tick_effect : Table → ℕ → Effect
tick_effect t reading =
    cond (request_first reading (soonest reading t.slots.all) (global_due t.global.state))
    (expire_effect t.global.state t.out reading)
    (fired t reading (next_due reading t.slots.all))

-- "says if another is due afterwards"; R-4: T316 counts
abbrev pub due_after : Table → ℕ → Change → Bool
due_after t reading x = some_due reading (slots_after x t.slots).all || due_by reading (global_due (global_after x t.global).state)

-- what the two kinds of timers do, and if another is due: what the functions beneath `fire` say
abbrev pub fired_slot : Table → ℕ → Option Timer → Fired
fired_slot t reading None = record { effect = quiet; more = false }
fired_slot t reading (Some next) = record {
  effect = fire_hold (no_room t) reading next.slot (hold_at t.slots.all next.slot);
  more = next.another || due_by reading (global_due t.global.state);
}

abbrev pub fired_request : Table → ℕ → Fired
fired_request t reading = record {
  effect = expire_effect t.global.state t.out reading;
  more = some_due reading (slots_after (expire_effect t.global.state t.out reading).change t.slots).all;
}
