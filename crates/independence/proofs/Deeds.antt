-- What a message does, as a decision and a change of slots.
--   Deed                       the call that a message names has a fate, or the lowest empty slot is filled
--   given, perform             a deed's answer, and the slots after it
--   Sight, sight               what a message sees of the slots
--   decide, decision           the deed of a message, as document 01 decides it: from the message and what it sees, and nothing else
-- Assumes nothing.
use Rattle.verdicts.specs.Verdict.{notice_number}
use Rattle.std.specs.Prelude.{Option, Some, None}
use Prim.Native.Nat.{ℕ}
use mathlib.Core.Bool.{Bool, true, false, not, cond, ◌&&◌}
use mathlib.Core.List.{List}
use lib.Dec.{eqb}
use Rattle.std.specs.Prelude.{Result, Ok, Err, ⊤}
use Rattle.table.specs.declared.Table.{Table}
use Rattle.identifier.specs.declared.Pair.{Pair}
use Rattle.channels.specs.declared.Pool.{Pool}
use Rattle.identifier.specs.Pair.{pair}
use Rattle.channels.specs.Channels.{lowest}
use Rattle.pairs.specs.declared.Pairs.{Pairs}
use Rattle.calls.specs.declared.State.{State}
use Rattle.calls.specs.declared.State.TheVariants.{N3}
use Rattle.calls.specs.declared.Hold.{Hold}
use Rattle.calls.specs.declared.Hold.TheVariants.{Empty, Live}
use Rattle.calls.specs.declared.Slot.{Slot}
use Rattle.calls.specs.Calls.{no_slot, live_slot, is_empty, is_call}
use Rattle.first.specs.First.{place, first, upd}
use Rattle.service.specs.declared.GlobalState.{GlobalState}
use Rattle.service.specs.declared.OutOfService.{OutOfService}
use Rattle.search.specs.Search.{taken}
use Rattle.header.specs.declared.Header.{Header}
use Rattle.replies.specs.declared.Cause.{Cause}
use Rattle.replies.specs.declared.Reply.{Reply}
use Rattle.replies.specs.declared.Reply.TheVariants as reply
use Rattle.replies.specs.Reply.{reply_octets}
use Rattle.setup.specs.Setup.{admission}
use Rattle.verdicts.specs.declared.Fate.{Fate}
use Rattle.verdicts.specs.declared.Fate.TheVariants as fate
use Rattle.verdicts.specs.declared.Verdict.{Verdict}
use Rattle.verdicts.specs.Verdict.{plain_cause}
use Rattle.judging.specs.Judge.{judge, no_call_reply}
use Rattle.effects.specs.Change.{no_flags, flags_at, flagged}
use Rattle.table.specs.Effects.{user_call}
use Rattle.independence.specs.Independence.{Given}

-- `turns`: the first call of the message's flagged reference has a fate. `fills`: the lowest empty slot gets a call of this reference on this pair
pub data Deed : Type 0 where
  turns : Given → Fate → Deed
  fills : Given → (r p v : ℕ) → Deed

abbrev pub given : Deed → Given
given (turns g f) = g
given (fills g r p v) = g

abbrev pub user_slot : ℕ → ℕ → ℕ → Slot
user_slot r p v = live_slot (user_call r p v) N3

-- what its fate makes of a call's slot, and its notice
abbrev pub in_state : State → Hold → Slot
in_state q Empty = no_slot
in_state q (Live c p) = live_slot c q

abbrev pub fated : Fate → Slot → Slot
fated fate.Stay s = s
fated (fate.To q notice) s = in_state q s.hold
fated fate.Gone s = no_slot
fated fate.InDoubt s = no_slot

abbrev pub notice_of : Fate → ℕ
notice_of fate.Stay = 0
notice_of (fate.To q notice) = notice_number notice
notice_of fate.Gone = 3
notice_of fate.InDoubt = 3

-- the first slot that passes a test is changed
abbrev pub reaches : (Slot → Bool) → Deed → Slot → Bool
reaches own (turns g f) = own
reaches own (fills g r p v) = is_empty

abbrev pub changed : Deed → Slot → Slot
changed (turns g f) s = fated f s
changed (fills g r p v) s = user_slot r p v

abbrev pub perform : (Slot → Bool) → Deed → List Slot → List Slot
perform own d ss = upd (reaches own d) (changed d) ss

-- where the message's call is, and its slot; where the lowest empty slot is; the lowest free pair
pub record Sight : Type 0 where
  pub call : Option ℕ
  pub slot : Slot
  pub empty : Option ℕ
  pub pair : Option Pair

-- what a message on a call leaves as it is: the pairs in doubt and out of service, our RESTART, and the pool
pub record Ground : Type 0 where
  pub doubts : Pairs
  pub out : OutOfService
  pub request : GlobalState
  pub pool : Pool

abbrev pub ground_of : Table → Ground
ground_of t = record { doubts = t.doubts; out = t.out; request = t.global.state; pool = t.pool }

abbrev pub free_on : Ground → List Slot → Option Pair
free_on ground ss = lowest (taken ss ground.doubts ground.out ground.request ground.pool.permanents) ground.pool.ranges

abbrev pub sight : (Slot → Bool) → Ground → List Slot → Sight
sight own ground ss = record {
  call = place own ss;
  slot = first own no_slot ss;
  empty = place is_empty ss;
  pair = free_on ground ss;
}

-- a reply alone
abbrev pub replied : Bool → ℕ → Reply → Given
replied flag r answer = record { refusal = 0; reply = reply_octets flag r answer; notice = 0; flags = no_flags }

abbrev pub still : Bool → ℕ → Reply → Deed
still flag r answer = turns (replied flag r answer) fate.Stay

-- SETUP on no call: the causes 45, 47 and those of its elements, or a new call
abbrev pub on_pair : ℕ → ℕ → Option Pair → Deed
on_pair r i None = still true r (reply.ReleaseCompleteWith (plain_cause 45))
on_pair r i (Some pv) = fills (record { refusal = 0; reply = reply_octets true r (reply.CallProceeding pv); notice = 1; flags = flags_at i }) r pv.vpci pv.vci

abbrev pub admit : ℕ → Option ℕ → Option Pair → Deed
admit r None c = still true r (reply.ReleaseCompleteWith (plain_cause 47))
admit r (Some i) c = on_pair r i c

abbrev pub set_up : ℕ → Option ℕ → Option Pair → Result ⊤ Cause → Deed
set_up r e c (Err cause) = still true r (reply.ReleaseCompleteWith cause)
set_up r e c (Ok u) = admit r e c

abbrev pub on_no_call : List ℕ → Header → Option ℕ → Option Pair → Deed
on_no_call m h e c =
    cond (eqb h.kind 0x05)
    (cond (not h.flag && h.whole) (set_up h.reference e c (admission m 9)) (still false 0 reply.None))
    (still (not h.flag) h.reference (no_call_reply m h))

-- a message on a live call: its verdict
abbrev pub turned : Header → ℕ → Verdict → Deed
turned h i v =
    turns
    (record { refusal = 0; reply = reply_octets (not h.flag) h.reference v.reply; notice = notice_of v.fate; flags = flagged (notice_of v.fate) i })
    v.fate

abbrev pub on_hold : List ℕ → Header → ℕ → ℕ → Hold → Deed
on_hold m h reading i Empty = still false 0 reply.None
on_hold m h reading i (Live c q) = turned h i (judge m h q reading)

abbrev pub decide_at : List ℕ → Header → ℕ → Sight → Option ℕ → Deed
decide_at m h reading see None = on_no_call m h see.empty see.pair
decide_at m h reading see (Some i) = on_hold m h reading i see.slot.hold

abbrev pub decide : List ℕ → Header → ℕ → Sight → Deed
decide m h reading see = decide_at m h reading see see.call

-- the slot of the call that a header names
abbrev pub mine : Header → Slot → Bool
mine h = is_call h.flag h.reference

abbrev pub decision : List ℕ → Header → ℕ → Ground → List Slot → Deed
decision m h reading ground ss = decide m h reading (sight (mine h) ground ss)
