-- The slips of document 01 are shut out.
--   not_handed_out, released_holds     a pair is held until its call is gone (HeldUntilGone: proofs/Gone.antt)
--   one_side, setup_is_new, both_ones
--   duplicate_ignored
--   reply_kind, sent_kind_lem, no_status_for_status     octet 6 of what is sent is its type
--   pool_stays, permanent_stays
-- Assumes nothing.
use Rattle.std.specs.Prelude.{Option, Some, None}
use Prim.Native.Nat.{ℕ}
use mathlib.Core.Path.{◌≡◌, refl, sym, ap, ◌∙◌}
use mathlib.Core.Logic.{◌≢◌}
use mathlib.Core.Bool.{Bool, true, false, not}
use mathlib.Core.List.{List, []}
use native.Mathlib.Omega.{arith}
use lib.Dec.{eqb}
use lib.ListN.{get_or}
use lib.Seq.{get_or-set_same}
use borrow.Author.Tests.{eqb-true, ne_eqb, eq-eqb, not-true}
use Rattle.channels.specs.Channels.{in_ranges, permanent}
use Rattle.channels.proofs.Cases.{by_test, clash, both}
use Rattle.calls.specs.declared.State.{State}
use Rattle.calls.specs.declared.Call.{Call}
use Rattle.calls.specs.declared.Hold.{Hold}
use Rattle.calls.specs.declared.Hold.TheVariants.{Empty, Live}
use Rattle.calls.specs.declared.Slot.{Slot}
use Rattle.calls.specs.Calls.{no_slot, is_call}
use Rattle.calls.proofs.Calls.{call_named_once}
use Rattle.first.specs.First.{place}
use Rattle.slots.specs.Slots.{hold_at}
use Rattle.header.specs.declared.Header.{Header}
use Rattle.header.specs.Header.{header_in, head_of}
use Rattle.elements.specs.declared.Read.{Read}
use Rattle.elements.specs.declared.Read.TheVariants as elem
use Rattle.elements.specs.Values.{call_state_in}
use Rattle.replies.specs.declared.Reply.{Reply}
use Rattle.replies.specs.declared.Reply.TheVariants as reply
use Rattle.replies.specs.declared.Outgoing.{Outgoing}
use Rattle.replies.specs.declared.Outgoing.TheVariants as outgoing
use Rattle.replies.specs.Reply.{kind_of, reply_octets, sent_octets}
use Rattle.verdicts.specs.declared.Verdict.{Verdict}
use Rattle.verdicts.specs.Verdict.{silent}
use Rattle.judging.specs.Judge.{status_verdict, judge, status_reply, no_call_reply, global_reply}
use Rattle.effects.specs.declared.Change.TheVariants.{Keep}
use Rattle.effects.specs.declared.Effect.{Effect}
use Rattle.service.specs.Service.{global_number}
use Rattle.restarts.specs.declared.Target.{Target}
use Rattle.table.specs.declared.Table.{Table}
use Rattle.table.specs.Effects.{on_hold, addressed, message_effect}
use Rattle.outcome.specs.Outcome.{Outcome, accepted_as, refused_with}
use Rattle.control.specs.Events.{heard_by}
use Rattle.control.specs.Happens.{Event, message, clear, happens}
use Rattle.reached.specs.Reached.{Reached}
use Rattle.views.specs.Tables.{slot_at}
use Rattle.views.specs.Effects.{refusal_of, outcome_of}
use Rattle.views.proofs.Verdicts.{by_cond}
use Rattle.views.proofs.View as view
use Rattle.safety.specs.Slips.{NotHandedOut, ReleasedHolds, OneSide, SetupIsNew, BothOnes, Names, Untouched, DuplicateIgnored, NoStatusForStatus, PermanentStays}
use Rattle.safety.proofs.Tables.{live_within, held_not_free, doubt_not_free, out_not_free, named_not_free, nothing_named, named_nothing}
use Rattle.safety.proofs.FixedAnswers.{number}
use Rattle.safety.proofs.Changes.{head_is}
use Rattle.safety.proofs.Sound.{always_permitted}

-- A pair is held until its call is gone.

pub not_handed_out : (t : Table) → NotHandedOut t
not_handed_out t = record {
  held = λ i c q h. held_not_free t c.pair.vpci c.pair.vci (record { slot = i; call = c; state = q; live = h; pair = record { vpci = refl; vci = refl } });
  in_doubt = doubt_not_free t;
  none_out_of_service = out_not_free t;
  none_under_restart = named_not_free t;
}

pub released_holds : (t : Table) → ReleasedHolds t
released_holds t label reading room slot cause c q h accepted =
    let e = clear label reading room slot cause in
    let left : happens t e ≡ outcome_of t e = view.happens_is t e ∙ rw (eq-eqb _ _ (sym (number t e) ∙ accepted)) in
    ap (λ (o : Outcome). (slot_at o.answer.table slot).hold) left
    ∙ rw h (ap (λ (s : Slot). s.hold) (get_or-set_same t.slots.all slot _ no_slot (live_within t slot c q h)))

-- Flags.

pub one_side : OneSide
one_side r s e = by_test (is_call true r s) (λ y. clash (call_named_once false true r r s e y).0 refl) (λ n. n)

pub setup_is_new : (t : Table) → SetupIsNew t
setup_is_new t m h reading kind flag whole local none =
    rw (ne_eqb _ _ local, flag, named_nothing t false h.reference none, eq-eqb _ _ kind, whole)

pub both_ones : BothOnes
both_ones = record { network_one = refl; user_one = refl; reply = refl }

-- A duplicate SETUP.

-- an effect that does nothing
record Idle (x : Effect) : Type 0 where
  pub change : x.change ≡ Keep
  pub silent : x.outgoing ≡ outgoing.Reply reply.None

hold_idle : (m : List ℕ) (h : Header) (reading i : ℕ) (k : Hold) → h.kind ≡ 0x05 → Idle (on_hold m h reading i k)
hold_idle m h reading i Empty e = record { change = refl; silent = refl }
hold_idle m h reading i (Live c q) e = rw e (record { change = refl; silent = refl })

found_idle : (t : Table) (m : List ℕ) (h : Header) (reading i : ℕ) (c : Call) (q : State) (f : Option ℕ) → Names t h i c q → h.kind ≡ 0x05
    → place (is_call h.flag h.reference) t.slots.all ≡ f → Idle (addressed t m h reading f)
found_idle t m h reading i c q None n e g = absurd (nothing_named t h.flag h.reference g i c q n.live n.side n.value)
found_idle t m h reading i c q (Some k) n e g = hold_idle m h reading k (hold_at t.slots.all k) e

setup_idle : (t : Table) (m : List ℕ) (h : Header) (reading i : ℕ) (c : Call) (q : State) → Names t h i c q → h.kind ≡ 0x05 → Idle (message_effect t m h reading)
setup_idle t m h reading i c q n e =
    rw (ne_eqb _ _ n.not_global) (found_idle t m h reading i c q (place (is_call h.flag h.reference) t.slots.all) n e refl)

idle_untouched : (t : Table) (reading : ℕ) (x : Effect) → Idle x → Untouched t (accepted_as t reading x)
idle_untouched t reading x d = record { slots = rw d.change; reply = rw d.silent; notice = rw d.change }

pub duplicate_ignored : (t : Table) → DuplicateIgnored t
duplicate_ignored t label reading room m i c q head kind n =
    by_cond (Untouched t) (eqb (refusal_of t (message label reading room m)) 0) (accepted_as t reading (heard_by t reading m (head_of m)))
    (refused_with t (refusal_of t (message label reading room m)))
    (idle_untouched t reading (heard_by t reading m (head_of m)) (rw head (setup_idle t m (header_in m) reading i c q n kind)))
    (record { slots = refl; reply = refl; notice = refl })

-- STATUS.

-- octet 6 of a reply is its type
pub reply_kind : (flag : Bool) (r : ℕ) (a : Reply) → get_or (reply_octets flag r a) 5 0 ≡ kind_of a
reply_kind flag r reply.None = refl
reply_kind flag r (reply.CallProceeding c) = refl
reply_kind flag r reply.Connect = refl
reply_kind flag r reply.ConnectAcknowledge = refl
reply_kind flag r (reply.Release c) = refl
reply_kind flag r reply.ReleaseComplete = refl
reply_kind flag r (reply.ReleaseCompleteWith c) = refl
reply_kind flag r (reply.Status s c) = refl
reply_kind flag r reply.RestartAcknowledgeAll = refl
reply_kind flag r (reply.RestartAcknowledge c) = refl
reply_kind flag r reply.RestartAll = refl
reply_kind flag r (reply.Restart c) = refl

-- and so of all that is sent
abbrev pub sent_kind : Outgoing → ℕ
sent_kind (outgoing.Reply a) = kind_of a
sent_kind (outgoing.Setup c) = 0x05

pub sent_kind_lem : (flag : Bool) (r : ℕ) (o : Outgoing) (body : List ℕ) → get_or (sent_octets flag r o body) 5 0 ≡ sent_kind o
sent_kind_lem flag r (outgoing.Reply a) body = reply_kind flag r a
sent_kind_lem flag r (outgoing.Setup c) body = refl

abbrev NotStatus : Reply → Type 0
NotStatus a = kind_of a ≢ 0x7D

none_not_status : NotStatus reply.None
none_not_status e = omega arith

verdict_not_status : (r : Read ℕ) → NotStatus (status_verdict r).reply
verdict_not_status elem.Absent = none_not_status
verdict_not_status elem.Unreadable = none_not_status
verdict_not_status (elem.Readable s) = by_cond (λ (v : Verdict). NotStatus v.reply) (eqb s 0) _ silent none_not_status none_not_status

reply_not_status : (r : Read ℕ) → NotStatus (status_reply r)
reply_not_status elem.Absent = none_not_status
reply_not_status elem.Unreadable = none_not_status
reply_not_status (elem.Readable s) = by_cond NotStatus (eqb s 0) reply.None _ none_not_status (λ e. omega arith)

-- replies to a STATUS: on a live call, on no call, on the global reference
module _ (m : List ℕ) (h : Header) (status : h.kind ≡ 0x7D) where
  judge_not_status : (q : State) (reading : ℕ) → NotStatus (judge m h q reading).reply
  judge_not_status q reading =
      rw status (by_cond (λ (v : Verdict). NotStatus v.reply) h.whole (status_verdict (call_state_in m 9)) silent (verdict_not_status (call_state_in m 9)) none_not_status)

  no_call_not_status : NotStatus (no_call_reply m h)
  no_call_not_status = rw status (by_cond NotStatus h.whole (status_reply (call_state_in m 9)) reply.None (reply_not_status (call_state_in m 9)) none_not_status)

  global_not_status : (state : ℕ) → NotStatus (global_reply state h)
  global_not_status state = rw status none_not_status

module _ (t : Table) (label reading room : ℕ) (m : List ℕ) (status : get_or m 5 0 ≡ 0x7D) where
  abbrev event : Event
  event = message label reading room m

  kind_is : (m' : List ℕ) (h : Header) → view.IsMessage m' h event → h.kind ≡ 0x7D
  kind_is m' h (view.heard _ _ _ head) = ap (λ (k : Header). k.kind) (sym (head_is m h head)) ∙ status

  no_tick : {P : Type 0} → view.IsTick event → P
  no_tick = elim [ ]

  no_command : {P : Type 0} (target : Target) → view.IsRestartCommand target event → P
  no_command target = elim [ ]

  does_not_status : (x : Effect) → view.Does t event x → sent_kind x.outgoing ≢ 0x7D
  does_not_status x view.nothing = λ e. omega arith
  does_not_status x (view.no_call m' h is) = no_call_not_status m' h (kind_is m' h is)
  does_not_status x (view.global m' h is) = global_not_status m' h (kind_is m' h is) (global_number t.global.state)
  does_not_status x (view.refuses m' h c is a) = λ e. omega arith
  does_not_status x (view.no_slot_lem m' h is a f) = λ e. omega arith
  does_not_status x (view.no_free m' h i is a f g) = λ e. omega arith
  does_not_status x (view.admits m' h i p v is a f g) = λ e. omega arith
  does_not_status x (view.offers i p v is f g) = λ e. omega arith
  does_not_status x (view.judges m' h i c q is f g) = judge_not_status m' h (kind_is m' h is) q reading
  does_not_status x (view.fires i c q is z f g) = no_tick is
  does_not_status x (view.connects i c q is g n) = λ e. omega arith
  does_not_status x (view.clears i cause c q is g host) = λ e. omega arith
  does_not_status x (view.declines m' h n d is a) =
      let restart : h.kind ≡ 0x46 = eqb-true _ _ (both (eqb h.kind 0x46) (not h.flag) is.restart).0 in
      absurd (omega (arith, kind_is m' h is.its_message))
  does_not_status x (view.restarts m' h which a is (view.all k g y)) = λ e. omega arith
  does_not_status x (view.restarts m' h which a is (view.one k p v g n f known fair)) = λ e. omega arith
  does_not_status x (view.requests target is w n) = no_command target is
  does_not_status x (view.acknowledges m' h which second d is g same) = λ e. omega arith
  does_not_status x (view.puts_back is) = λ e. omega arith
  does_not_status x (view.sends_again which second d is g z full) = no_tick is
  does_not_status x (view.withdraws which d is g z room) = λ e. omega arith

pub no_status_for_status : (t : Table) → NoStatusForStatus t
no_status_for_status t label reading room m status =
    view.by_event t (message label reading room m) (λ (o : Outcome). get_or o.reply 5 0 ≢ 0x7D)
    (λ n e. omega arith)
    (λ zero x d e. does_not_status t label reading room m status x d (sym (sent_kind_lem x.flag x.reference x.outgoing []) ∙ e))

-- Permanent pairs.

pub pool_stays : (t : Table) (e : Event) → (happens t e).answer.table.pool ≡ t.pool
pool_stays t e = view.by_event t e (λ (o : Outcome). o.answer.table.pool ≡ t.pool) (λ n. refl) (λ zero x d. refl)

pub permanent_stays : (t : Table) → Reached t → PermanentStays t
permanent_stays t r = record {
  held_by_none = λ i c q h.
      not-true (permanent t.pool c.pair.vpci c.pair.vci)
      (both (in_ranges c.pair.vpci c.pair.vci t.pool.ranges) _ (always_permitted t r i c q h)).1;
  pool_stays = pool_stays t;
}
