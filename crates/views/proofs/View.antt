-- Everything that an event can decide, whichever event it is: the one walk through all of them.
--   IsMessage ..       which event it is: a message that passed the header checks, a SETUP or a RESTART among them, a tick, a command
--   Does               the view: nothing, a reply, a verdict on a call, a call assigned, calls restarted
--   does               what every accepted event decides, in the view
--   happens_is         what happens is what is decided, performed, or a refusal
--   by_event           what is so of every refusal and of everything that an event can decide is so of what happens
--   or_else_zero, or_else_both     of two refusal numbers one after the other
--   accepted_host      an accepted clear has a cause of the host
-- Assumes nothing.
use Rattle.std.specs.Prelude.{Option, Some, None}
use Prim.Native.Nat.{ℕ}
use mathlib.Core.Path.{◌≡◌, refl, sym, ap}
use mathlib.Core.Bool.{Bool, true, false, not, ◌&&◌, ◌||◌}
use mathlib.Core.List.{List}
use native.Mathlib.Omega.{arith}
use lib.Dec.{eqb, ltb}
use borrow.Author.Tests.{eqb-true, eqb-false, not-true}
use Rattle.std.specs.Prelude.{Result, Ok, Err, ⊤}
use Rattle.traffic.specs.Traffic.{member}
use Rattle.identifier.specs.declared.Pair.{Pair}
use Rattle.channels.specs.declared.Named.{Named}
use Rattle.channels.specs.declared.Named.TheVariants as named
use Rattle.identifier.specs.Pair.{pair}
use Rattle.channels.specs.Channels.{permanent, known_vpci}
use Rattle.channels.proofs.Cases.{by_test, clash, both}
use Rattle.calls.specs.declared.State.{State}
use Rattle.calls.specs.declared.State.TheVariants.{N3, N6, N9, N10, N12}
use Rattle.calls.specs.declared.Call.{Call}
use Rattle.calls.specs.declared.Hold.{Hold}
use Rattle.calls.specs.declared.Hold.TheVariants.{Empty, Live}
use Rattle.calls.specs.Calls.{is_empty, is_call}
use Rattle.first.specs.First.{place}
use Rattle.slots.specs.Slots.{hold_at, unused_reference}
use Rattle.slots.specs.Timers.{soonest, next_due}
use Rattle.header.specs.declared.Header.{Header}
use Rattle.header.specs.Header.{head_of}
use Rattle.elements.specs.declared.Read.{Read}
use Rattle.elements.specs.declared.Read.TheVariants as elem
use Rattle.elements.specs.Values.{connection_in, restart_in, pair_read}
use Rattle.replies.specs.declared.Cause.{Cause}
use Rattle.replies.specs.declared.Diagnostic.{Diagnostic}
use Rattle.replies.specs.declared.Diagnostic.TheVariants as diagnostic
use Rattle.replies.specs.declared.Reply.{Reply}
use Rattle.replies.specs.declared.Reply.TheVariants as reply
use Rattle.replies.specs.declared.Outgoing.TheVariants as outgoing
use Rattle.setup.specs.Setup.{admission}
use Rattle.verdicts.specs.Verdict.{plain_cause}
use Rattle.judging.specs.Judge.{judge, no_call_reply, global_reply}
use Rattle.effects.specs.declared.Effect.{Effect}
use Rattle.effects.specs.Effect.{quiet, replying, on_call, assigned}
use Rattle.service.specs.declared.GlobalState.{GlobalState}
use Rattle.service.specs.declared.GlobalState.TheVariants.{Null, RestartRequest}
use Rattle.service.specs.Service.{global_number, global_due, is_waiting, has_room}
use Rattle.effects.specs.declared.Ending.TheVariants.{Acknowledged, Expired}
use Rattle.restarts.specs.declared.Target.{Target}
use Rattle.restarts.specs.User.{restart_status, restarting, pair_restart, restart_effect}
use Rattle.restarts.specs.Own.{named_by, requested, ending, is_same, acknowledge_effect, expire_second, expire_effect, put_back}
use Rattle.table.specs.declared.Table.{Table}
use Rattle.table.specs.Effects.{free_pair, user_call, on_pair, admitted, setup_effect, on_no_call, on_hold, addressed, global_effect, no_room, fire_hold, fired, request_first, tick_effect}
use Rattle.refusals.specs.Refusals.{or_else, common_refusal, unconnectable, unless_n3, unclearable, cause_refusal, host_causes, may_restart, target_refusal}
use Rattle.outcome.specs.Outcome.{Outcome, sending, refused_with, unless_refused}
use Rattle.commands.specs.Commands.{connected, cleared, offered_on}
use Rattle.control.specs.Events.{heard_by, offered_at, offered}
use Rattle.control.specs.Happens.{Event, message, tick, connect, clear, offer, restart, put_marks_back, happens}
use Rattle.views.specs.Tables.{slot_at, HasCall}
use Rattle.views.specs.Effects.{reading_of, body_of, refusal_of, effect_of, more_of, outcome_of}
use Rattle.views.proofs.Verdicts.{by_choice}

-- the event is the message m, with header h, which passed the header checks
pub data IsMessage (m : List ℕ) (h : Header) : Event → Type 0 where
  heard : (label reading room : ℕ) → head_of m ≡ Some h → IsMessage m h (message label reading room m)

-- the event is a tick, a connect of slot i, a clear of slot i with a cause, an offer
pub data IsTick : Event → Type 0 where
  is_tick : (label reading room : ℕ) → IsTick (tick label reading room)

pub data IsConnect (i : ℕ) : Event → Type 0 where
  is_connect : (label reading room : ℕ) → IsConnect i (connect label reading room i)

pub data IsClear (i cause : ℕ) : Event → Type 0 where
  is_clear : (label reading room : ℕ) → IsClear i cause (clear label reading room i cause)

pub data IsOffer : Event → Type 0 where
  is_offer : (label reading room : ℕ) (body : List ℕ) → IsOffer (offer label reading room body)

-- the event is a command to restart a target, or to put the pairs out of service back
pub data IsRestartCommand (target : Target) : Event → Type 0 where
  is_restart_command : (label reading room : ℕ) → IsRestartCommand target (restart label reading room target)

pub data IsPutBack : Event → Type 0 where
  is_put_back_command : (label reading room : ℕ) → IsPutBack (put_marks_back label reading room)

-- the event is a SETUP on no live call, which came as far as its elements
pub record IsSetup (t : Table) (m : List ℕ) (h : Header) (e : Event) : Type 0 where
  pub its_message : IsMessage m h e
  pub not_global : eqb h.reference 0 ≡ false
  pub unnamed : place (is_call h.flag h.reference) t.slots.all ≡ None
  pub setup : eqb h.kind 0x05 ≡ true
  pub user : h.flag ≡ false
  pub whole : h.whole ≡ true

-- the event is a RESTART with flag 0 on the global reference, whose length is right
pub record IsRestart (m : List ℕ) (h : Header) (e : Event) : Type 0 where
  pub its_message : IsMessage m h e
  pub global : eqb h.reference 0 ≡ true
  pub restart : (eqb h.kind 0x46 && not h.flag) ≡ true
  pub whole : h.whole ≡ true

-- the event is a RESTART ACKNOWLEDGE with flag 1 on the global reference, whose length is right
pub record IsAcknowledge (m : List ℕ) (h : Header) (e : Event) : Type 0 where
  pub its_message : IsMessage m h e
  pub global : eqb h.reference 0 ≡ true
  pub acknowledge : (eqb h.kind 0x4E && h.flag) ≡ true
  pub whole : h.whole ≡ true

-- what a RESTART that is not acted on is answered
pub data Declined (c : Read Pair) : ℕ → Diagnostic → Type 0 where
  no_class : Declined c 96 (diagnostic.Octet 0x79)
  bad_class : Declined c 100 (diagnostic.Octet 0x79)
  no_pair_lem : Declined c 96 (diagnostic.Octet 0x5A)
  bad_pair : Declined c 100 (diagnostic.Octet 0x5A)
  barred : (p v : ℕ) → c ≡ pair_read p v → Declined c 82 (diagnostic.Pair (pair p v))

-- what a RESTART names, and what it is answered
pub data Names (t : Table) (r : Read ℕ) (c : Read Pair) : Named → Reply → Type 0 where
  all : (k : ℕ) → r ≡ elem.Readable k → eqb k 0x82 ≡ true → Names t r c named.All reply.RestartAcknowledgeAll
  one : (k p v : ℕ) → r ≡ elem.Readable k → eqb k 0x82 ≡ false → c ≡ pair_read p v → known_vpci t.pool p ≡ true
      → (ltb v 32 || permanent t.pool p v) ≡ false → Names t r c (named.One (pair p v)) (reply.RestartAcknowledge (pair p v))

-- a tick fires T316
abbrev pub T316Fires : Table → Event → Type 0
T316Fires t e = request_first (reading_of e) (soonest (reading_of e) t.slots.all) (global_due t.global.state) ≡ true

-- a tick fires the timer of a slot, if any: T316 does not come first
abbrev pub SlotFires : Table → Event → Type 0
SlotFires t e = request_first (reading_of e) (soonest (reading_of e) t.slots.all) (global_due t.global.state) ≡ false

pub data Does (t : Table) (e : Event) : Effect → Type 0 where
  -- nothing: what is ignored, a tick with no timer due
  nothing : Does t e quiet
  -- a reply to a message on no call, or on the global reference
  no_call : (m : List ℕ) (h : Header) → IsMessage m h e → Does t e (replying (not h.flag) h.reference (no_call_reply m h))
  global : (m : List ℕ) (h : Header) → IsMessage m h e → Does t e (replying (not h.flag) 0 (global_reply (global_number t.global.state) h))
  -- a SETUP is refused: for its elements, for want of a slot, for want of a pair
  refuses : (m : List ℕ) (h : Header) (c : Cause) → IsSetup t m h e → admission m 9 ≡ Err c → Does t e (replying true h.reference (reply.ReleaseCompleteWith c))
  no_slot_lem : (m : List ℕ) (h : Header) → IsSetup t m h e → admission m 9 ≡ Ok tt → place is_empty t.slots.all ≡ None
      → Does t e (replying true h.reference (reply.ReleaseCompleteWith (plain_cause 47)))
  no_free : (m : List ℕ) (h : Header) (i : ℕ) → IsSetup t m h e → admission m 9 ≡ Ok tt → place is_empty t.slots.all ≡ Some i → free_pair t ≡ None
      → Does t e (replying true h.reference (reply.ReleaseCompleteWith (plain_cause 45)))
  -- a SETUP gets a slot and a pair
  admits : (m : List ℕ) (h : Header) (i p v : ℕ) → IsSetup t m h e → admission m 9 ≡ Ok tt → place is_empty t.slots.all ≡ Some i → free_pair t ≡ Some (pair p v)
      → Does t e (assigned i (user_call h.reference p v) N3 true (outgoing.Reply (reply.CallProceeding (pair p v))))
  -- an offer gets a slot, a pair and a reference
  offers : (i p v : ℕ) → IsOffer e → place is_empty t.slots.all ≡ Some i → free_pair t ≡ Some (pair p v)
      → Does t e (offered_on (reading_of e) i (unused_reference t.slots.all) p v)
  -- a message on the live call of slot i
  judges : (m : List ℕ) (h : Header) (i : ℕ) (c : Call) (q : State) → IsMessage m h e → place (is_call h.flag h.reference) t.slots.all ≡ Some i
      → HasCall t i c q → Does t e (on_call i c (not h.flag) h.reference (judge m h q (reading_of e)))
  -- the timer of slot i fires
  fires : (i : ℕ) (c : Call) (q : State) → IsTick e → SlotFires t e → next_due (reading_of e) t.slots.all ≡ Some i → HasCall t i c q
      → Does t e (fire_hold (no_room t) (reading_of e) i (Live c q))
  -- the host answers, and ends, the call of slot i
  connects : (i : ℕ) (c : Call) (q : State) → IsConnect i e → HasCall t i c q → q ≡ N3 → Does t e (connected i (Live c q))
  clears : (i cause : ℕ) (c : Call) (q : State) → IsClear i cause e → HasCall t i c q → member cause host_causes ≡ true
      → Does t e (cleared (reading_of e) i cause (Live c q))
  -- a RESTART: answered with STATUS, or acted on
  declines : (m : List ℕ) (h : Header) (n : ℕ) (d : Diagnostic) → IsRestart m h e → Declined (connection_in m 9) n d
      → Does t e (restart_status (global_number t.global.state) n d)
  restarts : (m : List ℕ) (h : Header) (which : Named) (a : Reply) → IsRestart m h e → Names t (restart_in m 9) (connection_in m 9) which a → Does t e (restarting which a)
  -- our RESTART: the host's command, its acknowledge, and the host's putting back
  requests : (target : Target) → IsRestartCommand target e → is_waiting t.global.state ≡ false → may_restart t.pool target ≡ true
      → Does t e (requested (reading_of e) (named_by target) false)
  acknowledges : (m : List ℕ) (h : Header) (which : Named) (second : Bool) (d : ℕ) → IsAcknowledge m h e → t.global.state ≡ RestartRequest which second d
      → is_same which (restart_in m 9) (connection_in m 9) ≡ true → Does t e (ending which Acknowledged)
  puts_back : IsPutBack e → Does t e put_back
  -- T316: our RESTART is sent again, or it ends and its pairs are out of service
  sends_again : (which : Named) (second : Bool) (d : ℕ) → IsTick e → t.global.state ≡ RestartRequest which second d → T316Fires t e
      → (second ≡ true → has_room t.out which ≡ false) → Does t e (requested (reading_of e) which true)
  withdraws : (which : Named) (d : ℕ) → IsTick e → t.global.state ≡ RestartRequest which true d → T316Fires t e → has_room t.out which ≡ true
      → Does t e (ending which Expired)

-- a choice of tests that both pass
user_whole : (h : Header) → (not h.flag && h.whole) ≡ true → (h.flag ≡ false) × (h.whole ≡ true)
user_whole h y = let b = both (not h.flag) h.whole y in (not-true h.flag b.0, b.1)

-- A message.
module _ (t : Table) (label reading room : ℕ) (m : List ℕ) where
  abbrev e : Event
  e = message label reading room m

  abbrev D : Effect → Type 0
  D = Does t e

  module _ (h : Header) (head : head_of m ≡ Some h) where
    is : IsMessage m h e
    is = heard label reading room head

    module _ (restart : IsRestart m h e) where
      pair_does : (k : ℕ) (r : Read Pair) → connection_in m 9 ≡ r → restart_in m 9 ≡ elem.Readable k → eqb k 0x82 ≡ false → D (pair_restart (global_number t.global.state) t.pool r)
      pair_does k elem.Absent f g n = declines m h 96 (diagnostic.Octet 0x5A) restart no_pair_lem
      pair_does k elem.Unreadable f g n = declines m h 100 (diagnostic.Octet 0x5A) restart bad_pair
      pair_does k (elem.Readable c) f g n =
          by_choice D (known_vpci t.pool c.vpci) _ _
          (λ known. by_choice D (ltb c.vci 32 || permanent t.pool c.vpci c.vci) _ _
          (λ bar. declines m h 82 (diagnostic.Pair c) restart (barred c.vpci c.vci f))
          (λ fair. restarts m h (named.One c) (reply.RestartAcknowledge c) restart (one k c.vpci c.vci g n f known fair)))
          (λ unknown. declines m h 100 (diagnostic.Octet 0x5A) restart bad_pair)

      restart_does : (r : Read ℕ) → restart_in m 9 ≡ r → D (restart_effect (global_number t.global.state) t.pool r (connection_in m 9))
      restart_does elem.Absent g = declines m h 96 (diagnostic.Octet 0x79) restart no_class
      restart_does elem.Unreadable g = declines m h 100 (diagnostic.Octet 0x79) restart bad_class
      restart_does (elem.Readable k) g =
          by_choice D (eqb k 0x82) _ _
          (λ y. restarts m h named.All reply.RestartAcknowledgeAll restart (all k g y))
          (λ n. pair_does k (connection_in m 9) refl g n)

    acknowledge_does : IsAcknowledge m h e → (g : GlobalState) → t.global.state ≡ g → D (acknowledge_effect g (restart_in m 9) (connection_in m 9))
    acknowledge_does a Null f = nothing
    acknowledge_does a (RestartRequest which second d) f =
        by_choice D (is_same which (restart_in m 9) (connection_in m 9)) _ _ (acknowledges m h which second d a f) (λ other. nothing)

    global_does : eqb h.reference 0 ≡ true → D (global_effect t m h)
    global_does z =
        by_choice D (eqb h.kind 0x46 && not h.flag) _ _
        (λ r. by_choice D h.whole _ _
        (λ w. restart_does (record { its_message = is; global = z; restart = r; whole = w }) (restart_in m 9) refl)
        (λ w. nothing))
        (λ r. by_choice D ((eqb h.kind 0x4E && h.flag) && is_waiting t.global.state) _ _
        (λ a. by_choice D h.whole _ _
        (λ w.
        let k = both (eqb h.kind 0x4E && h.flag) (is_waiting t.global.state) a in
        acknowledge_does (record { its_message = is; global = z; acknowledge = k.0; whole = w }) t.global.state refl)
        (λ w. nothing))
        (λ a. global m h is))

    module _ (setup : IsSetup t m h e) where
      on_pair_does : (i : ℕ) (c : Option Pair) → admission m 9 ≡ Ok tt → place is_empty t.slots.all ≡ Some i → free_pair t ≡ c → D (on_pair h.reference i c)
      on_pair_does i None a f g = no_free m h i setup a f g
      on_pair_does i (Some c) a f g = admits m h i c.vpci c.vci setup a f g

      admitted_does : (f : Option ℕ) → admission m 9 ≡ Ok tt → place is_empty t.slots.all ≡ f → D (admitted t h.reference f)
      admitted_does None a f = no_slot_lem m h setup a f
      admitted_does (Some i) a f = on_pair_does i (free_pair t) a f refl

      setup_does : (a : Result ⊤ Cause) → admission m 9 ≡ a → D (setup_effect t h.reference a)
      setup_does (Err c) a = refuses m h c setup a
      setup_does (Ok u) a = admitted_does (place is_empty t.slots.all) a refl

    no_call_does : eqb h.reference 0 ≡ false → place (is_call h.flag h.reference) t.slots.all ≡ None → D (on_no_call t m h)
    no_call_does z unnamed =
        by_choice D (eqb h.kind 0x05) _ _
        (λ s. by_choice D (not h.flag && h.whole) _ _
        (λ y.
        let u = user_whole h y in
        setup_does (record { its_message = is; not_global = z; unnamed = unnamed; setup = s; user = u.0; whole = u.1 }) (admission m 9) refl)
        (λ n. nothing))
        (λ s. no_call m h is)

    hold_does : (i : ℕ) (k : Hold) → place (is_call h.flag h.reference) t.slots.all ≡ Some i → (slot_at t i).hold ≡ k → D (on_hold m h reading i k)
    hold_does i Empty f g = nothing
    hold_does i (Live c q) f g = judges m h i c q is f g

    found_does : eqb h.reference 0 ≡ false → (f : Option ℕ) → place (is_call h.flag h.reference) t.slots.all ≡ f → D (addressed t m h reading f)
    found_does z None f = no_call_does z f
    found_does z (Some i) f = hold_does i (hold_at t.slots.all i) f refl

  head_does : (x : Option Header) → head_of m ≡ x → D (heard_by t reading m x)
  head_does None g = nothing
  head_does (Some h) g =
      by_choice D (eqb h.reference 0) _ _
      (global_does h g)
      (λ z. found_does h g z (place (is_call h.flag h.reference) t.slots.all) refl)

-- A tick.
module _ (t : Table) (label reading room : ℕ) where
  abbrev at : Event
  at = tick label reading room

  fire_does : SlotFires t at → (i : ℕ) (k : Hold) → next_due reading t.slots.all ≡ Some i → (slot_at t i).hold ≡ k → Does t at (fire_hold (no_room t) reading i k)
  fire_does z i Empty f g = nothing
  fire_does z i (Live c q) f g = fires i c q (is_tick label reading room) z f g

  fired_does : SlotFires t at → (f : Option ℕ) → next_due reading t.slots.all ≡ f → Does t at (fired t reading f)
  fired_does z None f = nothing
  fired_does z (Some i) f = fire_does z i (hold_at t.slots.all i) f refl

  second_does : T316Fires t at → (which : Named) (d : ℕ) → t.global.state ≡ RestartRequest which true d → Does t at (expire_second which t.out reading)
  second_does z which d f =
      by_choice (Does t at) (has_room t.out which) _ _
      (withdraws which d (is_tick label reading room) f z)
      (λ full. sends_again which true d (is_tick label reading room) f z (λ y. full))

  request_does : T316Fires t at → (g : GlobalState) → t.global.state ≡ g → Does t at (expire_effect g t.out reading)
  request_does z Null f = nothing
  request_does z (RestartRequest which true d) f = second_does z which d f
  request_does z (RestartRequest which false d) f = sends_again which false d (is_tick label reading room) f z (λ y. clash y refl)

  tick_does : Does t at (tick_effect t reading)
  tick_does =
      by_choice (Does t at) (request_first reading (soonest reading t.slots.all) (global_due t.global.state)) _ _
      (λ y. request_does y t.global.state refl)
      (λ n. fired_does n (next_due reading t.slots.all) refl)

-- What is not refused passed each of its refusals.
pub or_else_zero : (n : ℕ) → or_else n 0 ≡ n
or_else_zero n = by_test (eqb n 0) (λ e. rw e (sym (eqb-true n 0 e))) (λ e. rw e)

pub or_else_both : (n m : ℕ) → or_else n m ≡ 0 → (n ≡ 0) × (m ≡ 0)
or_else_both n m h =
    by_test (eqb n 0)
    (λ e. (eqb-true n 0 e, rw e at h))
    (λ e. absurd (eqb-false n 0 e (rw e at h)))

host_cause : (cause : ℕ) → cause_refusal cause ≡ 0 → member cause host_causes ≡ true
host_cause cause h = by_test (member cause host_causes) (λ y. y) (λ n. let z : ◌≡◌ {A = ℕ} 8 0 = rw n at h in absurd (omega arith))

pub accepted_host : (t : Table) (label reading room slot cause : ℕ) → refusal_of t (clear label reading room slot cause) ≡ 0 → member cause host_causes ≡ true
accepted_host t label reading room slot cause h =
    let own = (or_else_both (common_refusal t.last label reading room) (or_else (unclearable (hold_at t.slots.all slot)) (cause_refusal cause)) h).1 in
    host_cause cause (or_else_both (unclearable (hold_at t.slots.all slot)) (cause_refusal cause) own).1

-- The host's commands.
module _ (t : Table) (label reading room : ℕ) where
  in_N3 : (q : State) → unless_n3 q ≡ 0 → q ≡ N3
  in_N3 N3 h = refl
  in_N3 (N6 d) h = absurd (omega arith)
  in_N3 (N9 d) h = absurd (omega arith)
  in_N3 N10 h = absurd (omega arith)
  in_N3 (N12 k d) h = absurd (omega arith)

  connect_does : (i : ℕ) (k : Hold) → (slot_at t i).hold ≡ k → unconnectable k ≡ 0 → Does t (connect label reading room i) (connected i k)
  connect_does i Empty g h = nothing
  connect_does i (Live c q) g h = connects i c q (is_connect label reading room) g (in_N3 q h)

  clear_does : (i cause : ℕ) (k : Hold) → (slot_at t i).hold ≡ k → member cause host_causes ≡ true → Does t (clear label reading room i cause) (cleared reading i cause k)
  clear_does i cause Empty g host = nothing
  clear_does i cause (Live c q) g host = clears i cause c q (is_clear label reading room) g host

  offered_at_does : (body : List ℕ) (i : ℕ) (c : Option Pair) → place is_empty t.slots.all ≡ Some i → free_pair t ≡ c → Does t (offer label reading room body) (offered_at t reading i c)
  offered_at_does body i None f g = nothing
  offered_at_does body i (Some pv) f g = offers i pv.vpci pv.vci (is_offer label reading room body) f g

  offered_does : (body : List ℕ) (f : Option ℕ) → place is_empty t.slots.all ≡ f → Does t (offer label reading room body) (offered t reading f)
  offered_does body None f = nothing
  offered_does body (Some i) f = offered_at_does body i (free_pair t) f refl

  restart_command_does : (target : Target) → target_refusal t.global.state t.pool target ≡ 0
      → Does t (restart label reading room target) (requested reading (named_by target) false)
  restart_command_does target h =
      by_test (is_waiting t.global.state)
      (λ w. let z : ◌≡◌ {A = ℕ} 13 0 = rw w at h in absurd (omega arith))
      (λ w. by_test (may_restart t.pool target)
      (λ m. requests target (is_restart_command label reading room) w m)
      (λ m. let z : ◌≡◌ {A = ℕ} 13 0 = rw (w, m) at h in absurd (omega arith)))

pub does : (t : Table) (e : Event) → refusal_of t e ≡ 0 → Does t e (effect_of t e)
does t (message label reading room octets) h = head_does t label reading room octets (head_of octets) refl
does t (tick label reading room) h = tick_does t label reading room
does t (connect label reading room slot) h =
    connect_does t label reading room slot (hold_at t.slots.all slot) refl (or_else_both (common_refusal t.last label reading room) (unconnectable (hold_at t.slots.all slot)) h).1
does t (clear label reading room slot cause) h =
    clear_does t label reading room slot cause (hold_at t.slots.all slot) refl (accepted_host t label reading room slot cause h)
does t (offer label reading room body) h = offered_does t label reading room body (place is_empty t.slots.all) refl
does t (restart label reading room target) h =
    restart_command_does t label reading room target (or_else_both (common_refusal t.last label reading room) (target_refusal t.global.state t.pool target) h).1
does t (put_marks_back label reading room) h = puts_back (is_put_back_command label reading room)

pub happens_is : (t : Table) (e : Event) → happens t e ≡ unless_refused t (refusal_of t e) (outcome_of t e)
happens_is t (message label reading room octets) = refl
happens_is t (tick label reading room) =
    ap (λ (n : ℕ). unless_refused t n (outcome_of t (tick label reading room))) (sym (or_else_zero (common_refusal t.last label reading room)))
happens_is t (connect label reading room slot) = refl
happens_is t (clear label reading room slot cause) = refl
happens_is t (offer label reading room body) = refl
happens_is t (restart label reading room target) = refl
happens_is t (put_marks_back label reading room) =
    ap (λ (n : ℕ). unless_refused t n (outcome_of t (put_marks_back label reading room))) (sym (or_else_zero (common_refusal t.last label reading room)))

pub by_event : (t : Table) (e : Event) (P : Outcome → Type 0) → ((n : ℕ) → P (refused_with t n))
    → (refusal_of t e ≡ 0 → (x : Effect) → Does t e x → P (sending t (reading_of e) x (more_of t e) (body_of e))) → P (happens t e)
by_event t e P refused accepted =
    rw (happens_is t e)
    (by_choice P (eqb (refusal_of t e) 0) (outcome_of t e) (refused_with t (refusal_of t e))
    (λ y. let z = eqb-true (refusal_of t e) 0 y in accepted z (effect_of t e) (does t e z))
    (λ n. refused (refusal_of t e)))
