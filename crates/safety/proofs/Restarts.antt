-- What our RESTART and the pairs out of service come to, by each event.
--   sooner_all, fires_next, next_fires     a tick fires T316 if and only if it is due and no slot's deadline is earlier or equal
--   by_effect                              the outcome of an accepted event, by what it decides
--   sends, ends, withdraws                 our RESTART is sent; it ends; its pairs are marked
--   does_leaves                            what has no part in it leaves it
--   own_restarts, reached_restarts
-- Assumes nothing.
use Rattle.std.specs.Prelude.{Option, Some, None}
use Prim.Native.Nat.{ℕ, ◌+◌, ◌≤◌, ◌<◌}
use mathlib.Core.Path.{◌≡◌, refl, sym, ap, ◌∙◌}
use mathlib.Core.Logic.{◌⊎◌, ⊎_elim, ◌≢◌}
use mathlib.Core.Bool.{Bool, true, false, not, cond, ◌&&◌, ◌||◌, and-false}
use mathlib.Core.List.{List, [], ◌∷◌}
use native.Mathlib.Omega.{arith}
use lib.Dec.{eqb, leb, ltb}
use lib.ListN.{get_or}
use borrow.Author.Tests.{eqb-true, eq-eqb, leb-true, leb-false, le-leb, ltb-true, ltb-false, lt-ltb, le-ltb, lt-leb, not-true}
use Rattle.channels.specs.declared.Named.{Named}
use Rattle.channels.specs.declared.Named.TheVariants.{All, One}
use Rattle.identifier.specs.Pair.{pair}
use Rattle.channels.specs.Channels.{permanent, known_vpci}
use Rattle.channels.proofs.Cases.{by_test, clash, both}
use Rattle.channels.proofs.Some.{some_at, some_none}
use Rattle.pairs.proofs.Laws.{unless_in}
use Rattle.calls.specs.declared.State.{State}
use Rattle.calls.specs.declared.Call.{Call}
use Rattle.calls.specs.declared.Hold.{Hold}
use Rattle.calls.specs.declared.Hold.TheVariants.{Empty, Live}
use Rattle.calls.specs.declared.Slot.{Slot}
use Rattle.calls.specs.Calls.{no_slot, is_named, emptied}
use Rattle.calls.specs.Timers.{state_due, deadline_of, due_by, is_due}
use Rattle.slots.specs.declared.Timer.{Timer}
use Rattle.slots.proofs.Each.{some_set}
use Rattle.slots.specs.Timers.{some_due, earlier, considered, soonest_from, soonest}
use Rattle.header.specs.declared.Header.{Header}
use Rattle.header.specs.Header.{header_in, head_of}
use Rattle.elements.specs.declared.Read.{Read}
use Rattle.identifier.specs.declared.Pair.{Pair}
use Rattle.elements.specs.declared.Read.TheVariants as elem
use Rattle.elements.specs.Values.{connection_in, restart_in, pair_read}
use Rattle.replies.specs.declared.Diagnostic.{Diagnostic}
use Rattle.replies.specs.declared.Diagnostic.TheVariants as diagnostic
use Rattle.replies.specs.declared.Reply.{Reply}
use Rattle.replies.specs.declared.Reply.TheVariants as reply
use Rattle.replies.specs.Reply.{reply_octets}
use Rattle.service.specs.declared.GlobalState.{GlobalState}
use Rattle.service.specs.declared.GlobalState.TheVariants.{Null, RestartRequest}
use Rattle.service.specs.Service.{global_number, global_due, is_waiting, has_room}
use Rattle.verdicts.specs.declared.Fate.{Fate}
use Rattle.verdicts.specs.declared.Fate.TheVariants as fate
use Rattle.verdicts.specs.Verdict.{because}
use Rattle.verdicts.specs.Expiry.{expire}
use Rattle.judging.specs.Judge.{judge, global_reply}
use Rattle.effects.specs.declared.Change.{Change}
use Rattle.effects.specs.declared.Ending.{Ending}
use Rattle.effects.specs.declared.Ending.TheVariants as declared
use Rattle.effects.specs.declared.Effect.{Effect}
use Rattle.effects.specs.Change.{global_ended, global_after, out_after}
use Rattle.effects.specs.Effect.{quiet, replying, fated}
use Rattle.restarts.specs.declared.Target.{Target}
use Rattle.restarts.specs.User.{restart_status, pair_restart, restart_effect}
use Rattle.restarts.specs.Own.{named_by, restart_of, requested, ending, is_class, is_connection, is_same, acknowledge_effect}
use Rattle.table.specs.declared.Table.{Table}
use Rattle.table.specs.Effects.{free_pair, global_effect, no_room, sooner, request_first, tick_effect}
use Rattle.outcome.specs.Outcome.{Outcome, sending, effect_octets}
use Rattle.control.specs.Events.{heard_by}
use Rattle.control.specs.Happens.{Event, message, tick, connect, clear, offer, restart, put_marks_back, happens}
use Rattle.reached.specs.Reached.{Reached}
use Rattle.views.specs.Tables.{slot_at, HasCall, Holds, IsOut, UnderRestart}
use Rattle.views.specs.Effects.{reading_of, body_of, refusal_of, effect_of, more_of, outcome_of}
use Rattle.views.proofs.Verdicts.{by_cond}
use Rattle.views.proofs.View as view
use Rattle.safety.specs.Sound.{Sound}
use Rattle.safety.specs.Restarts.{restart_octets, Sends, Ends, Acknowledged, Withdrawn, Discards, Answers101, PutBack, Leaves, IsAcknowledge, Same, all, one, T316Next, Elsewhere, heard, connecting, clearing, offering, OwnRestarts}
use Rattle.safety.proofs.Tables.{live_within, out_not_free, named_not_free}
use Rattle.safety.proofs.Changes.{Comes, old, new, head_is, outcome_change}
use Rattle.safety.proofs.Sound.{left_accepted, left-refused, reached_sound}
use Rattle.safety.proofs.Accepted.{as_accepted, as_refused, accepted_effect}
use Rattle.safety.proofs.Lists.{get_d_map}
use Rattle.safety.proofs.Marks.{Narrow, out_in_lem, single_in, all_stays, emptied-none, named_narrow}

-- When T316 fires.

-- "those of slots are later": by one slot more
sooner_one : (b : Option Timer) (n x d : ℕ) → sooner (earlier b n x) d ≡ (sooner b d && not (leb x d))
sooner_one None n x d = by_test (leb x d) (λ y. rw (y, le-ltb d x (leb-true x d y))) (λ n. rw (n, lt-ltb d x (leb-false x d n)))
sooner_one (Some next) n x d =
    by_test (ltb x next.deadline)
    (λ y. let k = ltb-true x next.deadline y in rw y (by_test (leb x d)
    (λ z. rw (z, le-ltb d x (leb-true x d z)) (sym (and-false (ltb d next.deadline))))
    (λ z. let l = leb-false x d z in rw (z, lt-ltb d x l, lt-ltb d next.deadline (omega arith)))))
    (λ y. let k = ltb-false x next.deadline y in rw y (by_test (leb x d)
    (λ z. let l = leb-true x d z in rw (z, le-ltb d next.deadline (omega arith)))
    (λ z. rw z (by_test (ltb d next.deadline) (λ w. rw w) (λ w. rw w)))))

sooner-considered : (reading : ℕ) (b : Option Timer) (n : ℕ) (s : Slot) (d : ℕ) → d ≤ reading
    → (x : Option ℕ) → deadline_of s ≡ x → sooner (considered reading b n x) d ≡ (sooner b d && not (is_due d s))
sooner-considered reading b n s d h None e = rw e (by_test (sooner b d) (λ y. rw y) (λ n. rw n))
sooner-considered reading b n s d h (Some x) e =
    by_test (leb x reading)
    (λ y. rw (e, y) (sooner_one b n x d))
    (λ y. let k = leb-false x reading y in rw (e, y, lt-leb x d (omega arith)) (by_test (sooner b d) (λ y. rw y) (λ n. rw n)))

and_nor : (a b c : Bool) → ((a && not b) && not c) ≡ (a && not (b || c))
and_nor true true c = refl
and_nor true false c = refl
and_nor false b c = refl

and_always : (a : Bool) → a ≡ (a && true)
and_always true = refl
and_always false = refl

sooner_all : (reading : ℕ) (b : Option Timer) (n : ℕ) (ss : List Slot) (d : ℕ) → d ≤ reading → sooner (soonest_from reading b n ss) d ≡ (sooner b d && not (some_due d ss))
sooner_all reading b n [] d h = and_always (sooner b d)
sooner_all reading b n (s ∷ ss) d h =
    sooner_all reading (considered reading b n (deadline_of s)) (n + 1) ss d h
    ∙ rw (sooner-considered reading b n s d h (deadline_of s) refl) (and_nor (sooner b d) (is_due d s) (some_due d ss))

module _ (t : Table) where
  -- a slot's timer, by the state of its call
  live_due : (i : ℕ) (c : Call) (q : State) (d x : ℕ) → HasCall t i c q → state_due q ≡ Some x → is_due d (slot_at t i) ≡ leb x d
  live_due i c q d x h e = rw (h, e)

  hold_due_lem : (i : ℕ) (d : ℕ) (k : Hold) → (slot_at t i).hold ≡ k → ((c : Call) (q : State) (x : ℕ) → HasCall t i c q → state_due q ≡ Some x → d < x) → is_due d (slot_at t i) ≡ false
  hold_due_lem i d Empty e later = rw e
  hold_due_lem i d (Live c q) e later = state_due_lem (state_due q) refl
    where
      state_due_lem : (x : Option ℕ) → state_due q ≡ x → is_due d (slot_at t i) ≡ false
      state_due_lem None f = rw (e, f)
      state_due_lem (Some x) f = live_due i c q d x e f ∙ lt-leb x d (later c q x e f)

  module _ (reading d : ℕ) where
    abbrev first : Bool
    first = request_first reading (soonest reading t.slots.all) (Some d)

    pub next_fires : T316Next t reading d → first ≡ true
    next_fires n =
        let none = some_none (is_due d) no_slot t.slots.all (λ i below. hold_due_lem i d (slot_at t i).hold refl (n.slots_later i)) in
        rw (le-leb d reading n.due) (sooner_all reading None 0 t.slots.all d n.due ∙ rw none)

    pub fires_next : first ≡ true → T316Next t reading d
    fires_next y =
        let b = both (leb d reading) (sooner (soonest reading t.slots.all) d) y in
        let due = leb-true d reading b.0 in
        let none : some_due d t.slots.all ≡ false = not-true (some_due d t.slots.all) (sym (sooner_all reading None 0 t.slots.all d due) ∙ b.1) in
        record {
          due = due;
          slots_later = λ i c q x h e.
              by_test (leb x d)
              (λ early. clash (some_at (is_due d) no_slot t.slots.all i (live_within t i c q h) (live_due i c q d x h e ∙ early)) none)
              (λ late. leb-false x d late);
        }

-- What an accepted event decides is what comes of it.

by_effect : (t : Table) (e : Event) (P : Outcome → Type 0) (x : Effect) → (happens t e).answer.refusal ≡ 0 → effect_of t e ≡ x
    → P (sending t (reading_of e) x (more_of t e) (body_of e)) → P (happens t e)
by_effect t e P x zero decided p = rw (accepted_effect t e zero x decided) p

-- Our RESTART is sent, ends, and marks its pairs.

module _ (t : Table) (reading : ℕ) (more : Bool) where
  sends : (which : Named) (second : Bool) → Sends t (sending t reading (requested reading which second) more []) reading which second
  sends which second = record {
    calls = refl;
    doubts = refl;
    marks = refl;
    under_way = refl;
    reply = sent which;
    unsaid = record { notice = refl; flags = refl };
  }
    where
      sent : (which : Named) → reply_octets false 0 (restart_of which) ≡ restart_octets which
      sent All = refl
      sent (One c) = refl

  ends : (which : Named) (why : Ending) → (global_ended why t.global).state ≡ Null → Ends t (sending t reading (ending which why) more []) which
  ends which why null = record {
    ended = null;
    calls = λ i. get_d_map (emptied (is_named which)) no_slot (emptied-none (is_named which)) t.slots.all i;
    notice = rw (some_set (is_named which) t.slots.all);
    flags = refl;
    doubts = unless_in t.doubts which;
    no_reply = refl;
  }

  withdraws : (which : Named) → has_room t.out which ≡ true → Narrow which → Withdrawn t (sending t reading (ending which declared.Expired) more []) which
  withdraws which room narrow = record {
    ends = ends which declared.Expired refl;
    marks = λ p v. out_in_lem t.out which p v room narrow;
    all = λ is. rw is;
    one = λ p v is. rw is (all_stays t.out p v);
    single = λ p v is q w. single_in t.out which p v q w room narrow is;
  }

  discards : Discards t (sending t reading quiet more []) reading
  discards = record { table = refl; no_reply = refl; unsaid = record { notice = refl; flags = refl } }

-- RESTART ACKNOWLEDGE.

same_is : (m : List ℕ) (which : Named) → Same m which → ((header_in m).whole ≡ true) × (is_same which (restart_in m 9) (connection_in m 9) ≡ true)
same_is m which (all whole r) = (whole, rw r)
same_is m which (one p v whole r c) = (whole, rw (r, c, eq-eqb p p refl, eq-eqb v v refl))

is_class_lem : (class : ℕ) (r : Read ℕ) → is_class class r ≡ true → r ≡ elem.Readable class
is_class_lem class elem.Absent y = clash y refl
is_class_lem class elem.Unreadable y = clash y refl
is_class_lem class (elem.Readable k) y = ap elem.Readable (eqb-true k class y)

is_connection_lem : (p v : ℕ) (c : Read Pair) → is_connection p v c ≡ true → c ≡ pair_read p v
is_connection_lem p v elem.Absent y = clash y refl
is_connection_lem p v elem.Unreadable y = clash y refl
is_connection_lem p v (elem.Readable c) y = let b = both (eqb c.vpci p) (eqb c.vci v) y in rw (sym (eqb-true c.vpci p b.0), sym (eqb-true c.vci v b.1))

is_same_lem : (m : List ℕ) (which : Named) → (header_in m).whole ≡ true → is_same which (restart_in m 9) (connection_in m 9) ≡ true → Same m which
is_same_lem m All whole y = all whole (is_class_lem 0x82 (restart_in m 9) y)
is_same_lem m (One pv) whole y =
    let b = both (is_class 0x80 (restart_in m 9)) (is_connection pv.vpci pv.vci (connection_in m 9)) y in
    one pv.vpci pv.vci whole (is_class_lem 0x80 (restart_in m 9) b.0) (is_connection_lem pv.vpci pv.vci (connection_in m 9) b.1)

module _ (t : Table) (reading : ℕ) (m : List ℕ) (is : IsAcknowledge m) where
  abbrev decided : Effect
  decided = heard_by t reading m (head_of m)

  module _ (which : Named) (second : Bool) (d : ℕ) (under_way : t.global.state ≡ RestartRequest which second d) where
    goes_on : decided ≡ cond (header_in m).whole (cond (is_same which (restart_in m 9) (connection_in m 9)) (ending which declared.Acknowledged) quiet) quiet
    goes_on = rw (is.head, eq-eqb _ _ is.global, is.kind, is.flag, under_way)

    same_ends : Same m which → decided ≡ ending which declared.Acknowledged
    same_ends same = let s = same_is m which same in goes_on ∙ rw (s.0, s.1)

    other_quiet : ¬ Same m which → decided ≡ quiet
    other_quiet other =
        goes_on
        ∙ by_test (header_in m).whole
        (λ w. rw w (by_test (is_same which (restart_in m 9) (connection_in m 9)) (λ y. absurd (other (is_same_lem m which w y))) (λ n. rw n)))
        (λ w. rw w)

  none_answers : t.global.state ≡ Null → decided ≡ replying false 0 (reply.Status 0 (because 101 (diagnostic.Octet 0x4E)))
  none_answers null = rw (is.head, eq-eqb _ _ is.global, is.kind, is.flag, null)

-- T316.

module _ (t : Table) (reading : ℕ) (which : Named) (d : ℕ) (next : T316Next t reading d) where
  first-again : t.global.state ≡ RestartRequest which false d → tick_effect t reading ≡ requested reading which true
  first-again under_way = rw (under_way, next_fires t reading d next)

  second_ends : t.global.state ≡ RestartRequest which true d → has_room t.out which ≡ true → tick_effect t reading ≡ ending which declared.Expired
  second_ends under_way room = rw (under_way, next_fires t reading d next, room)

  second_again : t.global.state ≡ RestartRequest which true d → has_room t.out which ≡ false → tick_effect t reading ≡ requested reading which true
  second_again under_way full = rw (under_way, next_fires t reading d next, full)

-- What has no part in it.

abbrev LeavesBoth : Table → Change → Type 0
LeavesBoth t x = (global_after x t.global ≡ t.global) × (out_after x t.out ≡ t.out)

fated_leaves : (t : Table) (i : ℕ) (c : Call) (f : Fate) → LeavesBoth t (fated i c f)
fated_leaves t i c fate.Stay = (refl, refl)
fated_leaves t i c (fate.To q notice) = (refl, refl)
fated_leaves t i c fate.Gone = (refl, refl)
fated_leaves t i c fate.InDoubt = (refl, refl)

module _ (t : Table) (e : Event) (no_command : (target : Target) → ¬ view.IsRestartCommand target e) (no-acknowledge : (m : List ℕ) (h : Header) → ¬ view.IsAcknowledge m h e)
    (no-back : ¬ view.IsPutBack e)
    (no-fire : (which : Named) (second : Bool) (d : ℕ) → view.IsTick e → t.global.state ≡ RestartRequest which second d → ¬ view.T316Fires t e) where
  does_leaves : (x : Effect) → view.Does t e x → LeavesBoth t x.change
  does_leaves x view.nothing = (refl, refl)
  does_leaves x (view.no_call m h is) = (refl, refl)
  does_leaves x (view.global m h is) = (refl, refl)
  does_leaves x (view.refuses m h c is a) = (refl, refl)
  does_leaves x (view.no_slot_lem m h is a f) = (refl, refl)
  does_leaves x (view.no_free m h i is a f g) = (refl, refl)
  does_leaves x (view.admits m h i p v is a f g) = (refl, refl)
  does_leaves x (view.offers i p v is f g) = (refl, refl)
  does_leaves x (view.judges m h i c q is f g) = fated_leaves t i c (judge m h q (reading_of e)).fate
  does_leaves x (view.fires i c q is z f g) = fated_leaves t i c (expire (no_room t) q (reading_of e)).fate
  does_leaves x (view.connects i c q is g n) = (refl, refl)
  does_leaves x (view.clears i cause c q is g host) = (refl, refl)
  does_leaves x (view.declines m h n d is a) = (refl, refl)
  does_leaves x (view.restarts m h which a is n) = (refl, refl)
  does_leaves x (view.requests target is w m) = absurd (no_command target is)
  does_leaves x (view.acknowledges m h which second d is g same) = absurd (no-acknowledge m h is)
  does_leaves x (view.puts_back is) = absurd (no-back is)
  does_leaves x (view.sends_again which second d is g z full) = absurd (no-fire which second d is g z)
  does_leaves x (view.withdraws which d is g z room) = absurd (no-fire which true d is g z)

  leaves : Leaves t (happens t e)
  leaves =
      view.by_event t e (λ (o : Outcome). Leaves t o)
      (λ n. record { under_way = refl; marks = refl })
      (λ zero x d. let l = does_leaves x d in record { under_way = l.0; marks = l.1 })

slots_first : (t : Table) (label reading room : ℕ) (which : Named) (second : Bool) (d : ℕ) → t.global.state ≡ RestartRequest which second d
    → ¬ T316Next t reading d → Leaves t (happens t (tick label reading room))
slots_first t label reading room which second d under_way not-next =
    leaves t (tick label reading room) (λ target. elim [ ]) (λ m h is. elim is.its_message [ ]) (elim [ ])
    (λ w s x is same z. not-next (fires_next t reading d (rw under_way at z)))

none_fires : (t : Table) (label reading room : ℕ) → t.global.state ≡ Null → Leaves t (happens t (tick label reading room))
none_fires t label reading room null =
    leaves t (tick label reading room) (λ target. elim [ ]) (λ m h is. elim is.its_message [ ]) (elim [ ])
    (λ w s x is same z. not_null w s x (sym null ∙ same))
  where
    not_null : (w : Named) (s : Bool) (x : ℕ) → Null ≡ RestartRequest w s x → ⊥
    not_null w s x e = let z : ◌≡◌ {A = ℕ} 0 1 = cc in absurd (omega arith)

elsewhere : (t : Table) (e : Event) → Elsewhere e → Leaves t (happens t e)
elsewhere t e (heard label reading room m other) =
    leaves t (message label reading room m) (λ target. elim [ ]) (λ m' h is. not_acknowledge m' h is is.its_message) (elim [ ]) (λ w s x. elim [ ])
  where
    not_acknowledge : (m' : List ℕ) (h : Header) → view.IsAcknowledge m' h (message label reading room m) → ¬ view.IsMessage m' h (message label reading room m)
    not_acknowledge m' h is (view.heard _ _ _ head) =
        let same = head_is m h head in
        let k = both (eqb h.kind 0x4E) h.flag is.acknowledge in
        other (record {
          head = head ∙ ap Some (sym same);
          kind = ap (λ (x : Header). x.kind) same ∙ eqb-true h.kind 0x4E k.0;
          flag = ap (λ (x : Header). x.flag) same ∙ k.1;
          global = ap (λ (x : Header). x.reference) same ∙ eqb-true h.reference 0 is.global;
        })
elsewhere t e (connecting label reading room slot) =
    leaves t (connect label reading room slot) (λ target. elim [ ]) (λ m h is. elim is.its_message [ ]) (elim [ ]) (λ w s x. elim [ ])
elsewhere t e (clearing label reading room slot cause) =
    leaves t (clear label reading room slot cause) (λ target. elim [ ]) (λ m h is. elim is.its_message [ ]) (elim [ ]) (λ w s x. elim [ ])
elsewhere t e (offering label reading room body) =
    leaves t (offer label reading room body) (λ target. elim [ ]) (λ m h is. elim is.its_message [ ]) (elim [ ]) (λ w s x. elim [ ])

-- "Global STATUS now shows Restart Request, 61, while waiting."

-- a STATUS that is sent shows this state; whatever else is sent is none
abbrev Shows : ℕ → Effect → Type 0
Shows n x = get_or (effect_octets x []) 5 0 ≡ 0x7D → get_or (effect_octets x []) 13 0 ≡ n

shows_number : (g : GlobalState) → global_number g ≡ cond (is_waiting g) 61 0
shows_number Null = refl
shows_number (RestartRequest which second d) = refl

module _ (t : Table) (m : List ℕ) (h : Header) where
  abbrev ShowsOwn : Effect → Type 0
  ShowsOwn = Shows (cond (is_waiting t.global.state) 61 0)

  status_own : (n : ℕ) (d : Diagnostic) → ShowsOwn (restart_status (global_number t.global.state) n d)
  status_own n d k = shows_number t.global.state

  pair_own : (c : Read Pair) → ShowsOwn (pair_restart (global_number t.global.state) t.pool c)
  pair_own elem.Absent = status_own 96 (diagnostic.Octet 0x5A)
  pair_own elem.Unreadable = status_own 100 (diagnostic.Octet 0x5A)
  pair_own (elem.Readable c) =
      by_cond ShowsOwn (known_vpci t.pool c.vpci) _ _
      (by_cond ShowsOwn (ltb c.vci 32 || permanent t.pool c.vpci c.vci) _ _ (status_own 82 (diagnostic.Pair c)) (λ k. absurd (omega arith)))
      (status_own 100 (diagnostic.Octet 0x5A))

  restart_own : (r : Read ℕ) (c : Read Pair) → ShowsOwn (restart_effect (global_number t.global.state) t.pool r c)
  restart_own elem.Absent c = status_own 96 (diagnostic.Octet 0x79)
  restart_own elem.Unreadable c = status_own 100 (diagnostic.Octet 0x79)
  restart_own (elem.Readable k) c = by_cond ShowsOwn (eqb k 0x82) _ _ (λ z. absurd (omega arith)) (pair_own c)

  acknowledge_own : (g : GlobalState) (r : Read ℕ) (c : Read Pair) → ShowsOwn (acknowledge_effect g r c)
  acknowledge_own Null r c = λ z. absurd (omega arith)
  acknowledge_own (RestartRequest which second d) r c = by_cond ShowsOwn (is_same which r c) _ _ (λ z. absurd (omega arith)) (λ z. absurd (omega arith))

  reply_own : ShowsOwn (replying (not h.flag) 0 (global_reply (global_number t.global.state) h))
  reply_own =
      by_cond (λ (a : Reply). ShowsOwn (replying (not h.flag) 0 a)) (eqb h.kind 0x7D) _ _ (λ z. absurd (omega arith))
      (by_cond (λ (a : Reply). ShowsOwn (replying (not h.flag) 0 a)) (eqb h.kind 0x4E && h.flag) _ _
      (λ z. shows_number t.global.state)
      (λ z. shows_number t.global.state))

  global_own : ShowsOwn (global_effect t m h)
  global_own =
      by_cond ShowsOwn (eqb h.kind 0x46 && not h.flag) _ _
      (by_cond ShowsOwn h.whole _ _ (restart_own (restart_in m 9) (connection_in m 9)) (λ z. absurd (omega arith)))
      (by_cond ShowsOwn ((eqb h.kind 0x4E && h.flag) && is_waiting t.global.state) _ _
      (by_cond ShowsOwn h.whole _ _ (acknowledge_own t.global.state (restart_in m 9) (connection_in m 9)) (λ z. absurd (omega arith)))
      reply_own)

status_shows : (t : Table) (label reading room : ℕ) (m : List ℕ) → head_of m ≡ Some (header_in m) → (header_in m).reference ≡ 0
    → get_or (happens t (message label reading room m)).reply 5 0 ≡ 0x7D
    → get_or (happens t (message label reading room m)).reply 13 0 ≡ cond (is_waiting t.global.state) 61 0
status_shows t label reading room m head global =
    let e = message label reading room m in
    by_test (eqb (refusal_of t e) 0)
    (λ y. rw (as_accepted t e y, head, eq-eqb _ _ global) (global_own t m (header_in m)))
    (λ n. rw (as_refused t e n) (λ z. absurd (omega arith)))

-- A pair that is not free is given to no call.

given_to_none : (t : Table) (e : Event) (p v : ℕ) → IsOut t p v ⊎ UnderRestart t p v → Holds (happens t e).answer.table p v → Holds t p v
given_to_none t e p v bar =
    by_test (eqb (refusal_of t e) 0)
    (λ y. rw (left_accepted t e y) (λ h. by_origin h ((outcome_change t e (eqb-true (refusal_of t e) 0 y)).comes h.slot h.call h.state h.live)))
    (λ n. rw (left-refused t e n) (λ h. h))
  where
    not_free : free_pair t ≢ Some (pair p v)
    not_free = ⊎_elim (λ (o : IsOut t p v). out_not_free t p v o) (λ (n : UnderRestart t p v). named_not_free t p v n) bar

    by_origin : (h : Holds (outcome_of t e).answer.table p v) → Comes t e h.slot h.call h.state → Holds t p v
    by_origin h (old q live f) = record { slot = h.slot; call = h.call; state = q; live = live; pair = h.pair }
    by_origin h (new n place) = absurd (not_free (rw (h.pair.vpci, h.pair.vci) at n.pair))

-- All of it.

pub own_restarts : (t : Table) → Sound t → OwnRestarts happens t
own_restarts t s = record {
  command = λ label reading room target zero.
      by_effect t (restart label reading room target) (λ (o : Outcome). Sends t o reading (named_by target) false) _ zero refl (sends t reading false (named_by target) false);
  acknowledge = λ label reading room m which second d under_way zero is same.
      by_effect t (message label reading room m) (λ (o : Outcome). Acknowledged t o which) _ zero (same_ends t reading m is which second d under_way same)
      (record { ends = ends t reading false which declared.Acknowledged refl; marks_stay = refl });
  any_other_acknowledge = λ label reading room m which second d under_way zero is other.
      by_effect t (message label reading room m) (λ (o : Outcome). Discards t o reading) _ zero (other_quiet t reading m is which second d under_way other) (discards t reading false);
  none_outstanding = λ label reading room m null zero is.
      by_effect t (message label reading room m) (λ (o : Outcome). Answers101 t o reading) _ zero (none_answers t reading m is null)
      (record { table = refl; reply = refl; unsaid = record { notice = refl; flags = refl } });
  first_expiry = λ label reading room which d under_way zero next.
      by_effect t (tick label reading room) (λ (o : Outcome). Sends t o reading which true) _ zero (first-again t reading which d next under_way) (sends t reading _ which true);
  second_t316_expiry = λ label reading room which d under_way zero next free.
      by_effect t (tick label reading room) (λ (o : Outcome). Withdrawn t o which) _ zero (second_ends t reading which d next under_way free)
      (withdraws t reading _ which free (named_narrow t s which true d under_way));
  without_room = λ label reading room which d under_way zero next full.
      by_effect t (tick label reading room) (λ (o : Outcome). Sends t o reading which true) _ zero (second_again t reading which d next under_way full) (sends t reading _ which true);
  slots_first = slots_first t;
  none_fires = none_fires t;
  puts_marks_back = λ label reading room zero.
      by_effect t (put_marks_back label reading room) (λ (o : Outcome). PutBack t o) _ zero refl
      (record { calls = refl; doubts = refl; under_way = refl; marks = refl; no_reply = refl; unsaid = record { notice = refl; flags = refl } });
  another_due = λ label reading room zero.
      by_effect t (tick label reading room) (λ (o : Outcome). o.answer.more ≡ (some_due reading o.answer.table.slots.all || due_by reading (global_due o.answer.table.global.state)))
      (tick_effect t reading) zero refl refl;
  status_shows = status_shows t;
  elsewhere = elsewhere t;
  given_to_none = given_to_none t;
}

pub reached_restarts : (t : Table) → Reached t → OwnRestarts happens t
reached_restarts t r = own_restarts t (reached_sound t r)
