-- What every event answers fits its octets: a reference of 23 bits, causes below 128, states, types and pairs in their octets.
--   heard-fits, expire-fits        a verdict on a live call, by a message and by a timer
--   HeaderFits, header-fits        what the header of octets says
--   body-room, body-offered        the body of an accepted offer
--   Writable, does_writable        everything that an event can decide
-- Assumes nothing.
use Rattle.std.specs.Prelude.{Some}
use Prim.Native.Nat.{ℕ, ◌≤◌, ◌<◌}
use mathlib.Core.Path.{◌≡◌}
use mathlib.Core.Bool.{Bool, true, false, ◌&&◌}
use mathlib.Core.List.{List}
use native.Mathlib.Omega.{arith}
use lib.Dec.{eqb, ltb}
use lib.ListN.{length, get_or}
use borrow.Author.Tests.{ltb-false}
use Rattle.std.specs.Prelude.{Result, Ok, Err, ⊤}
use Rattle.channels.specs.declared.Named.{Named}
use Rattle.channels.specs.declared.Named.TheVariants as named
use Rattle.identifier.specs.Pair.{pair}
use Rattle.channels.specs.Channels.{permitted}
use Rattle.channels.proofs.Cases.{by_test, both}
use Rattle.calls.specs.declared.Clearing.{Clearing}
use Rattle.calls.specs.declared.State.{State}
use Rattle.calls.specs.declared.State.TheVariants.{N3, N6, N9, N10, N12}
use Rattle.calls.specs.Calls.{state_number, is_empty}
use Rattle.first.specs.First.{place}
use Rattle.header.specs.declared.Header.{Header}
use Rattle.header.specs.Header.{header_in}
use Rattle.items.specs.Items.{whole_from}
use Rattle.elements.specs.declared.Read.{Read}
use Rattle.elements.specs.declared.Read.TheVariants as elem
use Rattle.identifier.specs.declared.Pair.{Pair}
use Rattle.elements.specs.Values.{cause_in, call_state_in, connection_in}
use Rattle.replies.specs.declared.Cause.{Cause}
use Rattle.replies.specs.declared.Diagnostic.{Diagnostic}
use Rattle.replies.specs.declared.Diagnostic.TheVariants as diagnostic
use Rattle.replies.specs.declared.Reply.{Reply}
use Rattle.replies.specs.declared.Reply.TheVariants as reply
use Rattle.replies.specs.declared.Outgoing.{Outgoing}
use Rattle.replies.specs.declared.Outgoing.TheVariants as outgoing
use Rattle.replies.specs.Reply.{body_room}
use Rattle.readback.specs.ReadBack.{Octets}
use Rattle.readback.specs.Replies.{FitsPair, FitsDiagnostic, FitsCause, Fitting, OfferBody}
use Rattle.readback.proofs.PairRead.{ReadFits, connection-fits}
use Rattle.elements.specs.Elements.{is_absent, is_unreadable}
use Rattle.setup.specs.Setup.{found_in, chosen, some_named, multipoint_in, allowed_in, admission}
use Rattle.setup.specs.Offer.{offer_fits}
use Rattle.verdicts.specs.declared.Verdict.{Verdict}
use Rattle.verdicts.specs.Verdict.{because, lost}
use Rattle.verdicts.specs.Expiry.{diagnosed, released, waiting, expire}
use Rattle.judging.specs.Judge.{release_complete, release_reply, status_of, status_reply, no_call_reply, global_reply}
use Rattle.service.specs.declared.GlobalState.{GlobalState}
use Rattle.service.specs.declared.GlobalState.TheVariants.{Null, RestartRequest}
use Rattle.service.specs.Service.{global_number}
use Rattle.effects.specs.declared.Effect.{Effect}
use Rattle.restarts.specs.Own.{named_by, restart_of}
use Rattle.table.specs.declared.Table.{Table}
use Rattle.table.specs.Effects.{free_pair, no_room}
use Rattle.refusals.specs.Refusals.{or_else, body_refusal, slot_refusal, pair_refusal}
use Rattle.refusals.proofs.Causes.{host_small}
use Rattle.control.specs.Happens.{Event, message, tick, connect, clear, offer, restart, put_marks_back}
use Rattle.views.specs.Effects.{reading_of, body_of, common_of, own_of, refusal_of}
use Rattle.views.proofs.Verdicts as verdict
use Rattle.views.proofs.View as view
use Rattle.safety.specs.Sound.{StateSound, by_host, by_timer, Sound, InOctets, ReferencesFit}
use Rattle.safety.proofs.Tables.{free_permitted}
use Rattle.safety.proofs.Changes.{head_is}
use Rattle.safety.proofs.Doubtful.{Nameable, target_nameable, sound_nameable}
use Rattle.safety.proofs.References.{octets_fit, unused_fits}

-- Causes and states.

cause-fits : (n : ℕ) (d : Diagnostic) → n < 128 → FitsDiagnostic d → FitsCause (because n d)
cause-fits n d small fit = record { number = small; diagnostic = fit }

state_fits : (q : State) → state_number q < 256
state_fits N3 = omega arith
state_fits (N6 d) = omega arith
state_fits (N9 d) = omega arith
state_fits N10 = omega arith
state_fits (N12 k d) = omega arith

status_fits : (q : State) (n : ℕ) (d : Diagnostic) → n < 128 → FitsDiagnostic d → Fitting (status_of q n d)
status_fits q n d small fit = record { state = state_fits q; why = cause-fits n d small fit }

no_state_fits : (n : ℕ) (d : Diagnostic) → n < 128 → FitsDiagnostic d → Fitting (reply.Status 0 (because n d))
no_state_fits n d small fit = record { state = omega arith; why = cause-fits n d small fit }

-- "Global STATUS shows state 0."; "now shows Restart Request, 61, while waiting"
global_state_fits : (g : GlobalState) (n : ℕ) (d : Diagnostic) → n < 128 → FitsDiagnostic d → Fitting (reply.Status (global_number g) (because n d))
global_state_fits Null n d small fit = record { state = omega arith; why = cause-fits n d small fit }
global_state_fits (RestartRequest which second deadline) n d small fit = record { state = omega arith; why = cause-fits n d small fit }

-- A message on a live call.

abbrev VerdictFits : Verdict → Type 0
VerdictFits v = Fitting v.reply

says_fits : (q : State) (k : ℕ) (a : Reply) → k < 256 → verdict.Says q k a → Fitting a
says_fits q k a octet verdict.nothing = tt
says_fits q k a octet verdict.enquired = status_fits q 30 diagnostic.None (omega arith) tt
says_fits q k a octet verdict.unknown = status_fits q 97 (diagnostic.Octet k) (omega arith) octet
says_fits q k a octet verdict.unexpected = status_fits q 101 (diagnostic.Octet k) (omega arith) octet

complete_fits : (r : Read ℕ) → Fitting (release_complete r)
complete_fits elem.Absent = cause-fits 96 (diagnostic.Octet 0x08) (omega arith) (omega arith)
complete_fits elem.Unreadable = cause-fits 100 (diagnostic.Octet 0x08) (omega arith) (omega arith)
complete_fits (elem.Readable n) = tt

release-fits : (q : State) (r : Read ℕ) → Fitting (release_reply q r)
release-fits N3 r = complete_fits r
release-fits (N6 d) r = complete_fits r
release-fits (N9 d) r = complete_fits r
release-fits N10 r = complete_fits r
release-fits (N12 k d) r = tt

heard-fits : (reading k : ℕ) (q : State) (v : Verdict) → k < 256 → verdict.Heard reading k q v → VerdictFits v
heard-fits reading k q v octet (verdict.says a s) = says_fits q k a octet s
heard-fits reading k q v octet (verdict.to_N9 d g) = tt
heard-fits reading k q v octet (verdict.to_N10 a) = tt
heard-fits reading k q v octet (verdict.by_release m) = release-fits q (cause_in m 9)
heard-fits reading k q v octet verdict.at_once = tt

-- A timer, and the host.

released-fits : (reading : ℕ) (second : Bool) (n : ℕ) (expired : Bool) → n < 128 → VerdictFits (released reading second n expired)
released-fits reading second n expired small =
    cause-fits n (diagnosed expired) small (verdict.by_cond FitsDiagnostic expired diagnostic.Timer diagnostic.None tt tt)

clearing_small : (last : ℕ) (network : Bool) (k : Clearing) (d : ℕ) → StateSound last network (N12 k d) → k.cause < 128
clearing_small last network k d (by_host _ _ _ below host plain) = host_small k.cause host
clearing_small last network k d (by_timer _ _ below cause timed) = rw cause (omega arith)

expire-fits : (last reading : ℕ) (full network : Bool) (q : State) → StateSound last network q → VerdictFits (expire full q reading)
expire-fits last reading full network N3 s = tt
expire-fits last reading full network (N6 d) s = tt
expire-fits last reading full network (N9 d) s = released-fits reading false 102 true (omega arith)
expire-fits last reading full network N10 s = tt
expire-fits last reading full network (N12 k d) s =
    verdict.by_cond VerdictFits k.second _ (released reading true k.cause k.expired)
    (verdict.by_cond VerdictFits full (waiting reading k) lost tt tt)
    (released-fits reading true k.cause k.expired (clearing_small last network k d s))

-- A message on no call, and on the global reference.

status_reply_fits : (r : Read ℕ) → Fitting (status_reply r)
status_reply_fits elem.Absent = tt
status_reply_fits elem.Unreadable = tt
status_reply_fits (elem.Readable s) = verdict.by_cond Fitting (eqb s 0) reply.None _ tt (cause-fits 101 diagnostic.None (omega arith) tt)

no_call_fits : (m : List ℕ) (h : Header) → Fitting (no_call_reply m h)
no_call_fits m h =
    verdict.by_cond Fitting (eqb h.kind 0x5A) _ _ tt
    (verdict.by_cond Fitting (eqb h.kind 0x75) _ _ (no_state_fits 30 diagnostic.None (omega arith) tt)
    (verdict.by_cond Fitting (eqb h.kind 0x7D) _ _
    (verdict.by_cond Fitting h.whole _ _ (status_reply_fits (call_state_in m 9)) tt)
    (cause-fits 81 diagnostic.None (omega arith) tt)))

global_fits : (g : GlobalState) (h : Header) → Fitting (global_reply (global_number g) h)
global_fits g h =
    verdict.by_cond Fitting (eqb h.kind 0x7D) _ _ tt
    (verdict.by_cond Fitting (eqb h.kind 0x4E && h.flag) _ _
    (global_state_fits g 101 (diagnostic.Octet 0x4E) (omega arith) (omega arith))
    (global_state_fits g 81 diagnostic.None (omega arith) tt))

abbrev AdmissionFits : Result ⊤ Cause → Type 0
AdmissionFits (Ok u) = Unit {0}
AdmissionFits (Err c) = FitsCause c

admission-fits : (m : List ℕ) (from : ℕ) → AdmissionFits (admission m from)
admission-fits m from =
    verdict.by_cond AdmissionFits (some_named (chosen is_absent (found_in m from))) _ _ (cause-fits 96 _ (omega arith) tt)
    (verdict.by_cond AdmissionFits (some_named (chosen is_unreadable (found_in m from))) _ _ (cause-fits 100 _ (omega arith) tt)
    (verdict.by_cond AdmissionFits (multipoint_in m (found_in m from).bearer) _ _ (cause-fits 65 diagnostic.None (omega arith) tt)
    (verdict.by_cond AdmissionFits (allowed_in m (found_in m from).traffic) (Ok tt) _ tt (cause-fits 73 diagnostic.None (omega arith) tt))))

-- RESTART.

declined_fits : (g : GlobalState) (c : Read Pair) (n : ℕ) (d : Diagnostic) → ReadFits c → view.Declined c n d
    → Fitting (reply.Status (global_number g) (because n d))
declined_fits g c n d f view.no_class = global_state_fits g 96 (diagnostic.Octet 0x79) (omega arith) (omega arith)
declined_fits g c n d f view.bad_class = global_state_fits g 100 (diagnostic.Octet 0x79) (omega arith) (omega arith)
declined_fits g c n d f view.no_pair_lem = global_state_fits g 96 (diagnostic.Octet 0x5A) (omega arith) (omega arith)
declined_fits g c n d f view.bad_pair = global_state_fits g 100 (diagnostic.Octet 0x5A) (omega arith) (omega arith)
declined_fits g c n d f (view.barred p v e) = let fits : FitsPair p v = rw e at f in global_state_fits g 82 (diagnostic.Pair (pair p v)) (omega arith) fits

acted_fits : (t : Table) (r : Read ℕ) (c : Read Pair) (which : Named) (a : Reply) → ReadFits c → view.Names t r c which a → Fitting a
acted_fits t r c which a f (view.all k e y) = tt
acted_fits t r c which a f (view.one k p v e n g known fair) = rw g at f

-- What is read from octets.

pub record HeaderFits (h : Header) : Type 0 where
  pub reference : h.reference < 8388608
  pub kind : h.kind < 256

header-fits : (m : List ℕ) → Octets m → HeaderFits (header_in m)
header-fits m o = record { reference = octets_fit (get_or m 2 0) (get_or m 3 0) (get_or m 4 0) (o.at 3) (o.at 4); kind = o.at 5 }

message-fits : (e : Event) (m : List ℕ) (h : Header) → InOctets e → view.IsMessage m h e → Octets m × HeaderFits h
message-fits e m h o (view.heard label reading room head) =
    let octets : Octets m = record { at = o } in
    (octets, rw (head_is m h head) at (header-fits m octets))

-- An accepted offer passes 10.

offer_passes : (t : Table) (label reading room : ℕ) (body : List ℕ) → refusal_of t (offer label reading room body) ≡ 0 → body_refusal body ≡ 0
offer_passes t label reading room body h =
    let e = offer label reading room body in
    let own = (view.or_else_both (common_of t e) (own_of t e) h).1 in
    (view.or_else_both (body_refusal body) (or_else (slot_refusal (place is_empty t.slots.all)) (pair_refusal (free_pair t))) own).0

body-passes : (body : List ℕ) → body_refusal body ≡ 0 → (length body ≤ body_room) × (offer_fits body ≡ true)
body-passes body e =
    by_test (ltb body_room (length body))
    (λ y. let z : ◌≡◌ {A = ℕ} 10 0 = rw y at e in absurd (omega arith))
    (λ n. by_test (offer_fits body)
    (λ y. (ltb-false body_room (length body) n, y))
    (λ z. let w : ◌≡◌ {A = ℕ} 10 0 = rw (n, z) at e in absurd (omega arith)))

pub body-room : (t : Table) (e : Event) → refusal_of t e ≡ 0 → length (body_of e) ≤ body_room
body-room t (message label reading room octets) h = omega arith
body-room t (tick label reading room) h = omega arith
body-room t (connect label reading room slot) h = omega arith
body-room t (clear label reading room slot cause) h = omega arith
body-room t (offer label reading room body) h = (body-passes body (offer_passes t label reading room body h)).0
body-room t (restart label reading room target) h = omega arith
body-room t (put_marks_back label reading room) h = omega arith

body-offered : (t : Table) (e : Event) → InOctets e → refusal_of t e ≡ 0 → view.IsOffer e → OfferBody (body_of e)
body-offered t e o h (view.is_offer label reading room body) =
    let passed = body-passes body (offer_passes t label reading room body h) in
    record { octets = record { at = o }; size = passed.0; whole = (both (whole_from body 0) _ passed.1).0 }

-- Everything that an event can decide.

abbrev pub FitsOutgoing : Outgoing → List ℕ → Type 0
FitsOutgoing (outgoing.Reply a) body = Fitting a
FitsOutgoing (outgoing.Setup c) body = OfferBody body

pub record Writable (x : Effect) (body : List ℕ) : Type 0 where
  pub reference : x.reference < 8388608
  pub fits : FitsOutgoing x.outgoing body

module _ (t : Table) (e : Event) (s : Sound t) (references : ReferencesFit t) (o : InOctets e) (accepted : refusal_of t e ≡ 0) where
  permitted-fits : (p v : ℕ) → permitted t.pool p v ≡ true → FitsPair p v
  permitted-fits p v ok = let n = s.numbers p v ok in record { vpci = omega (arith, n.0); vci = omega (arith, n.2) }

  free_fits : (p v : ℕ) → free_pair t ≡ Some (pair p v) → FitsPair p v
  free_fits p v g = permitted-fits p v (free_permitted t p v g)

  -- our RESTART
  own_fits : (which : Named) → Nameable t.pool which → Fitting (restart_of which)
  own_fits named.All n = tt
  own_fits (named.One pv) n = permitted-fits pv.vpci pv.vci n

  pub does_writable : (x : Effect) → view.Does t e x → Writable x (body_of e)
  does_writable x view.nothing = record { reference = omega arith; fits = tt }
  does_writable x (view.no_call m h is) = let f = message-fits e m h o is in record { reference = f.1.reference; fits = no_call_fits m h }
  does_writable x (view.global m h is) = record { reference = omega arith; fits = global_fits t.global.state h }
  does_writable x (view.refuses m h c is a) =
      let f = message-fits e m h o is.its_message in
      let cause : AdmissionFits (Err c) = rw a at (admission-fits m 9) in
      record { reference = f.1.reference; fits = cause }
  does_writable x (view.no_slot_lem m h is a f) =
      let header = message-fits e m h o is.its_message in
      record { reference = header.1.reference; fits = cause-fits 47 diagnostic.None (omega arith) tt }
  does_writable x (view.no_free m h i is a f g) =
      let header = message-fits e m h o is.its_message in
      record { reference = header.1.reference; fits = cause-fits 45 diagnostic.None (omega arith) tt }
  does_writable x (view.admits m h i p v is a f g) =
      let header = message-fits e m h o is.its_message in
      record { reference = header.1.reference; fits = free_fits p v g }
  does_writable x (view.offers i p v is f g) = record { reference = unused_fits t s.has_slots; fits = body-offered t e o accepted is }
  does_writable x (view.judges m h i c q is f g) =
      let header = message-fits e m h o is in
      record { reference = header.1.reference; fits = heard-fits (reading_of e) h.kind q _ header.1.kind (verdict.heard (reading_of e) m h q) }
  does_writable x (view.fires i c q is z f g) =
      record { reference = references i c q g; fits = expire-fits t.last (reading_of e) (no_room t) c.network q (s.calls_sound i c q g).state_sound }
  does_writable x (view.connects i c q is g n) = record { reference = references i c q g; fits = tt }
  does_writable x (view.clears i cause c q is g host) =
      record { reference = references i c q g; fits = released-fits (reading_of e) false cause false (host_small cause host) }
  does_writable x (view.declines m h n d is a) =
      let f = message-fits e m h o is.its_message in
      record { reference = omega arith; fits = declined_fits t.global.state (connection_in m 9) n d (connection-fits m f.0) a }
  does_writable x (view.restarts m h which a is n) =
      let f = message-fits e m h o is.its_message in
      record { reference = omega arith; fits = acted_fits t _ (connection_in m 9) which a (connection-fits m f.0) n }
  does_writable x (view.requests target is w m) =
      record { reference = omega arith; fits = own_fits (named_by target) (target_nameable t.pool target m) }
  does_writable x (view.acknowledges m h which second d is g same) = record { reference = omega arith; fits = tt }
  does_writable x (view.puts_back is) = record { reference = omega arith; fits = tt }
  does_writable x (view.sends_again which second d is g z full) =
      record { reference = omega arith; fits = own_fits which (sound_nameable t.last t.pool which second d (rw g at s.global_sound)) }
  does_writable x (view.withdraws which d is g z room) = record { reference = omega arith; fits = tt }
