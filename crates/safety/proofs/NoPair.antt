-- "no VPCI/VCI available" is sent exactly when a SETUP has passed all earlier checks and no permitted pair is free.
--   wanted_effect         what happens to a SETUP that passed and finds no pair
--   does_wants            what is answered with 45 is such a SETUP
--   no_pair_exactly, sent_exactly
-- Assumes nothing.
use Rattle.std.specs.Prelude.{Some, None}
use Prim.Native.Nat.{ℕ, ◌≤◌}
use mathlib.Core.Path.{◌≡◌, refl, sym, ap, ◌∙◌}
use mathlib.Core.Bool.{true, false}
use mathlib.Core.List.{List, []}
use native.Mathlib.Omega.{arith}
use lib.Dec.{eqb, ltb}
use lib.ListN.{length, get_or}
use borrow.Author.Tests.{eqb-true, eqb-false, ne_eqb, eq-eqb, ltb-false, le-ltb}
use Rattle.std.specs.Prelude.{Ok, Err}
use Rattle.channels.specs.declared.Named.{Named}
use Rattle.channels.proofs.Cases.{by_test, clash}
use Rattle.channels.proofs.Some.{some_at}
use Rattle.calls.specs.Calls.{no_slot, is_empty}
use Rattle.first.specs.First.{place}
use Rattle.first.proofs.First.{placed}
use Rattle.header.specs.declared.Header.{Header}
use Rattle.header.specs.Header.{header_in, head_of}
use Rattle.elements.specs.declared.Read.{Read}
use Rattle.identifier.specs.declared.Pair.{Pair}
use Rattle.replies.specs.declared.Diagnostic.{Diagnostic}
use Rattle.replies.specs.declared.Reply.{Reply}
use Rattle.replies.specs.declared.Reply.TheVariants as reply
use Rattle.replies.specs.declared.Outgoing.TheVariants as outgoing
use Rattle.setup.specs.Setup.{admission}
use Rattle.verdicts.specs.Verdict.{because}
use Rattle.service.specs.Service.{global_number}
use Rattle.effects.specs.declared.Effect.{Effect}
use Rattle.effects.specs.Effect.{replying}
use Rattle.restarts.specs.Own.{named_by}
use Rattle.table.specs.declared.Table.{Table}
use Rattle.table.specs.Effects.{free_pair, no_room}
use Rattle.outcome.specs.Outcome.{Outcome, effect_octets}
use Rattle.control.specs.Events.{heard_by}
use Rattle.control.specs.Happens.{Event, message, happens}
use Rattle.reached.specs.Reached.{Reached}
use Rattle.views.specs.Tables.{NoneFree}
use Rattle.views.specs.Effects.{reading_of, body_of, refusal_of}
use Rattle.views.proofs.Verdicts.{heard, expired}
use Rattle.views.proofs.View as view
use Rattle.safety.specs.Sound.{Sound}
use Rattle.safety.specs.NoPair.{PassedAllChecks, WantsPair, wants, Says45, in_release_complete, no_pair, no_pair_octets, NoPairExactly, SentExactly}
use Rattle.safety.proofs.Tables.{none_free, free_none, empty_at, nothing_named, named_nothing}
use Rattle.safety.proofs.FixedAnswers.{accepted_reply, number}
use Rattle.safety.proofs.Lists.{some_place}
use Rattle.safety.proofs.Changes.{head_is}
use Rattle.safety.proofs.Sound.{reached_sound}
use Rattle.safety.proofs.Cause45.{sends45, unsaid, says_45, Not45, AdmissionNot45, admission_not_45, no_call_not_45, global_not_45, own_not_45, heard_not_45, host_not_45, judged_not_45}

-- A SETUP that passed and finds no pair.
wanted_effect : (t : Table) (label reading room : ℕ) (m : List ℕ) → PassedAllChecks t label reading room m → NoneFree t
    → heard_by t reading m (head_of m) ≡ replying true (header_in m).reference no_pair
wanted_effect t label reading room m p none =
    let head : head_of m ≡ Some (header_in m) = rw (le-ltb _ _ p.long_enough, eq-eqb _ _ p.first_octet, eq-eqb _ _ p.second_octet) in
    let slot =
    some_place is_empty no_slot t.slots.all (place is_empty t.slots.all) refl
    (some_at is_empty no_slot t.slots.all p.empty_slot.0 p.empty_slot.1.0 (rw p.empty_slot.1.1)) in
    rw (
      head,
      ne_eqb _ _ p.not_global,
      p.flag,
      named_nothing t false (header_in m).reference p.no_such_call,
      eq-eqb _ _ p.setup,
      p.whole,
      p.elements,
      slot.1,
      free_none t none,
    )

-- The checks as the paper has them.

head_checks : (m : List ℕ) (h : Header) → head_of m ≡ Some h → (9 ≤ length m) × ((get_or m 0 0 ≡ 0x09) × (get_or m 1 0 ≡ 0x03))
head_checks m h e =
    by_test (ltb (length m) 9)
    (λ a. not_head (rw a at e))
    (λ a. by_test (eqb (get_or m 0 0) 0x09)
    (λ b. by_test (eqb (get_or m 1 0) 0x03)
    (λ c. (ltb-false _ _ a, (eqb-true _ _ b, eqb-true _ _ c)))
    (λ c. not_head (rw (a, b, c) at e)))
    (λ b. not_head (rw (a, b) at e)))
  where
    not_head : {P : Type 0} → None ≡ Some h → P
    not_head z = let w : ◌≡◌ {A = ℕ} 0 1 = cc in absurd (omega arith)

setup_wants : (t : Table) (e : Event) (m : List ℕ) (h : Header) (i : ℕ) → refusal_of t e ≡ 0 → view.IsMessage m h e → view.IsSetup t m h e
    → admission m 9 ≡ Ok tt → place is_empty t.slots.all ≡ Some i → free_pair t ≡ None → WantsPair t e
setup_wants t e m h i zero (view.heard label reading room head) is admitted found none =
    let setup : view.IsSetup t m (header_in m) e = rw (← head_is m h head) at is in
    let checks = head_checks m h head in
    let at = placed is_empty no_slot t.slots.all i found in
    wants label reading room m
    (record {
      accepted = number t e ∙ zero;
      long_enough = checks.0;
      first_octet = checks.1.0;
      second_octet = checks.1.1;
      setup = eqb-true _ _ setup.setup;
      flag = setup.user;
      not_global = eqb-false _ _ setup.not_global;
      no_such_call = nothing_named t false (header_in m).reference (rw setup.user at setup.unnamed);
      whole = setup.whole;
      elements = admitted;
      empty_slot = (i, (at.below, empty_at t i at.passes));
    })
    (none_free t none)

-- Everything that an event can decide.

declined_not_45 : (c : Read Pair) (n : ℕ) (d : Diagnostic) → view.Declined c n d → Not45 (reply.Status 0 (because n d))
declined_not_45 c n d view.no_class = refl
declined_not_45 c n d view.bad_class = refl
declined_not_45 c n d view.no_pair_lem = refl
declined_not_45 c n d view.bad_pair = refl
declined_not_45 c n d (view.barred p v e) = refl

acted_not_45 : (t : Table) (r : Read ℕ) (c : Read Pair) (which : Named) (a : Reply) → view.Names t r c which a → Not45 a
acted_not_45 t r c which a (view.all k e y) = refl
acted_not_45 t r c which a (view.one k p v e n f known fair) = refl

-- on every table, but that a timer sends again what the table holds
does_wants : (t : Table) (e : Event) → (view.IsTick e → Sound t) → refusal_of t e ≡ 0 → (x : Effect) → view.Does t e x → sends45 x.outgoing ≡ true → WantsPair t e
does_wants t e sound zero x view.nothing s = clash s refl
does_wants t e sound zero x (view.no_call m h is) s = clash s (no_call_not_45 m h)
does_wants t e sound zero x (view.global m h is) s = clash s (global_not_45 (global_number t.global.state) h)
does_wants t e sound zero x (view.refuses m h c is a) s = let not : AdmissionNot45 (Err c) = rw a at (admission_not_45 m 9) in clash s not
does_wants t e sound zero x (view.no_slot_lem m h is a f) s = clash s refl
does_wants t e sound zero x (view.no_free m h i is a f g) s = setup_wants t e m h i zero is.its_message is a f g
does_wants t e sound zero x (view.admits m h i p v is a f g) s = clash s refl
does_wants t e sound zero x (view.offers i p v is f g) s = clash s refl
does_wants t e sound zero x (view.judges m h i c q is f g) s = clash s (heard_not_45 (reading_of e) h.kind q _ (heard (reading_of e) m h q))
does_wants t e sound zero x (view.fires i c q is z f g) s =
    clash s
    (judged_not_45 t.last c.network (reading_of e) (no_room t) q _ ((sound is).calls_sound i c q g).state_sound (expired (reading_of e) (no_room t) q))
does_wants t e sound zero x (view.connects i c q is g n) s = clash s refl
does_wants t e sound zero x (view.clears i cause c q is g host) s = clash s (host_not_45 cause host)
does_wants t e sound zero x (view.declines m h n d is a) s = clash s (declined_not_45 _ n d a)
does_wants t e sound zero x (view.restarts m h which a is n) s = clash s (acted_not_45 t _ _ which a n)
does_wants t e sound zero x (view.requests target is w m) s = clash s (own_not_45 (named_by target))
does_wants t e sound zero x (view.acknowledges m h which second d is g same) s = clash s refl
does_wants t e sound zero x (view.puts_back is) s = clash s refl
does_wants t e sound zero x (view.sends_again which second d is g z full) s = clash s (own_not_45 which)
does_wants t e sound zero x (view.withdraws which d is g z room) s = clash s refl

says_wants : (t : Table) (e : Event) → (view.IsTick e → Sound t) → Says45 (happens t e).reply → WantsPair t e
says_wants t e sound =
    view.by_event t e (λ (o : Outcome). Says45 o.reply → WantsPair t e)
    (λ n s. unsaid [] refl s)
    (λ zero x d s. does_wants t e sound zero x d (says_45 x.flag x.reference x.outgoing (body_of e) s))

-- A message.

no_tick : {P : Type 0} (label reading room : ℕ) (m : List ℕ) → view.IsTick (message label reading room m) → P
no_tick label reading room m = elim [ ]

wanted : (t : Table) (label reading room : ℕ) (m : List ℕ) → WantsPair t (message label reading room m) → PassedAllChecks t label reading room m × NoneFree t
wanted t label reading room m (wants _ _ _ _ p none) = (p, none)

module _ (t : Table) (label reading room : ℕ) (m : List ℕ) where
  abbrev event : Event
  event = message label reading room m

  wanted_octets : PassedAllChecks t label reading room m → NoneFree t → (happens t event).reply ≡ no_pair_octets (header_in m).reference
  wanted_octets p none =
      accepted_reply t event (eq-eqb _ _ (sym (number t event) ∙ p.accepted))
      ∙ ap (λ (x : Effect). effect_octets x []) (wanted_effect t label reading room m p none)

  decided_wanted : (happens t event).answer.refusal ≡ 0 → (heard_by t reading m (head_of m)).outgoing ≡ outgoing.Reply no_pair → WantsPair t event
  decided_wanted accepted e =
      let zero = sym (number t event) ∙ accepted in
      does_wants t event (no_tick label reading room m) zero _ (view.does t event zero) (rw e)

  pub no_pair_exactly : NoPairExactly t label reading room m
  no_pair_exactly = record {
    decided = λ p none. ap (λ (x : Effect). x.outgoing) (wanted_effect t label reading room m p none);
    decided_only = λ accepted e. wanted t label reading room m (decided_wanted accepted e);
    sent = wanted_octets;
    sent_only = λ s. wanted t label reading room m (says_wants t event (no_tick label reading room m) s);
  }

-- Every event.

wants_says : (t : Table) (e : Event) → WantsPair t e → Says45 (happens t e).reply
wants_says t e (wants label reading room m p none) = rw (wanted_octets t label reading room m p none) (in_release_complete refl refl)

pub sent_exactly : (t : Table) → Reached t → (e : Event) → SentExactly t e
sent_exactly t r e = record { when = wants_says t e; only = says_wants t e (λ _. reached_sound t r) }
