-- What an event leaves in the slots: each live call was there, in the same slot, or is new; a sound state goes to a sound one.
--   Source              where an event takes a new call's reference from
--   NewCall, Comes      what a new call has; where a live call of the changed slots comes from
--   Change              a list of slots is what an event leaves of a table
--   later               a sound state is sound at a later reading
--   verdict_change      what a verdict on a live call leaves
--   does_change         what every event leaves
--   accepted_reading    an accepted event's reading is neither too large nor too early
-- Assumes nothing.
use Rattle.identifier.specs.Pair.{pair}
use Rattle.std.specs.Prelude.{Some, None}
use Prim.Native.Nat.{ℕ, ◌+◌, ◌≤◌}
use mathlib.Core.Path.{◌≡◌, refl, sym, ap, ◌∙◌}
use mathlib.Core.Logic.{⊎_elim, ◌≢◌}
use mathlib.Core.Bool.{Bool, true, false}
use mathlib.Core.List.{List, map}
use native.Mathlib.Omega.{arith}
use lib.Dec.{eqb, ltb}
use lib.ListN.{length, get_or, set, length-set, length-map}
use borrow.Author.Tests.{eqb-false, ltb-false, ltb-true}
use Rattle.std.specs.List.{list_any}
use Rattle.channels.proofs.Cases.{by_test}
use Rattle.calls.specs.declared.Clearing.{Clearing}
use Rattle.calls.specs.declared.State.{State}
use Rattle.calls.specs.declared.State.TheVariants.{N3, N6, N9, N10, N12}
use Rattle.calls.specs.declared.Call.{Call}
use Rattle.calls.specs.declared.Hold.TheVariants.{Live}
use Rattle.calls.specs.declared.Slot.{Slot}
use Rattle.calls.specs.Calls.{no_slot, live_slot, is_empty, is_call, is_named, emptied}
use Rattle.calls.specs.Timers.{largest_reading, t303, t308, t310}
use Rattle.first.specs.First.{place}
use Rattle.first.proofs.First.{unplaced}
use Rattle.slots.specs.Slots.{unused_reference}
use Rattle.slots.proofs.Unused.{unused_found, unused_is_unused}
use Rattle.header.specs.declared.Header.{Header}
use Rattle.header.specs.Header.{header_in, head_of}
use Rattle.verdicts.specs.declared.Verdict.{Verdict}
use Rattle.effects.specs.declared.Effect.{Effect}
use Rattle.effects.specs.Change.{slots_after}
use Rattle.effects.specs.Effect.{fated}
use Rattle.table.specs.declared.Table.{Table}
use Rattle.table.specs.Effects.{free_pair, user_call, no_room}
use Rattle.commands.specs.Commands.{network_call}
use Rattle.control.specs.Happens.{Event, message, tick, connect, clear, offer, restart, put_marks_back}
use Rattle.views.specs.Tables.{HasCall}
use Rattle.views.specs.Effects.{reading_of, common_of, own_of, refusal_of, effect_of}
use Rattle.views.proofs.Verdicts as verdict
use Rattle.views.proofs.View as view
use Rattle.safety.specs.Sound.{StateSound, in_N3, in_N6, in_N9, in_N10, by_host, by_timer}
use Rattle.safety.proofs.Tables.{not_live}
use Rattle.safety.proofs.Refusals.{too_large_reaches, too_early_reaches}
use Rattle.safety.proofs.Lists.{set_case, get_d_map}

abbrev pub Source : Table → Event → ℕ → Type 0
Source t (message label reading room octets) r = r ≡ (header_in octets).reference
Source t (tick label reading room) r = ⊥
Source t (connect label reading room slot) r = ⊥
Source t (clear label reading room slot cause) r = ⊥
Source t (offer label reading room body) r = r ≡ unused_reference t.slots.all
Source t (restart label reading room target) r = ⊥
Source t (put_marks_back label reading room) r = ⊥

pub record NewCall (t : Table) (e : Event) (c : Call) (q : State) : Type 0 where
  pub pair : free_pair t ≡ Some c.pair
  pub unnamed : list_any (is_call c.network c.reference) t.slots.all ≡ false
  pub not_global : c.reference ≢ 0
  pub state : StateSound (reading_of e) c.network q
  pub source : Source t e c.reference

pub data Comes (t : Table) (e : Event) (j : ℕ) (c : Call) (r : State) : Type 0 where
  old : (q : State) → HasCall t j c q → (StateSound t.last c.network q → StateSound (reading_of e) c.network r) → Comes t e j c r
  new : NewCall t e c r → place is_empty t.slots.all ≡ Some j → Comes t e j c r

pub record Change (t : Table) (e : Event) (ss : List Slot) : Type 0 where
  pub size : length ss ≡ length t.slots.all
  pub comes : (j : ℕ) (c : Call) (q : State) → (get_or ss j no_slot).hold ≡ Live c q → Comes t e j c q

-- States.

pub later : (last reading : ℕ) → last ≤ reading → (n : Bool) (q : State) → StateSound last n q → StateSound reading n q
later last reading h n q in_N3 = in_N3
later last reading h n q (in_N6 d below) = in_N6 d (omega arith)
later last reading h n q (in_N9 d below) = in_N9 d (omega arith)
later last reading h n q (in_N10 m) = in_N10 m
later last reading h n q (by_host m k d below host plain) = by_host m k d (omega arith) host plain
later last reading h n q (by_timer k d below cause timed) = by_timer k d (omega arith) cause timed

module _ (last reading : ℕ) where
  abbrev again : Clearing → Clearing
  again k = record { second = true; cause = k.cause; expired = k.expired }

  -- "CALL PROCEEDING: N6 to N9, T310."
  proceeding : (n : Bool) (d : ℕ) → StateSound last n (N6 d) → StateSound reading n (N9 (reading + t310))
  proceeding n d (in_N6 _ below) = in_N9 (reading + t310) (omega arith)

  -- "T310 10,000: RELEASE 102, diagnostic "310", N12, T308."
  timed_out : (n : Bool) (d : ℕ) → StateSound last n (N9 d) → StateSound reading n (N12 (record { second = false; cause = 102; expired = true }) (reading + t308))
  timed_out n d (in_N9 _ below) = by_timer (record { second = false; cause = 102; expired = true }) (reading + t308) (omega arith) refl refl

  -- "first, RELEASE with the first cause and diagnostic again and T308"
  sent_again : (n : Bool) (k : Clearing) (d : ℕ) → StateSound last n (N12 k d) → StateSound reading n (N12 (again k) (reading + t308))
  sent_again n k d (by_host _ _ _ below host plain) = by_host n (again k) (reading + t308) (omega arith) host plain
  sent_again n k d (by_timer _ _ below cause timed) = by_timer (again k) (reading + t308) (omega arith) cause timed

-- Slots.

module _ (t : Table) (e : Event) (order : t.last ≤ reading_of e) where
  kept : (n : Bool) (q : State) → StateSound t.last n q → StateSound (reading_of e) n q
  kept = later t.last (reading_of e) order

  stayed : (j : ℕ) (c : Call) (q : State) → HasCall t j c q → Comes t e j c q
  stayed j c q h = old q h (kept c.network q)

  still : Change t e t.slots.all
  still = record { size = refl; comes = stayed }

  -- slot i is set to s
  set_change : (i : ℕ) (s : Slot) → ((c : Call) (q : State) → s.hold ≡ Live c q → Comes t e i c q) → Change t e (set t.slots.all i s)
  set_change i s f = record {
    size = length-set t.slots.all i s;
    comes = λ j c q h.
        ⊎_elim
        (λ (u : get_or (set t.slots.all i s) j no_slot ≡ get_or t.slots.all j no_slot). stayed j c q (ap (λ (x : Slot). x.hold) (sym u) ∙ h))
        (λ (u : (i ≡ j) × (get_or (set t.slots.all i s) j no_slot ≡ s)). rw u.0 at (f c q (ap (λ (x : Slot). x.hold) (sym u.1) ∙ h)))
        (set_case t.slots.all i s j no_slot);
  }

  live_same : (c d : Call) (q r : State) → Live c q ≡ Live d r → (c ≡ d) × (q ≡ r)
  live_same c d q r h = (cc, cc)

  -- a live call, in another state
  moved_change : (i : ℕ) (c : Call) (q r : State) → HasCall t i c q → (StateSound t.last c.network q → StateSound (reading_of e) c.network r)
      → Change t e (set t.slots.all i (live_slot c r))
  moved_change i c q r h f =
      let o : Comes t e i c r = old q h f in
      set_change i (live_slot c r) (λ d s g. let same = live_same c d r s g in rw (same.0, same.1) at o)

  gone_change : (i : ℕ) → Change t e (set t.slots.all i no_slot)
  gone_change i = set_change i no_slot (λ d s g. not_live d s g)

  new_change : (i : ℕ) (c : Call) (r : State) → place is_empty t.slots.all ≡ Some i → NewCall t e c r → Change t e (set t.slots.all i (live_slot c r))
  new_change i c r h n =
      let o : Comes t e i c r = new n h in
      set_change i (live_slot c r) (λ d s g. let same = live_same c d r s g in rw (same.0, same.1) at o)

  emptied_change : (p : Slot → Bool) → Change t e (map (emptied p) t.slots.all)
  emptied_change p = record {
    size = length-map t.slots.all (emptied p);
    comes = λ j c q h.
        let f = get_d_map (emptied p) no_slot (by_test (p no_slot) (λ y. rw y) (λ n. rw n)) t.slots.all j in
        let g = ap (λ (x : Slot). x.hold) (sym f) ∙ h in
        by_test (p (get_or t.slots.all j no_slot)) (λ y. not_live c q (rw y at g)) (λ n. stayed j c q (rw n at g));
  }

  -- a verdict on the live call of slot i
  pub verdict_change : (full : Bool) (i : ℕ) (c : Call) (q : State) (v : Verdict) → HasCall t i c q → verdict.Judged (reading_of e) full q v
      → Change t e (slots_after (fated i c v.fate) t.slots).all
  verdict_change full i c q v h (verdict.stays k a s) = still
  verdict_change full i c q v h (verdict.proceeds d g) = moved_change i c q _ h (λ s. proceeding t.last (reading_of e) c.network d (rw g at s))
  verdict_change full i c q v h (verdict.connects a) = moved_change i c q _ h (λ s. in_N10 c.network)
  verdict_change full i c q v h (verdict.releases m) = gone_change i
  verdict_change full i c q v h verdict.ends = gone_change i
  verdict_change full i c q v h (verdict.times_out d g) = moved_change i c q _ h (λ s. timed_out t.last (reading_of e) c.network d (rw g at s))
  verdict_change full i c q v h (verdict.sends_again k d g first) = moved_change i c q _ h (λ s. sent_again t.last (reading_of e) c.network k d (rw g at s))
  verdict_change full i c q v h (verdict.waits k d g second room) = moved_change i c q _ h (λ s. sent_again t.last (reading_of e) c.network k d (rw g at s))
  verdict_change full i c q v h (verdict.loses k d g second room) = gone_change i

-- New calls.

pub head_is : (m : List ℕ) (h : Header) → head_of m ≡ Some h → header_in m ≡ h
head_is m h e =
    by_test (ltb (length m) 9)
    (λ a. not_head h (rw a at e))
    (λ a. by_test (eqb (get_or m 0 0) 0x09)
    (λ b. by_test (eqb (get_or m 1 0) 0x03)
    (λ c. is_header (header_in m) h (rw (a, b, c) at e))
    (λ c. not_head h (rw (a, b, c) at e)))
    (λ b. not_head h (rw (a, b) at e)))
  where
    not_head : {P : Type 0} (h : Header) → None ≡ Some h → P
    not_head h e = let z : ◌≡◌ {A = ℕ} 0 1 = cc in absurd (omega arith)

    is_header : (g h : Header) → Some g ≡ Some h → g ≡ h
    is_header g h e = cc

setup_source : (t : Table) (e : Event) (m : List ℕ) (h : Header) → view.IsMessage m h e → Source t e h.reference
setup_source t e m h (view.heard label reading room head) = ap (λ (g : Header). g.reference) (sym (head_is m h head))

user_new : (t : Table) (e : Event) (m : List ℕ) (h : Header) (p v : ℕ) → view.IsSetup t m h e → free_pair t ≡ Some (pair p v) → NewCall t e (user_call h.reference p v) N3
user_new t e m h p v s free = record {
  pair = free;
  unnamed = rw s.user at (unplaced (is_call h.flag h.reference) no_slot t.slots.all s.unnamed).some;
  not_global = eqb-false h.reference 0 s.not_global;
  state = in_N3;
  source = setup_source t e m h s.its_message;
}

offer_source : (t : Table) (e : Event) → view.IsOffer e → Source t e (unused_reference t.slots.all)
offer_source t e (view.is_offer label reading room body) = refl

network_new : (t : Table) (e : Event) (p v : ℕ) → view.IsOffer e → free_pair t ≡ Some (pair p v)
    → NewCall t e (network_call (unused_reference t.slots.all) p v) (N6 (reading_of e + t303))
network_new t e p v is free =
    let u = unused_found (length t.slots.all) 1 t.slots.all in
    record {
      pair = free;
      unnamed = unused_is_unused t.slots.all;
      not_global = λ z. omega (arith, u.low);
      state = in_N6 (reading_of e + t303) (omega arith);
      source = offer_source t e is;
    }

-- Every event.

pub does_change : (t : Table) (e : Event) → t.last ≤ reading_of e → (x : Effect) → view.Does t e x → Change t e (slots_after x.change t.slots).all
does_change t e order x view.nothing = still t e order
does_change t e order x (view.no_call m h is) = still t e order
does_change t e order x (view.global m h is) = still t e order
does_change t e order x (view.refuses m h c is a) = still t e order
does_change t e order x (view.no_slot_lem m h is a f) = still t e order
does_change t e order x (view.no_free m h i is a f g) = still t e order
does_change t e order x (view.admits m h i p v is a f g) = new_change t e order i _ N3 f (user_new t e m h p v is g)
does_change t e order x (view.offers i p v is f g) = new_change t e order i _ _ f (network_new t e p v is g)
does_change t e order x (view.judges m h i c q is f g) =
    verdict_change t e order true i c q _ g (verdict.judged (reading_of e) true m h q)
does_change t e order x (view.fires i c q is z f g) = verdict_change t e order (no_room t) i c q _ g (verdict.expired (reading_of e) (no_room t) q)
does_change t e order x (view.connects i c q is g s) = moved_change t e order i c q N10 g (λ _. in_N10 c.network)
does_change t e order x (view.clears i cause c q is g host) =
    moved_change t e order i c q _ g (λ _. by_host c.network (record { second = false; cause = cause; expired = false }) (reading_of e + t308) (omega arith) host refl)
does_change t e order x (view.declines m h n d is a) = still t e order
does_change t e order x (view.restarts m h which a is n) = emptied_change t e order (is_named which)
does_change t e order x (view.requests target is w m) = still t e order
does_change t e order x (view.acknowledges m h which second d is g same) = emptied_change t e order (is_named which)
does_change t e order x (view.puts_back is) = still t e order
does_change t e order x (view.sends_again which second d is g z full) = still t e order
does_change t e order x (view.withdraws which d is g z room) = emptied_change t e order (is_named which)

pub accepted_reading : (t : Table) (e : Event) → refusal_of t e ≡ 0 → (t.last ≤ reading_of e) × (reading_of e ≤ largest_reading)
accepted_reading t e h =
    let common = (view.or_else_both (common_of t e) (own_of t e) h).0 in (
      by_test (ltb (reading_of e) t.last)
          (λ y. let r = too_early_reaches t e (ltb-true _ _ y) in absurd (omega arith))
          (λ n. ltb-false _ _ n),
      by_test (ltb largest_reading (reading_of e))
          (λ y. let r = too_large_reaches t e (ltb-true _ _ y) in absurd (omega arith))
          (λ n. ltb-false _ _ n),
    )

pub outcome_change : (t : Table) (e : Event) → refusal_of t e ≡ 0 → Change t e (slots_after (effect_of t e).change t.slots).all
outcome_change t e h = does_change t e (accepted_reading t e h).0 (effect_of t e) (view.does t e h)
