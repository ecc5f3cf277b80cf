-- Every table that is reached is sound.
--   new_permitted, new_free, new_unnamed     a new call's pair is permitted; no live call has it, nor its flagged reference
--   change_sound               a change of a sound table is sound
--   left, left-refused, left_accepted        the table that an event leaves
--   start_sound, begun_sound, event_keeps_sound, reached_sound
--   never_shared, always_permitted, always_in_limits      "No two live calls hold one VPCI/VCI pair, every assigned VCI lies in 32 to 65535"
-- Assumes nothing.
use Prim.Native.Nat.{ℕ, ◌≤◌}
use mathlib.Core.Path.{◌≡◌, sym, ap, ◌∙◌}
use mathlib.Core.Bool.{true, false}
use mathlib.Core.List.{List, [], ◌∷◌}
use native.Mathlib.Omega.{arith}
use lib.Dec.{eqb}
use lib.ListN.{length-replicate}
use borrow.Author.Tests.{eqb-true, eq-eqb}
use Rattle.channels.specs.Channels.{permitted, in_ranges}
use Rattle.channels.proofs.Cases.{by_test, clash, both}
use Rattle.channels.proofs.Some.{some_at}
use Rattle.pairs.proofs.Laws.{none_in, none_tidy}
use Rattle.provisioning.specs.Provisioning.{provision}
use Rattle.provisioning.proofs.Accepted.{provision_pair}
use Rattle.calls.specs.declared.State.{State}
use Rattle.calls.specs.declared.Call.{Call}
use Rattle.calls.specs.declared.Slot.{Slot}
use Rattle.calls.specs.Calls.{no_slot, is_call}
use Rattle.calls.specs.Timers.{largest_reading}
use Rattle.slots.specs.Slots.{slot_count}
use Rattle.effects.specs.declared.Change as declared
use Rattle.effects.specs.Change.{slots_after}
use Rattle.table.specs.declared.Table.{Table}
use Rattle.table.specs.Effects.{table_after}
use Rattle.outcome.specs.Outcome.{Outcome}
use Rattle.control.specs.Events.{start_of}
use Rattle.control.specs.Happens.{Event, happens, after}
use Rattle.reached.specs.Reached.{Beginning, start, reload, begun, Reached}
use Rattle.views.specs.Tables.{slot_at, HasCall, Holds}
use Rattle.views.specs.Effects.{reading_of, refusal_of, effect_of, outcome_of}
use Rattle.views.proofs.View.{does, happens_is}
use Rattle.safety.specs.Sound.{CallSound, none_sent, Sound}
use Rattle.safety.proofs.Tables.{not_live, live_within, free_permitted, held_not_free}
use Rattle.safety.proofs.Changes.{NewCall, Comes, old, new, Change, accepted_reading, outcome_change}
use Rattle.safety.proofs.Doubtful.{Touched, does_touched, doubts_sound}
use Rattle.safety.proofs.Marks.{marks_sound, global_sound}
use Rattle.safety.proofs.Reloaded.{reload_sound}
use Rattle.safety.proofs.Lists.{get_or-replicate_default}
use Rattle.safety.proofs.Cases.{beq_same, one_place}

module _ (t : Table) (e : Event) (c : Call) (q : State) (n : NewCall t e c q) where
  new_permitted : permitted t.pool c.pair.vpci c.pair.vci ≡ true
  new_permitted = free_permitted t c.pair.vpci c.pair.vci n.pair

  pub new_free : {P : Type 0} → Holds t c.pair.vpci c.pair.vci → P
  new_free h = absurd (held_not_free t c.pair.vpci c.pair.vci h n.pair)

  pub new_unnamed : {P : Type 0} (i : ℕ) (d : Call) (r : State) → HasCall t i d r → d.network ≡ c.network → d.reference ≡ c.reference → P
  new_unnamed i d r h side value =
      let at : is_call c.network c.reference (slot_at t i) ≡ true = rw (h, side, eq-eqb _ _ value, beq_same c.network) in
      clash (some_at (is_call c.network c.reference) no_slot t.slots.all i (live_within t i d r h) at) n.unnamed

module _ (t : Table) (e : Event) (s : Sound t) (order : t.last ≤ reading_of e) (high : reading_of e ≤ largest_reading) (x : declared.Change) (change : Change t e (slots_after x t.slots).all)
    (touched : Touched t (reading_of e) x) where
  abbrev u : Table
  u = table_after t (reading_of e) x

  call_sound : (j : ℕ) (c : Call) (r : State) → Comes t e j c r → CallSound u c r
  call_sound j c r (old q h f) =
      let k = s.calls_sound j c q h in
      record {
        pair_permitted = k.pair_permitted;
        vpci_high = k.vpci_high;
        vci_low = k.vci_low;
        vci_high = k.vci_high;
        not_global = k.not_global;
        state_sound = f k.state_sound;
      }
  call_sound j c r (new n h) =
      let k = s.numbers c.pair.vpci c.pair.vci (new_permitted t e c r n) in
      record {
        pair_permitted = new_permitted t e c r n;
        vpci_high = k.0;
        vci_low = k.1;
        vci_high = k.2;
        not_global = n.not_global;
        state_sound = n.state;
      }

  pair_once : (i j : ℕ) (c d : Call) (q r : State) → Comes t e i c q → Comes t e j d r → c.pair.vpci ≡ d.pair.vpci → c.pair.vci ≡ d.pair.vci → i ≡ j
  pair_once i j c d q r (old a h f) (old b k g) p v = s.pair_once i j c d a b h k p v
  pair_once i j c d q r (old a h f) (new n place) p v = new_free t e d r n (record { slot = i; call = c; state = a; live = h; pair = record { vpci = p; vci = v } })
  pair_once i j c d q r (new n place) (old b k g) p v =
      new_free t e c q n (record { slot = j; call = d; state = b; live = k; pair = record { vpci = sym p; vci = sym v } })
  pair_once i j c d q r (new n place) (new m found) p v = one_place i j (sym place ∙ found)

  reference_once : (i j : ℕ) (c d : Call) (q r : State) → Comes t e i c q → Comes t e j d r → c.network ≡ d.network → c.reference ≡ d.reference → i ≡ j
  reference_once i j c d q r (old a h f) (old b k g) p v = s.reference_once i j c d a b h k p v
  reference_once i j c d q r (old a h f) (new n place) p v = new_unnamed t e d r n i c a h p v
  reference_once i j c d q r (new n place) (old b k g) p v = new_unnamed t e c q n j d b k (sym p) (sym v)
  reference_once i j c d q r (new n place) (new m found) p v = one_place i j (sym place ∙ found)

  pub change_sound : Sound u
  change_sound =
      let doubts = doubts_sound t e s x change touched in
      let out = marks_sound t e s x change touched in
      record {
        has_slots = change.size ∙ s.has_slots;
        last_high = high;
        numbers = s.numbers;
        calls_sound = λ i c q h. call_sound i c q (change.comes i c q h);
        pair_once = λ i j c d q r h k. pair_once i j c d q r (change.comes i c q h) (change.comes j d r k);
        reference_once = λ i j c d q r h k. reference_once i j c d q r (change.comes i c q h) (change.comes j d r k);
        doubts_tidy = doubts.in_order;
        doubt_permitted = doubts.permits;
        doubt_not_held = doubts.not_held;
        marks_tidy = out.in_order;
        mark_permitted = out.permits;
        out_not_held = out.not_held;
        out_not_doubtful = out.not_doubtful;
        global_sound = global_sound t e s order x touched;
      }

-- One event.

abbrev pub left : Table → Event → Table
left t e = (happens t e).answer.table

pub left-refused : (t : Table) (e : Event) → eqb (refusal_of t e) 0 ≡ false → left t e ≡ t
left-refused t e n = ap (λ (o : Outcome). o.answer.table) (happens_is t e) ∙ rw n

pub left_accepted : (t : Table) (e : Event) → eqb (refusal_of t e) 0 ≡ true → left t e ≡ (outcome_of t e).answer.table
left_accepted t e y = ap (λ (o : Outcome). o.answer.table) (happens_is t e) ∙ rw y

pub event_keeps_sound : (t : Table) (e : Event) → Sound t → Sound (happens t e).answer.table
event_keeps_sound t e s =
    by_test (eqb (refusal_of t e) 0)
    (λ y.
    let z = eqb-true (refusal_of t e) 0 y in
    let x = (effect_of t e).change in
    let reading = accepted_reading t e z in
    rw (left_accepted t e y)
    (change_sound t e s reading.0 reading.1 x (outcome_change t e z) (does_touched t e s.global_sound (effect_of t e) (does t e z))))
    (λ n. rw (left-refused t e n) s)

-- Start.

pub no_call : {P : Type 0} (ranges pairs : List ℕ) (j : ℕ) (c : Call) (q : State) → HasCall (start_of ranges pairs).table j c q → P
no_call ranges pairs j c q h = not_live c q (ap (λ (s : Slot). s.hold) (sym (get_or-replicate_default slot_count j no_slot)) ∙ h)

pub start_sound : (ranges pairs : List ℕ) → Sound (start_of ranges pairs).table
start_sound ranges pairs = record {
  has_slots = length-replicate slot_count no_slot;
  last_high = omega arith;
  numbers = λ p v h.
      let k = provision_pair ranges pairs p v (both (in_ranges p v (provision ranges pairs).pool.ranges) _ h).0 in
      (k.vpci_high, k.low, k.high);
  calls_sound = λ i c q h. no_call ranges pairs i c q h;
  pair_once = λ i j c d q r h k p v. no_call ranges pairs i c q h;
  reference_once = λ i j c d q r h k p v. no_call ranges pairs i c q h;
  doubts_tidy = none_tidy;
  doubt_permitted = λ p v h. clash h (none_in p v);
  doubt_not_held = λ p v h k. clash h (none_in p v);
  marks_tidy = none_tidy;
  mark_permitted = λ p v h. clash h (none_in p v);
  out_not_held = λ p v h k. clash h (none_in p v);
  out_not_doubtful = λ p v h k. clash h (none_in p v);
  global_sound = none_sent;
}

-- All events after it.

pub after_sound : (t : Table) (es : List Event) → Sound t → Sound (after t es)
after_sound t [] s = s
after_sound t (e ∷ es) s = after_sound (happens t e).answer.table es (event_keeps_sound t e s)

pub begun_sound : (b : Beginning) → (begun b).refusal ≡ 0 → Sound (begun b).table
begun_sound (start ranges pairs) e = start_sound ranges pairs
begun_sound (reload form) e = reload_sound form e

pub reached_sound : (t : Table) → Reached t → Sound t
reached_sound t r = rw r.gives at (after_sound (begun r.beginning).table r.events (begun_sound r.beginning r.accepted))

-- "No two live calls hold one VPCI/VCI pair"
pub never_shared : (t : Table) → Reached t → (i j : ℕ) (c d : Call) (q r : State) → HasCall t i c q → HasCall t j d r → c.pair.vpci ≡ d.pair.vpci → c.pair.vci ≡ d.pair.vci → i ≡ j
never_shared t r = (reached_sound t r).pair_once

pub always_permitted : (t : Table) → Reached t → (i : ℕ) (c : Call) (q : State) → HasCall t i c q → permitted t.pool c.pair.vpci c.pair.vci ≡ true
always_permitted t r i c q h = ((reached_sound t r).calls_sound i c q h).pair_permitted

-- "every assigned VCI lies in 32 to 65535"
pub always_in_limits : (t : Table) → Reached t → (i : ℕ) (c : Call) (q : State) → HasCall t i c q → (32 ≤ c.pair.vci) × (c.pair.vci ≤ 65535)
always_in_limits t r i c q h = let k = (reached_sound t r).calls_sound i c q h in (k.vci_low, k.vci_high)
