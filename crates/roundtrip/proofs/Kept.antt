-- A sound table's slots are all kept.
--   sound_state        its states with their timers, sides and causes
--   only_place         the one slot that passes a test is the first
--   sound_kept         every slot
-- Assumes nothing.
use Rattle.std.specs.Prelude.{Option, Some, None}
use Prim.Native.Nat.{ℕ, zero, suc, ◌<◌}
use mathlib.Core.Path.{◌≡◌, refl}
use mathlib.Core.Bool.{Bool, true}
use mathlib.Core.List.{List}
use lib.ListN.{length, get_or}
use borrow.Author.Tests.{eq-eqb, ne_eqb, le-leb}
use Rattle.channels.proofs.Cases.{clash}
use Rattle.channels.proofs.Some.{some_at}
use Rattle.provisioning.specs.Provisioning.{all_below}
use Rattle.calls.specs.declared.State.{State}
use Rattle.calls.specs.declared.Call.{Call}
use Rattle.calls.specs.declared.Hold.{Hold}
use Rattle.calls.specs.declared.Hold.TheVariants.{Empty, Live}
use Rattle.calls.specs.declared.Slot.{Slot}
use Rattle.calls.specs.Calls.{no_slot, refers_to, pair_held, is_call, holds_pair}
use Rattle.calls.proofs.Calls.{call_named}
use Rattle.first.specs.First.{place}
use Rattle.first.proofs.First.{placed, unplaced}
use Rattle.table.specs.declared.Table.{Table}
use Rattle.rules.specs.Rules.{state_kept, is_at, call_kept, hold_kept, slot_kept}
use Rattle.views.specs.Tables.{slot_at, HasCall}
use Rattle.safety.specs.Sound.{StateSound, in_N3, in_N6, in_N9, in_N10, by_host, by_timer, Sound}
use Rattle.safety.proofs.Cases.{beq_same}
use Rattle.safety.proofs.Tables.{live_within, on_pair_lem, holds_at}

pub sound_state : (last : ℕ) (network : Bool) (q : State) → StateSound last network q → state_kept last network q ≡ true
sound_state last network q in_N3 = refl
sound_state last network q (in_N6 d h) = le-leb d _ h
sound_state last network q (in_N9 d h) = le-leb d _ h
sound_state last network q (in_N10 n) = refl
sound_state last network q (by_host n k d h cause x) = rw (x, le-leb d _ h, cause)
sound_state last network q (by_timer k d h cause x) = rw (x, le-leb d _ h, cause)

-- one slot alone passes: the search finds it
only_place : (q : Slot → Bool) (ss : List Slot) (i : ℕ) → i < length ss → q (get_or ss i no_slot) ≡ true
    → ((j : ℕ) → q (get_or ss j no_slot) ≡ true → j ≡ i) → (x : Option ℕ) → place q ss ≡ x → is_at i x ≡ true
only_place q ss i h e once None found = clash (some_at q no_slot ss i h e) (unplaced q no_slot ss found).some
only_place q ss i h e once (Some j) found = eq-eqb j i (once j (placed q no_slot ss j found).passes)

module _ (t : Table) (s : Sound t) (i : ℕ) (c : Call) (q : State) (h : HasCall t i c q) where
  on_pair_once : (j : ℕ) (x : Hold) → (slot_at t j).hold ≡ x → pair_held c.pair.vpci c.pair.vci x ≡ true → j ≡ i
  on_pair_once j Empty g e = clash e refl
  on_pair_once j (Live d r) g e = let o = on_pair_lem c.pair.vpci c.pair.vci d r e in s.pair_once j i d c r q g h o.vpci o.vci

  named_once : (j : ℕ) (x : Hold) → (slot_at t j).hold ≡ x → refers_to c.network c.reference x ≡ true → j ≡ i
  named_once j Empty g e = clash e refl
  named_once j (Live d r) g e = let o = call_named c.network c.reference d r e in s.reference_once j i d c r q g h o.side o.value

  call_kept_lem : call_kept t i c q ≡ true
  call_kept_lem =
      let k = s.calls_sound i c q h in
      let within = live_within t i c q h in
      let pair : holds_pair c.pair.vpci c.pair.vci (slot_at t i) ≡ true = holds_at t i c.pair.vpci c.pair.vci c q h (record { vpci = refl; vci = refl }) in
      let name : is_call c.network c.reference (slot_at t i) ≡ true = rw (h, beq_same c.network, eq-eqb c.reference c.reference refl) in
      let first-pair = only_place (holds_pair c.pair.vpci c.pair.vci) t.slots.all i within pair (λ j e. on_pair_once j _ refl e) _ refl in
      let first-name = only_place (is_call c.network c.reference) t.slots.all i within name (λ j e. named_once j _ refl e) _ refl in
      rw (ne_eqb c.reference 0 k.not_global, first-pair, first-name, k.pair_permitted) (sound_state t.last c.network q k.state_sound)

hold_kept_lem : (t : Table) → Sound t → (i : ℕ) (x : Hold) → (slot_at t i).hold ≡ x → hold_kept t i x ≡ true
hold_kept_lem t s i Empty h = refl
hold_kept_lem t s i (Live c q) h = call_kept_lem t s i c q h

pub sound_kept : (t : Table) → Sound t → (n : ℕ) → all_below (slot_kept t) n ≡ true
sound_kept t s zero = refl
sound_kept t s (suc n) = rw (sound_kept t s n) (hold_kept_lem t s n (slot_at t n).hold refl)
