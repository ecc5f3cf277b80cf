-- What the searches over a table say of it.
--   live_within             a live call is in one of the table's slots
--   held_some, some_held    a live call holds a pair if and only if some slot does
--   none_free, free_none    no pair is found if and only if no permitted pair is free
--   free_permitted          the pair that is found is permitted
--   held_not_free, doubt_not_free, out_not_free, named_not_free     and none that is held, in doubt, out of service, or named by our RESTART
--   none_empty, empty_none  no empty slot is found if and only if none is empty
--   empty_at                a slot that the search takes for empty is the empty one
--   nothing_named, named_nothing    no call is found if and only if there is no such call
-- Assumes nothing.
use Rattle.std.specs.Prelude.{Some, None}
use Prim.Native.Nat.{ℕ, ◌<◌}
use mathlib.Core.Path.{◌≡◌, refl, ap}
use mathlib.Core.Logic.{◌⊎◌, ◌≢◌, inl, inr, ⊎_elim}
use mathlib.Core.Bool.{Bool, true, false, ◌||◌}
use native.Mathlib.Omega.{arith}
use lib.Dec.{eqb}
use lib.ListN.{length}
use borrow.Author.Tests.{eqb-true, eq-eqb}
use Rattle.std.specs.List.{list_any}
use Rattle.pairs.specs.Pairs.{in_pairs}
use Rattle.identifier.specs.Pair.{pair}
use Rattle.channels.specs.Channels.{permitted}
use Rattle.channels.proofs.Cases.{by_test, clash, both}
use Rattle.channels.proofs.Some.{some_at, some_none}
use Rattle.service.specs.Service.{under_restart, is_out}
use Rattle.search.proofs.Free as free
use Rattle.calls.specs.declared.State.{State}
use Rattle.calls.specs.declared.Call.{Call}
use Rattle.calls.specs.declared.Hold.{Hold}
use Rattle.calls.specs.declared.Hold.TheVariants.{Empty, Live}
use Rattle.calls.specs.Calls.{no_slot, is_empty, empty_hold, pair_held, holds_pair, refers_to, is_call}
use Rattle.calls.proofs.Calls.{call_named}
use Rattle.first.specs.First.{place}
use Rattle.first.proofs.First.{unplaced, some_nothing}
use Rattle.table.specs.declared.Table.{Table}
use Rattle.table.specs.Effects.{free_pair}
use Rattle.views.specs.Tables.{HasSlots, slot_at, HasCall, NoneEmpty, OnPair, Holds, InDoubt, IsOut, UnderRestart, NoneFree}
use Rattle.safety.specs.NoPair.{NoSuchCall}
use Rattle.safety.proofs.Lists.{some_found, passes_within}
use Rattle.safety.proofs.Cases.{beq_same, either, one_passes}

-- an empty slot holds no call
pub not_live : {P : Type 0} (c : Call) (q : State) → Empty ≡ Live c q → P
not_live c q e = let z : ◌≡◌ {A = ℕ} 0 1 = cc in absurd (omega arith)

live_not_empty : (h : Hold) (c : Call) (q : State) → h ≡ Live c q → empty_hold h ≡ false
live_not_empty Empty c q e = not_live c q e
live_not_empty (Live d r) c q e = refl

not_empty_live : (h : Hold) → empty_hold h ≡ false → (c : Call) × ((q : State) × (h ≡ Live c q))
not_empty_live Empty e = clash refl e
not_empty_live (Live c q) e = (c, (q, refl))

pub on_pair_lem : (p v : ℕ) (c : Call) (q : State) → pair_held p v (Live c q) ≡ true → OnPair p v c
on_pair_lem p v c q e =
    let a = both (eqb c.pair.vpci p) _ e in
    record { vpci = eqb-true _ _ a.0; vci = eqb-true _ _ a.1 }

pub pair_on : (p v : ℕ) (c : Call) (q : State) → OnPair p v c → pair_held p v (Live c q) ≡ true
pair_on p v c q o = rw (eq-eqb _ _ o.vpci, eq-eqb _ _ o.vci)

pub hold_on : (p v : ℕ) (h : Hold) → pair_held p v h ≡ true → (c : Call) × ((q : State) × ((h ≡ Live c q) × OnPair p v c))
hold_on p v Empty e = clash e refl
hold_on p v (Live c q) e = (c, (q, (refl, on_pair_lem p v c q e)))

module _ (t : Table) where
  pub holds_at : (i p v : ℕ) (c : Call) (q : State) → HasCall t i c q → OnPair p v c → holds_pair p v (slot_at t i) ≡ true
  holds_at i p v c q h o = rw h (pair_on p v c q o)

  pub live_within : (i : ℕ) (c : Call) (q : State) → HasCall t i c q → i < length t.slots.all
  live_within i c q h =
      passes_within (holds_pair c.pair.vpci c.pair.vci) no_slot t.slots.all i refl
      (holds_at i c.pair.vpci c.pair.vci c q h (record { vpci = refl; vci = refl }))

  pub held_some : (p v : ℕ) → Holds t p v → list_any (holds_pair p v) t.slots.all ≡ true
  held_some p v h =
      let at = holds_at h.slot p v h.call h.state h.live h.pair in
      some_at (holds_pair p v) no_slot t.slots.all h.slot (passes_within (holds_pair p v) no_slot t.slots.all h.slot refl at) at

  pub some_held : (p v : ℕ) → list_any (holds_pair p v) t.slots.all ≡ true → Holds t p v
  some_held p v e =
      let f = some_found (holds_pair p v) no_slot t.slots.all e in
      let h = hold_on p v (slot_at t f.0).hold f.1.1 in
      record { slot = f.0; call = h.0; state = h.1.0; live = h.1.1.0; pair = h.1.1.1 }

  pub none_free : free_pair t ≡ None → NoneFree t
  none_free e p v permitted =
      let doubtful = in_pairs t.doubts p v in
      let out = is_out t.out p v in
      let named = under_restart t.global.state p v in
      either (list_any (holds_pair p v) t.slots.all) (doubtful || (out || named))
      (free.none_free t.slots.all t.doubts t.out t.global.state t.pool e p v permitted)
      (λ y. inl (some_held p v y))
      (λ y. inr (either doubtful (out || named) y (λ a. inl a) (λ z. inr (either out named z (λ a. inl a) (λ a. inr a)))))

  pub free_none : NoneFree t → free_pair t ≡ None
  free_none h =
      free.none_left t.slots.all t.doubts t.out t.global.state t.pool
      (λ p v permitted.
      ⊎_elim
      (λ (y : Holds t p v). rw (held_some p v y))
      (λ (n : InDoubt t p v ⊎ (IsOut t p v ⊎ UnderRestart t p v)).
      one_passes (list_any (holds_pair p v) t.slots.all) _
      (⊎_elim
      (λ (y : InDoubt t p v). rw y)
      (λ (m : IsOut t p v ⊎ UnderRestart t p v).
      one_passes (in_pairs t.doubts p v) _
      (⊎_elim (λ (y : IsOut t p v). rw y) (λ (y : UnderRestart t p v). one_passes (is_out t.out p v) _ y) m))
      n))
      (h p v permitted))

  -- what a new call does not get
  module _ (p v : ℕ) where
    is_free : free_pair t ≡ Some (pair p v) → free.Free t.slots.all t.doubts t.out t.global.state t.pool p v
    is_free e = free.free_permitted t.slots.all t.doubts t.out t.global.state t.pool p v e

    pub free_permitted : free_pair t ≡ Some (pair p v) → permitted t.pool p v ≡ true
    free_permitted e = (is_free e).permits

    pub held_not_free : Holds t p v → free_pair t ≢ Some (pair p v)
    held_not_free h e = clash (held_some p v h) (is_free e).not_held

    pub doubt_not_free : InDoubt t p v → free_pair t ≢ Some (pair p v)
    doubt_not_free d e = clash d (is_free e).not_doubtful

    pub out_not_free : IsOut t p v → free_pair t ≢ Some (pair p v)
    out_not_free o e = clash o (is_free e).not_out

    pub named_not_free : UnderRestart t p v → free_pair t ≢ Some (pair p v)
    named_not_free n e = clash n (is_free e).not_named

module _ (t : Table) (whole : HasSlots t) where
  pub none_empty : place is_empty t.slots.all ≡ None → NoneEmpty t
  none_empty e i below =
      not_empty_live (slot_at t i).hold
      (by_test (is_empty (slot_at t i)) (λ y. clash (some_at is_empty no_slot t.slots.all i (rw whole below) y) (unplaced is_empty no_slot t.slots.all e).some) (λ n. n))

  pub empty_none : NoneEmpty t → place is_empty t.slots.all ≡ None
  empty_none h =
      some_nothing is_empty t.slots.all
      (some_none is_empty no_slot t.slots.all (λ i below. let l = h i (rw whole at below) in live_not_empty (slot_at t i).hold l.0 l.1.0 l.1.1))

pub empty_at : (t : Table) (i : ℕ) → is_empty (slot_at t i) ≡ true → slot_at t i ≡ no_slot
empty_at t i e = ap (λ (h : Hold). record { hold = h }) (hold_empty (slot_at t i).hold e)
  where
    hold_empty : (h : Hold) → empty_hold h ≡ true → h ≡ Empty
    hold_empty Empty e = refl
    hold_empty (Live c q) e = clash e refl

-- "no such call", as the search says it
pub nothing_named : (t : Table) (network : Bool) (r : ℕ) → place (is_call network r) t.slots.all ≡ None → NoSuchCall t network r
nothing_named t network r e i c q h side value =
    let at : is_call network r (slot_at t i) ≡ true = rw (h, side, eq-eqb _ _ value, beq_same network) in
    clash (some_at (is_call network r) no_slot t.slots.all i (live_within t i c q h) at) (unplaced (is_call network r) no_slot t.slots.all e).some

pub named_nothing : (t : Table) (network : Bool) (r : ℕ) → NoSuchCall t network r → place (is_call network r) t.slots.all ≡ None
named_nothing t network r none =
    some_nothing (is_call network r) t.slots.all
    (some_none (is_call network r) no_slot t.slots.all
    (λ i below. by_test (is_call network r (slot_at t i)) (λ y. live_named i (slot_at t i).hold refl y) (λ n. n)))
  where
    live_named : {P : Type 0} (i : ℕ) (h : Hold) → (slot_at t i).hold ≡ h → refers_to network r h ≡ true → P
    live_named i Empty g y = clash y refl
    live_named i (Live c q) g y = let k = call_named network r c q y in absurd (none i c q g k.side k.value)
