-- How a pair stands in a table.
--   held_in_lem                 by the call of a slot
--   way_held, way_none      a live call holds it; none does
--   Stands, stands          each way, and what it says of the table
--   one_call                how a pair stands says which call holds it
-- Assumes nothing.
use Rattle.std.specs.Prelude.{Option, Some, None}
use Prim.Native.Nat.{ℕ}
use mathlib.Core.Path.{◌≡◌, refl, sym, ap, ◌∙◌}
use mathlib.Core.Bool.{Bool, true, false, cond}
use Rattle.std.specs.List.{list_any}
use Rattle.channels.proofs.Cases.{by_test, clash}
use Rattle.pairs.specs.Pairs.{in_pairs}
use Rattle.calls.specs.declared.State.{State}
use Rattle.calls.specs.declared.Call.{Call}
use Rattle.calls.specs.declared.Hold.TheVariants.{Live}
use Rattle.calls.specs.Calls.{no_slot, holds_pair}
use Rattle.first.specs.First.{place}
use Rattle.first.proofs.First.{placed, unplaced, some_nothing}
use Rattle.table.specs.declared.Table.{Table}
use Rattle.views.specs.Tables.{slot_at, HasCall, OnPair, Holds}
use Rattle.safety.specs.Sound.{Sound}
use Rattle.safety.proofs.Tables.{pair_on, hold_on, held_some, some_held}
use Rattle.history.specs.History.{Way, free, held, doubtful, out_of_service, held_by, held_in, out_in, standing, way_in, unmarked, SameCall}

-- a slot's call that has the pair holds it
held_by_lem : (p v i : ℕ) (c : Call) (q : State) → OnPair p v c → held_by p v i (Live c q) ≡ held i c.network c.reference
held_by_lem p v i c q on = ap (λ (b : Bool). cond b (held i c.network c.reference) free) (pair_on p v c q on)

pub held_in_lem : (t : Table) (p v i : ℕ) (c : Call) (q : State) → HasCall t i c q → OnPair p v c → held_in t p v i ≡ held i c.network c.reference
held_in_lem t p v i c q live on = ap (held_by p v i) live ∙ held_by_lem p v i c q on

pub same_live : (c d : Call) (q r : State) → Live c q ≡ Live d r → c ≡ d
same_live c d q r e = cc

module _ (t : Table) (p v : ℕ) where
  -- the slot that is found
  found_holds : (i : ℕ) → place (holds_pair p v) t.slots.all ≡ Some i → (c : Call) × ((q : State) × (HasCall t i c q × OnPair p v c))
  found_holds i e = hold_on p v (slot_at t i).hold (placed (holds_pair p v) no_slot t.slots.all i e).passes

  pub way_none : (Holds t p v → ⊥) → way_in t p v ≡ cond (in_pairs t.doubts p v) doubtful (unmarked t p v)
  way_none none =
      let no : list_any (holds_pair p v) t.slots.all ≡ false =
      by_test (list_any (holds_pair p v) t.slots.all) (λ y. absurd (none (some_held t p v y))) (λ n. n) in
      ap (standing t p v) (some_nothing (holds_pair p v) t.slots.all no)

  pub way_held : Sound t → (i : ℕ) (c : Call) (q : State) → HasCall t i c q → OnPair p v c → way_in t p v ≡ held i c.network c.reference
  way_held s i c q live on = by_found (place (holds_pair p v) t.slots.all) refl
    where
      by_found : (f : Option ℕ) → place (holds_pair p v) t.slots.all ≡ f → standing t p v f ≡ held i c.network c.reference
      by_found None e =
          clash (held_some t p v (record { slot = i; call = c; state = q; live = live; pair = on }))
          (unplaced (holds_pair p v) no_slot t.slots.all e).some
      by_found (Some j) e =
          let h = found_holds j e in
          let same = s.pair_once i j c h.0 q h.1.0 live h.1.1.0 (on.vpci ∙ sym h.1.1.1.vpci) (on.vci ∙ sym h.1.1.1.vci) in
          rw (← same, live) (held_by_lem p v i c q on)

  -- each way, and what it says of the table
  pub data Stands : Way → Type 0 where
    by_call : (i : ℕ) (c : Call) (q : State) → HasCall t i c q → OnPair p v c → Stands (held i c.network c.reference)
    in_doubt : (Holds t p v → ⊥) → in_pairs t.doubts p v ≡ true → Stands doubtful
    marked : (Holds t p v → ⊥) → in_pairs t.doubts p v ≡ false → out_in t p v ≡ true → Stands out_of_service
    by_none : (Holds t p v → ⊥) → in_pairs t.doubts p v ≡ false → out_in t p v ≡ false → Stands free

  pub stands : Stands (way_in t p v)
  stands = by_found (place (holds_pair p v) t.slots.all) refl
    where
      by_found : (f : Option ℕ) → place (holds_pair p v) t.slots.all ≡ f → Stands (standing t p v f)
      by_found None e =
          let none : Holds t p v → ⊥ = λ h. clash (held_some t p v h) (unplaced (holds_pair p v) no_slot t.slots.all e).some in
          by_test (in_pairs t.doubts p v)
          (λ y. rw y (in_doubt none y))
          (λ n. by_test (out_in t p v) (λ o. rw (n, o) (marked none n o)) (λ o. rw (n, o) (by_none none n o)))
      by_found (Some i) e =
          let h = found_holds i e in
          rw (h.1.1.0, held_by_lem p v i h.0 h.1.0 h.1.1.1) (by_call i h.0 h.1.0 h.1.1.0 h.1.1.1)

same_held : (i j : ℕ) (c d : Call) → held i c.network c.reference ≡ held j d.network d.reference → SameCall i j c d
same_held i j c d e = record { slot = cc; network = cc; reference = cc }

pub one_call : (t u : Table) → Sound t → Sound u → (p v : ℕ) → way_in t p v ≡ way_in u p v
    → (i j : ℕ) (c d : Call) (q r : State) → HasCall t i c q → OnPair p v c → HasCall u j d r → OnPair p v d → SameCall i j c d
one_call t u s z p v e i j c d q r live on live' on' = same_held i j c d (sym (way_held t p v s i c q live on) ∙ e ∙ way_held u p v z j d r live' on')
