-- After a timer fired, another is due exactly if it was due before.
--   another_after     the slot whose timer fired is due no more
--   request_after     T316 that fired is due no more
--   slot_fired        what a slot's timer does, and if another is due
--   request_fired     what T316 does, and if another is due
-- Assumes nothing.
use Rattle.std.specs.Prelude.{Option, Some, None}
use Prim.Native.Nat.{ℕ, ◌+◌}
use mathlib.Core.Path.{◌≡◌, refl, sym, ap, ◌∙◌}
use mathlib.Core.Bool.{Bool, false, or-false, and-true}
use native.Mathlib.Omega.{arith}
use lib.Dec.{leb}
use borrow.Author.Tests.{lt-leb}
use Rattle.channels.proofs.Cases.{by_test}
use Rattle.calls.specs.declared.State.{State}
use Rattle.calls.specs.declared.State.TheVariants.{N3, N6, N9, N10, N12}
use Rattle.calls.specs.declared.Call.{Call}
use Rattle.calls.specs.declared.Hold.{Hold}
use Rattle.calls.specs.declared.Hold.TheVariants.{Empty, Live}
use Rattle.calls.specs.Timers.{t308, hold_due, due_by}
use Rattle.slots.specs.declared.Slots.{Slots}
use Rattle.slots.specs.declared.Timer.{Timer}
use Rattle.slots.specs.Slots.{hold_at}
use Rattle.slots.specs.Timers.{timer, some_due, soonest, place_of}
use Rattle.slots.proofs.Timers.{next_due_nothing, another_due, soonest_due}
use Rattle.service.specs.declared.Global.{Global}
use Rattle.service.specs.declared.GlobalState.{GlobalState}
use Rattle.service.specs.declared.GlobalState.TheVariants.{Null, RestartRequest}
use Rattle.service.specs.Service.{t316, global_due, has_room}
use Rattle.verdicts.specs.declared.Fate.{Fate}
use Rattle.verdicts.specs.declared.Fate.TheVariants as fate
use Rattle.verdicts.specs.Expiry.{expire}
use Rattle.effects.specs.declared.Effect.{Effect}
use Rattle.effects.specs.Change.{slots_after, global_after}
use Rattle.effects.specs.Effect.{fated}
use Rattle.restarts.specs.Own.{expire_effect}
use Rattle.table.specs.declared.Fired.{Fired}
use Rattle.table.specs.declared.Table.{Table}
use Rattle.table.specs.Effects.{no_room, fire_hold, fired, request_first, due_after, fired_slot, fired_request}

never : {P : Type 0} (d : ℕ) → None ≡ Some d → P
never d e = let z : ◌≡◌ {A = ℕ} 0 1 = cc in absurd (omega arith)

module _ (full : Bool) (reading : ℕ) (ss : Slots) (i d : ℕ) (a : Bool) (found : soonest reading ss.all ≡ Some (timer i d a)) where
  abbrev Then : Hold → Type 0
  Then h = some_due reading (slots_after (fire_hold full reading i h).change ss).all ≡ a

  -- T308 runs anew
  later : leb (reading + t308) reading ≡ false
  later = lt-leb (reading + t308) reading (omega arith)

  by_state : (c : Call) (q : State) → hold_due (Live c q) ≡ Some d → Then (Live c q)
  by_state c N3 e = never d e
  by_state c (N6 x) e = another_due reading ss.all i d a _ found refl
  by_state c (N9 x) e = another_due reading ss.all i d a _ found later
  by_state c N10 e = never d e
  by_state c (N12 k x) e =
      by_test k.second
      (λ y. by_test full
      (λ z. rw (y, z) (another_due reading ss.all i d a _ found later))
      (λ z. rw (y, z) (another_due reading ss.all i d a _ found refl)))
      (λ n. rw n (another_due reading ss.all i d a _ found later))

  by_hold : (h : Hold) → hold_due h ≡ Some d → Then h
  by_hold Empty e = never d e
  by_hold (Live c q) e = by_state c q e

  pub another_after : Then (hold_at ss.all i)
  another_after = by_hold (hold_at ss.all i) (soonest_due reading ss.all i d a found).deadline

-- What a slot's timer does leaves our RESTART as it is.
fated_global : (i : ℕ) (c : Call) (f : Fate) (g : Global) → global_after (fated i c f) g ≡ g
fated_global i c fate.Stay g = refl
fated_global i c (fate.To q n) g = refl
fated_global i c fate.Gone g = refl
fated_global i c fate.InDoubt g = refl

fire_global : (full : Bool) (reading i : ℕ) (h : Hold) (g : Global) → global_after (fire_hold full reading i h).change g ≡ g
fire_global full reading i Empty g = refl
fire_global full reading i (Live c q) g = fated_global i c (expire full q reading).fate g

none_first : (reading : ℕ) (d : Option ℕ) → request_first reading None d ≡ false → due_by reading d ≡ false
none_first reading None e = refl
none_first reading (Some d) e = sym (and-true (leb d reading)) ∙ e

module _ (t : Table) (reading : ℕ) where
  pub request_after : due_by reading (global_due (global_after (expire_effect t.global.state t.out reading).change t.global).state) ≡ false
  request_after = by_state t.global.state refl
    where
      later316 : leb (reading + t316) reading ≡ false
      later316 = lt-leb (reading + t316) reading (omega arith)

      by_state : (g : GlobalState) → t.global.state ≡ g → due_by reading (global_due (global_after (expire_effect g t.out reading).change t.global).state) ≡ false
      by_state Null e = rw e
      by_state (RestartRequest n second d) e =
          by_test second
          (λ y. by_test (has_room t.out n) (λ room. rw (y, room)) (λ full. rw (y, full) later316))
          (λ y. rw y later316)

  pub record Fires (f : Fired) (x : Effect) : Type 0 where
    pub effect : f.effect ≡ x
    pub more : f.more ≡ due_after t reading x.change

  pub request_fired : Fires (fired_request t reading) (expire_effect t.global.state t.out reading)
  request_fired =
      record {
        effect = refl;
        more = rw request_after (sym (or-false (some_due reading (slots_after (expire_effect t.global.state t.out reading).change t.slots).all)));
      }

  pub slot_fired : (s : Option Timer) → soonest reading t.slots.all ≡ s → request_first reading s (global_due t.global.state) ≡ false
      → Fires (fired_slot t reading s) (fired t reading (place_of s))
  slot_fired None e first =
      record {
        effect = refl;
        more = rw (next_due_nothing reading t.slots.all (ap place_of e), none_first reading (global_due t.global.state) first);
      }
  slot_fired (Some next) e first =
      record {
        effect = refl;
        more = rw (fire_global (no_room t) reading next.slot (hold_at t.slots.all next.slot) t.global, another_after (no_room t) reading t.slots next.slot next.deadline next.another e);
      }
