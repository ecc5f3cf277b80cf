-- What a second T308 expiry does.
--   last_expires    what is decided of the call
--   expires         of every sound table
-- Assumes nothing.
use Rattle.verdicts.specs.declared.Notice.TheVariants as notice
use Rattle.std.specs.Prelude.{Some, None}
use Prim.Native.Nat.{ℕ, ◌<◌}
use mathlib.Core.Path.{◌≡◌, refl, ap, ◌∙◌}
use mathlib.Core.Bool.{Bool, true, false, not, cond}
use mathlib.Core.List.{[]}
use native.Mathlib.Omega.{arith}
use lib.ListN.{length}
use lib.Seq.{get_or-set_same}
use borrow.Author.Tests.{eq-eqb}
use Rattle.channels.proofs.Cases.{by_test, clash}
use Rattle.pairs.specs.Pairs.{is_full}
use Rattle.pairs.proofs.Laws.{with_in}
use Rattle.calls.specs.declared.State.{State}
use Rattle.calls.specs.declared.State.TheVariants.{N3, N6, N9, N10, N12}
use Rattle.calls.specs.declared.Call.{Call}
use Rattle.calls.specs.Calls.{no_slot, live_slot}
use Rattle.slots.specs.Timers.{soonest, next_due}
use Rattle.service.specs.declared.GlobalState.{GlobalState}
use Rattle.service.specs.declared.GlobalState.TheVariants.{Null, RestartRequest}
use Rattle.replies.specs.declared.Reply.TheVariants as reply
use Rattle.verdicts.specs.declared.Verdict.{Verdict}
use Rattle.verdicts.specs.Verdict.{moved, lost}
use Rattle.verdicts.specs.Expiry.{expire, last_t308}
use Rattle.effects.specs.declared.Effect.{Effect}
use Rattle.effects.specs.Effect.{on_call}
use Rattle.table.specs.declared.Table.{Table}
use Rattle.table.specs.Effects.{no_room, fire_hold, fired, request_first, tick_effect}
use Rattle.outcome.specs.Outcome.{sending}
use Rattle.control.specs.Happens.{Event, tick, happens}
use Rattle.views.specs.Tables.{slot_at, InDoubt}
use Rattle.views.specs.Effects.{more_of}
use Rattle.safety.specs.Sound.{Sound}
use Rattle.safety.proofs.Tables.{live_within}
use Rattle.safety.proofs.Restarts.{fires_next}
use Rattle.history.specs.History.{again, Fires, Expiry}
use Rattle.safety.proofs.Accepted.{accepted_effect}

-- T308 runs again, or the call is gone and its pair is in doubt
abbrev pub last_verdict : Bool → State → ℕ → Verdict
last_verdict full q reading = cond full (moved (again reading q) reply.None None) lost

pub last_expires : (full : Bool) (q : State) (reading : ℕ) → last_t308 q ≡ true → expire full q reading ≡ last_verdict full q reading
last_expires full N3 reading e = clash e refl
last_expires full (N6 d) reading e = clash e refl
last_expires full (N9 d) reading e = clash e refl
last_expires full N10 reading e = clash e refl
last_expires full (N12 k d) reading e = rw e

module _ (t : Table) (s : Sound t) (label reading room i : ℕ) (c : Call) (q : State) (f : Fires t label reading room i c q) where
  abbrev ticks : Event
  ticks = tick label reading room

  abbrev judged : Verdict → Effect
  judged d = on_call i c (not c.network) c.reference d

  -- T316 does not come first
  slot_fires : tick_effect t reading ≡ fired t reading (next_due reading t.slots.all)
  slot_fires = by_state t.global.state refl
    where
      by_state : (g : GlobalState) → t.global.state ≡ g → tick_effect t reading ≡ fired t reading (next_due reading t.slots.all)
      by_state Null g = rw g
      by_state (RestartRequest which second d) g =
          by_test (request_first reading (soonest reading t.slots.all) (Some d))
          (λ y. absurd (f.no_T316 which second d g (fires_next t reading d y)))
          (λ n. rw (g, n))

  as_fired : (full : Bool) → is_full t.doubts ≡ full → happens t ticks ≡ sending t reading (judged (last_verdict full q reading)) (more_of t ticks) []
  as_fired full e =
      accepted_effect t ticks f.accepted (judged (last_verdict full q reading))
      (slot_fires ∙ ap (fired t reading) f.due ∙ ap (fire_hold (no_room t) reading i) f.live
      ∙ ap judged (last_expires (no_room t) q reading f.last ∙ ap (λ (b : Bool). last_verdict b q reading) e))

  below : i < length t.slots.all
  below = live_within t i c q f.live

  pub begins : is_full t.doubts ≡ false
      → let o = happens t ticks in
      (slot_at o.answer.table i ≡ no_slot) × (InDoubt o.answer.table c.pair.vpci c.pair.vci) × (o.answer.notice ≡ 3) × (o.reply ≡ [])
  begins room =
      let k = (s.calls_sound i c q f.live).vci_high in
      let more = with_in t.doubts c.pair.vpci c.pair.vci c.pair.vpci c.pair.vci room (omega arith) in
      rw (as_fired false room) (
        get_or-set_same t.slots.all i no_slot no_slot below,
        more ∙ rw (eq-eqb c.pair.vpci c.pair.vpci refl, eq-eqb c.pair.vci c.pair.vci refl),
        refl,
        refl,
      )

  pub waits : is_full t.doubts ≡ true
      → let o = happens t ticks in
      (slot_at o.answer.table i ≡ live_slot c (again reading q)) × (o.answer.table.doubts ≡ t.doubts)
      × (o.answer.notice ≡ 0) × (o.reply ≡ [])
  waits full = rw (as_fired true full) (get_or-set_same t.slots.all i (live_slot c (again reading q)) no_slot below, refl, refl, refl)

pub expires : (t : Table) → Sound t → Expiry t
expires t s = record { begins_doubt = begins t s; waits = waits t s }
