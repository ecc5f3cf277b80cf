-- Two controllers that the statement on our RESTART rules out.
--   forgetful, forgetful_ruled_out     RESTART ACKNOWLEDGE takes the marks away
--   hasty, hasty_ruled_out             T316 comes before a slot of equal deadline
-- Assumes nothing.
use Rattle.identifier.specs.Pair.{pair}
use Rattle.std.specs.Prelude.{Option, Some, None}
use Prim.Native.Nat.{ℕ}
use mathlib.Core.Path.{◌≡◌, refl, ap}
use mathlib.Core.Bool.{Bool, true, false, cond, ◌&&◌}
use mathlib.Core.List.{List, [], ◌∷◌}
use native.Mathlib.Omega.{arith}
use lib.Dec.{leb}
use Rattle.channels.specs.declared.Named.TheVariants.{All, One}
use Rattle.channels.proofs.Cases.{clash}
use Rattle.calls.specs.Timers.{due_by}
use Rattle.slots.specs.declared.Timer.{Timer}
use Rattle.slots.specs.Timers.{soonest}
use Rattle.service.specs.declared.Global.{Global}
use Rattle.service.specs.declared.OutOfService.{OutOfService}
use Rattle.service.specs.Service.{global_due, is_out, none_out}
use Rattle.restarts.specs.declared.Target.TheVariants as target
use Rattle.restarts.specs.Own.{expire_effect}
use Rattle.verdicts.specs.Expiry.{clearing}
use Rattle.table.specs.declared.Table.{Table}
use Rattle.table.specs.Effects.{user_call}
use Rattle.outcome.specs.Outcome.{Outcome, accepted_as}
use Rattle.control.specs.Happens.{Event, message, tick, connect, clear, offer, restart, put_marks_back, happens, after}
use Rattle.safety.specs.SmallTable.{ranges, begun, setup}
use Rattle.safety.specs.Sound.{Sound}
use Rattle.safety.specs.Restarts.{all, OwnRestarts}
use Rattle.safety.proofs.Sound.{start_sound, after_sound}

-- RESTART ACKNOWLEDGE takes the marks away.

abbrev pub unmarked : Outcome → Outcome
unmarked o = record {
  answer = record {
    table = record {
      slots = o.answer.table.slots;
      last = o.answer.table.last;
      doubts = o.answer.table.doubts;
      global = o.answer.table.global;
      out = none_out;
      pool = o.answer.table.pool;
    };
    refusal = o.answer.refusal;
    length = o.answer.length;
    notice = o.answer.notice;
    flags = o.answer.flags;
    more = o.answer.more;
  };
  reply = o.reply;
}

abbrev pub forgetful : Table → Event → Outcome
forgetful t (message label reading room m) = unmarked (happens t (message label reading room m))
forgetful t (tick label reading room) = happens t (tick label reading room)
forgetful t (connect label reading room slot) = happens t (connect label reading room slot)
forgetful t (clear label reading room slot cause) = happens t (clear label reading room slot cause)
forgetful t (offer label reading room body) = happens t (offer label reading room body)
forgetful t (restart label reading room target) = happens t (restart label reading room target)
forgetful t (put_marks_back label reading room) = happens t (put_marks_back label reading room)

-- pair 0/32 is marked by two expiries, and then all are restarted
abbrev markings : List Event
markings = restart 1 0 1024 (target.One 0 32) ∷ tick 1 120000 1024 ∷ tick 1 240000 1024 ∷ restart 1 240000 1024 target.All ∷ []

abbrev acknowledge_all : List ℕ
acknowledge_all = 0x09 ∷ 0x03 ∷ 0x80 ∷ 0x00 ∷ 0x00 ∷ 0x4E ∷ 0x80 ∷ 0x00 ∷ 0x05 ∷ 0x79 ∷ 0x80 ∷ 0x00 ∷ 0x01 ∷ 0x82 ∷ []

pub forgetful_ruled_out : ¬ ((t : Table) → Sound t → OwnRestarts forgetful t)
forgetful_ruled_out h =
    let t = after begun markings in
    let k = h t (after_sound begun markings (start_sound ranges [])) in
    let a = k.acknowledge 1 240000 1024 acknowledge_all All false 360000 refl refl (record { head = refl; kind = refl; flag = refl; global = refl }) (all refl refl) in
    let kept : is_out none_out 0 32 ≡ is_out t.out 0 32 = ap (λ (o : OutOfService). is_out o 0 32) a.marks_stay in
    clash kept refl

-- T316 comes before a slot of equal deadline.

abbrev pub not_later : Option Timer → ℕ → Bool
not_later None d = true
not_later (Some t) d = leb d t.deadline

abbrev pub first_of_equal : ℕ → Option Timer → Option ℕ → Bool
first_of_equal reading s None = false
first_of_equal reading s (Some d) = due_by reading (Some d) && not_later s d

abbrev pub hasty : Table → Event → Outcome
hasty t (message label reading room m) = happens t (message label reading room m)
hasty t (tick label reading room) =
    cond (first_of_equal reading (soonest reading t.slots.all) (global_due t.global.state))
    (accepted_as t reading (expire_effect t.global.state t.out reading))
    (happens t (tick label reading room))
hasty t (connect label reading room slot) = happens t (connect label reading room slot)
hasty t (clear label reading room slot cause) = happens t (clear label reading room slot cause)
hasty t (offer label reading room body) = happens t (offer label reading room body)
hasty t (restart label reading room target) = happens t (restart label reading room target)
hasty t (put_marks_back label reading room) = happens t (put_marks_back label reading room)

-- T316 and the T308 of slot 0 both run until 120,000
abbrev together : List Event
together = message 1 0 1024 (setup 1) ∷ restart 1 0 1024 (target.One 0 33) ∷ clear 1 90000 1024 0 16 ∷ []

one_deadline : (d e : ℕ) → Some d ≡ Some e → d ≡ e
one_deadline d e h = cc

pub hasty_ruled_out : ¬ ((t : Table) → Sound t → OwnRestarts hasty t)
hasty_ruled_out h =
    let t = after begun together in
    let k = h t (after_sound begun together (start_sound ranges [])) in
    let slot-first = k.slots_first 1 120000 1024 (One (pair 0 33)) false 120000 refl
    (λ next. let z = next.slots_later 0 (user_call 1 0 32) (clearing 90000 false 16 false) 120000 refl refl in absurd (omega arith)) in
    let same : ◌≡◌ {A = ℕ} 240000 120000 = one_deadline 240000 120000 (ap (λ (g : Global). global_due g.state) slot-first.under_way) in
    absurd (omega arith)
