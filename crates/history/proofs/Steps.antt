-- How a pair stands after one event, told from the event, its answer and the table before.
--   refused_step, accepted_step      an event that is refused, and one that is accepted
--   step                             every event
-- Assumes nothing.
use Rattle.std.specs.Prelude.{Option, Some, None}
use Prim.Native.Nat.{ℕ}
use mathlib.Core.Path.{◌≡◌, refl, sym, ap, ◌∙◌}
use mathlib.Core.Logic.{◌⊎◌, inl, inr, ◌≢◌}
use mathlib.Core.Bool.{Bool, true, false, cond, not, ◌&&◌, ◌||◌, or-true, and-true, and-false}
use lib.Dec.{eqb}
use borrow.Author.Tests.{eqb-true, eqb-false, eq-eqb}
use Rattle.identifier.specs.Pair.{pair}
use Rattle.channels.specs.Channels.{permitted}
use Rattle.std.specs.List.{list_any}
use Rattle.channels.proofs.Cases.{by_test, clash, both}
use Rattle.channels.proofs.Some.{some_at}
use Rattle.pairs.specs.Pairs.{in_pairs}
use Rattle.calls.specs.declared.State.{State}
use Rattle.calls.specs.declared.Call.{Call}
use Rattle.calls.specs.declared.Hold.{Hold}
use Rattle.calls.specs.declared.Hold.TheVariants.{Empty, Live}
use Rattle.calls.specs.declared.Slot.{Slot}
use Rattle.calls.specs.Calls.{no_slot, is_empty, holds_pair}
use Rattle.first.specs.First.{place}
use Rattle.first.proofs.First.{placed, unplaced}
use Rattle.slots.specs.Slots.{is_set}
use Rattle.slots.specs.declared.Flags.{Flags}
use Rattle.service.specs.Service.{is_out}
use Rattle.effects.specs.declared.Change.{Change}
use Rattle.table.specs.declared.Table.{Table}
use Rattle.table.specs.Effects.{free_pair}
use Rattle.outcome.specs.Outcome.{Outcome, refused_with}
use Rattle.control.specs.Happens.{Event, happens}
use Rattle.views.specs.Tables.{slot_at, HasCall, OnPair, Holds}
use Rattle.views.specs.Effects.{refusal_of, effect_of, outcome_of}
use Rattle.safety.specs.Sound.{Sound}
use Rattle.safety.specs.Slips.{StillThere, Went}
use Rattle.safety.specs.Flags.{flag_of, CallAsked, NamesExactly, TellsAll}
use Rattle.safety.proofs.Tables.{not_live, on_pair_lem, empty_at, held_some, some_held, held_not_free, doubt_not_free, out_not_free}
use Rattle.safety.proofs.Lists.{passes_within}
use Rattle.safety.proofs.Changes.{Comes, old, new, outcome_change}
use Rattle.safety.proofs.Sound.{event_keeps_sound}
use Rattle.safety.proofs.Flags.{flags_exact}
use Rattle.safety.proofs.Gone.{held_until_gone}
use Rattle.history.specs.History.{Way, free, held, doubtful, out_of_service, held_by, held_in, out_in, way_in, asked, assignment, gone, second_expiry, restarts, acknowledges, marks, is_put_back, next_way}
use Rattle.safety.proofs.Accepted.{as_accepted, as_refused}
use Rattle.history.proofs.Standing.{held_in_lem, way_held, way_none, Stands, by_call, in_doubt, marked, by_none, stands}
use Rattle.history.proofs.Marks.{kept_unmarked, marks_no_back, outs}
use Rattle.history.proofs.Doubts.{Doubting, doubting, doubt_free, doubt_stays, doubt_begins}

-- the one flag that is set is found
one_found : (f : Flags) (i : ℕ) → flag_of f i ≡ true → ((j : ℕ) → j ≢ i → flag_of f j ≡ false) → place is_set f.on ≡ Some i
one_found f i raised none_else = by_found (place is_set f.on) refl
  where
    by_found : (x : Option ℕ) → place is_set f.on ≡ x → x ≡ Some i
    by_found None e =
        clash (some_at is_set false f.on i (passes_within is_set false f.on i refl raised) raised)
        (unplaced is_set false f.on e).some
    by_found (Some j) e =
        by_test (eqb j i)
        (λ y. ap Some (eqb-true j i y))
        (λ n. clash (placed is_set false f.on j e).passes (none_else j (eqb-false j i n)))

-- a slot that holds another call, or none
not_held : (t : Table) (p v i : ℕ) → (Holds t p v → ⊥) → held_in t p v i ≡ free
not_held t p v i none = by_hold (slot_at t i).hold refl
  where
    by_hold : (h : Hold) → (slot_at t i).hold ≡ h → held_by p v i h ≡ free
    by_hold Empty e = refl
    by_hold (Live c q) e =
        by_test (eqb c.pair.vpci p && eqb c.pair.vci v)
        (λ y. absurd (none (record { slot = i; call = c; state = q; live = e; pair = on_pair_lem p v c q y })))
        (λ n. rw n)

-- of tests
unless : (b : Bool) → (b ≡ true → ⊥) → b ≡ false
unless b h = by_test b (λ y. absurd (h y)) (λ n. n)

nor : (a b : Bool) → not (a || b) ≡ (not a && not b)
nor true b = refl
nor false b = refl

module _ (t : Table) (e : Event) (p v : ℕ) where
  abbrev Steps : Outcome → Type 0
  Steps o = way_in o.answer.table p v ≡ next_way t e o p v (way_in t p v)

  refused_step : (n : ℕ) → eqb n 0 ≡ false → Steps (refused_with t n)
  refused_step n other = by_way (way_in t p v)
    where
      unmarked_still : marks t e t p v ≡ false
      unmarked_still = kept_unmarked t p v e t refl

      by_way : (w : Way) → w ≡ next_way t e (refused_with t n) p v w
      by_way free = rw unmarked_still
      by_way (held i network r) = refl
      by_way doubtful = rw (unmarked_still, other)
      by_way out_of_service = rw other

  -- an accepted event, on a sound table
  module _ (s : Sound t) (ok : permitted t.pool p v ≡ true) (accepted : refusal_of t e ≡ 0) where
    abbrev o : Outcome
    o = outcome_of t e

    abbrev u : Table
    u = o.answer.table

    abbrev x : Change
    x = (effect_of t e).change

    module _ (us : Sound u) (kept : (i : ℕ) (c : Call) (q : State) → HasCall t i c q → StillThere u i c ⊎ Went o i)
        (exact : NamesExactly t u o.answer.notice o.answer.flags) (tells : TellsAll t u e o.answer.notice) where
      doubts : Doubting t e p v x
      doubts = doubting t e s accepted p v ok

      -- a call that holds the pair afterwards held it before, or is new: then the pair was free, and its slot empty
      pub data Origin (h : Holds u p v) : Type 0 where
        before : (q : State) → HasCall t h.slot h.call q → Origin h
        fresh : free_pair t ≡ Some (pair p v) → place is_empty t.slots.all ≡ Some h.slot → Origin h

      origin : (h : Holds u p v) → Origin h
      origin h = by_comes ((outcome_change t e accepted).comes h.slot h.call h.state h.live)
        where
          by_comes : Comes t e h.slot h.call h.state → Origin h
          by_comes (old q live later) = before q live
          by_comes (new n at) = fresh (rw (h.pair.vpci, h.pair.vci) at n.pair) at

      -- no call held the pair, and it was not free: none holds it afterwards
      none-held : (Holds t p v → ⊥) → free_pair t ≢ Some (pair p v) → Holds u p v → ⊥
      none-held none taken h = by_origin (origin h)
        where
          by_origin : Origin h → ⊥
          by_origin (before q live) = none (record { slot = h.slot; call = h.call; state = q; live = live; pair = h.pair })
          by_origin (fresh given at) = taken given

      -- its call is gone, so none does
      gone_held : (i : ℕ) (c : Call) (q : State) → HasCall t i c q → OnPair p v c → slot_at u i ≡ no_slot → Holds u p v → ⊥
      gone_held i c q live on empty h = by_origin (origin h)
        where
          by_origin : Origin h → ⊥
          by_origin (before r there) =
              let same = s.pair_once h.slot i h.call c r q there live (h.pair.vpci ∙ sym on.vpci) (h.pair.vci ∙ sym on.vci) in
              not_live h.call h.state (ap (λ (z : Slot). z.hold) (sym empty) ∙ rw same at h.live)
          by_origin (fresh given at) = held_not_free t p v (record { slot = i; call = c; state = q; live = live; pair = on }) given

      -- a call still there is not told as gone
      not_gone : (i : ℕ) (c : Call) (q : State) → HasCall u i c q → gone o i ≡ false
      not_gone i c q live =
          by_test (gone o i)
          (λ y.
          let b = both (eqb o.answer.notice 3) (flag_of o.answer.flags i) y in
          let went = exact.with_3 (eqb-true o.answer.notice 3 b.0) i b.1 in
          not_live c q (ap (λ (z : Slot). z.hold) (sym went.after) ∙ live))
          (λ n. n)

      -- a new call is told as asked
      new_asked : (i : ℕ) (c : Call) (q : State) → HasCall u i c q → place is_empty t.slots.all ≡ Some i → asked o ≡ Some i
      new_asked i c q live at =
          let empty = empty_at t i (placed is_empty no_slot t.slots.all i at).passes in
          let call : CallAsked t u i = record { call = c; state = q; before = empty; after = live } in
          let one_call = tells.asked i call in
          let one = exact.with_1 one_call in
          let here = one.no_other i call in
          rw (eq-eqb o.answer.notice 1 one_call)
          (one_found o.answer.flags i (rw here one.raised) (λ j other. one.none_else j (λ z. other (z ∙ sym here))))

      none-assigned : (Holds u p v → ⊥) → (f : Option ℕ) → assignment u p v f ≡ free
      none-assigned none None = refl
      none-assigned none (Some i) = not_held u p v i none

      -- if the pair is out of service afterwards
      abbrev newly : Bool
      newly = marks t e u p v

      out_after_lem : (b : Bool) → is_out t.out p v ≡ b → out_in u p v ≡ (not (is_put_back e) && (newly || b))
      out_after_lem b was = rw (outs t e p v s accepted, was, ok) (and-true (not (is_put_back e) && (newly || b)))

      -- what is marked was not put back
      not_both : newly ≡ true → is_put_back e ≡ false
      not_both y = marks_no_back t p v e u y

      -- nobody holds it afterwards: in doubt, newly out of service, or free
      unheld : (Holds u p v → ⊥) → is_out t.out p v ≡ false → (d : Bool) → in_pairs u.doubts p v ≡ (not newly && d)
          → way_in u p v ≡ cond newly out_of_service (cond d doubtful free)
      unheld none was d doubt =
          way_none u p v none
          ∙ by_test newly
          (λ y. rw (doubt, out_after_lem false was, y, not_both y))
          (λ n. rw (doubt, out_after_lem false was, n, and-false (not (is_put_back e))))

      by_standing : (w : Way) → Stands t p v w → way_in u p v ≡ next_way t e o p v w
      by_standing w (by_call i c q live on) = by_kept (kept i c q live)
        where
          by_kept : (StillThere u i c ⊎ Went o i) → way_in u p v ≡ next_way t e o p v (held i c.network c.reference)
          by_kept (inl there) = rw (not_gone i c there.state there.live) (way_held u p v us i c there.state there.live on)
          by_kept (inr went) =
              let holds : Holds t p v = record { slot = i; call = c; state = q; live = live; pair = on } in
              rw (eq-eqb o.answer.notice 3 went.notice, went.flag)
              (unheld (gone_held i c q live on went.empty) (unless (is_out t.out p v) (λ y. s.out_not_held p v y holds)) (second_expiry t e i)
              (doubt_begins t e s p v i c q live on x doubts went.notice went.flag))
      by_standing w (in_doubt none d) =
          let ended = restarts e p v || acknowledges t e p v in
          unheld (none-held none (doubt_not_free t p v d)) (unless (is_out t.out p v) (λ y. s.out_not_doubtful p v y d)) (not ended)
          (doubt_stays t e s p v x doubts d ∙ nor newly ended)
          ∙ by_test ended (λ y. rw y) (λ n. rw n)
      by_standing w (marked none d out) =
          let is = (both (is_out t.out p v) (permitted t.pool p v) out).0 in
          way_none u p v (none-held none (out_not_free t p v is))
          ∙ rw (doubt_free t e s p v x doubts none d, out_after_lem true is, or-true newly) (by_test (is_put_back e) (λ y. rw y) (λ n. rw n))
      by_standing w (by_none none d out) =
          by_test (list_any (holds_pair p v) u.slots.all)
          (λ y. let h = some_held u p v y in by_origin h (origin h))
          (λ n.
          let nobody : Holds u p v → ⊥ = λ h. clash (held_some u p v h) n in
          unheld nobody unmarked false (doubt_free t e s p v x doubts none d ∙ sym (and-false (not newly)))
          ∙ rw (none-assigned nobody (asked o)))
        where
          unmarked : is_out t.out p v ≡ false
          unmarked = by_test (is_out t.out p v) (λ y. clash (rw (y, ok)) out) (λ n. n)

          by_origin : (h : Holds u p v) → Origin h → way_in u p v ≡ cond newly out_of_service (assignment u p v (asked o))
          by_origin h (before q live) = absurd (none (record { slot = h.slot; call = h.call; state = q; live = live; pair = h.pair }))
          by_origin h (fresh given at) =
              way_held u p v us h.slot h.call h.state h.live h.pair
              ∙ sym (held_in_lem u p v h.slot h.call h.state h.live h.pair)
              ∙ sym (ap (assignment u p v) (new_asked h.slot h.call h.state h.live at))
              ∙ by_test newly (λ y. absurd (us.out_not_held p v (outs t e p v s accepted ∙ rw (not_both y, y)) h)) (λ n. rw n)

      pub accepted_step : Steps o
      accepted_step = by_standing (way_in t p v) (stands t p v)

pub step : (t : Table) (e : Event) → Sound t → (p v : ℕ) → permitted t.pool p v ≡ true → Steps t e p v (happens t e)
step t e s p v ok =
    by_test (eqb (refusal_of t e) 0)
    (λ y.
    let same = as_accepted t e y in
    let flags = flags_exact t e s.has_slots in
    rw same
    (accepted_step t e p v s ok (eqb-true (refusal_of t e) 0 y) (rw same at (event_keeps_sound t e s))
    (λ i c q live. rw same at (held_until_gone t e s.has_slots i c q live))
    (rw same at flags.names)
    (rw same at flags.tells)))
    (λ n. rw (as_refused t e n) (refused_step t e p v (refusal_of t e) n))
