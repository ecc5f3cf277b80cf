-- What an accepted event does to the pairs out of service, for one pair.
--   kept_unmarked, waiting-unmarked, heard-unmarked, fired-marks, marks_no_back      when it marks the pair
--   Marking, does_marking       it marks none; it marks those that our RESTART names; all are put back
--   outs                        if the pair is out of service afterwards
-- Assumes nothing.
use Rattle.std.specs.Prelude.{Some, None}
use Rattle.verdicts.specs.declared.Notice.TheVariants as notice
use Prim.Native.Nat.{ℕ}
use mathlib.Core.Path.{◌≡◌, refl, ◌∙◌}
use mathlib.Core.Bool.{Bool, true, false, not, ◌&&◌, ◌||◌, and-false}
use mathlib.Core.List.{List}
use Rattle.channels.specs.declared.Named.{Named}
use Rattle.channels.proofs.Cases.{by_test, clash}
use Rattle.pairs.specs.Pairs as by_us
use Rattle.pairs.proofs.Laws.{none_in}
use Rattle.calls.specs.declared.Call.{Call}
use Rattle.header.specs.declared.Header.{Header}
use Rattle.service.specs.declared.GlobalState.{GlobalState}
use Rattle.service.specs.declared.GlobalState.TheVariants.{Null, RestartRequest}
use Rattle.service.specs.Service.{is_waiting, is_out, has_room}
use Rattle.verdicts.specs.declared.Fate.{Fate}
use Rattle.verdicts.specs.declared.Fate.TheVariants as fate
use Rattle.verdicts.specs.Expiry.{expire}
use Rattle.judging.specs.Judge.{judge}
use Rattle.effects.specs.declared.Change.{Change}
use Rattle.effects.specs.declared.Change.TheVariants.{Keep, Put, Doubt, Restart, Request, PutBack}
use Rattle.effects.specs.declared.Ending.TheVariants.{User, Acknowledged, Expired}
use Rattle.effects.specs.declared.Effect.{Effect}
use Rattle.effects.specs.Change.{out_after}
use Rattle.effects.specs.Effect.{fated}
use Rattle.table.specs.declared.Table.{Table}
use Rattle.table.specs.Effects.{table_after, no_room}
use Rattle.control.specs.Happens.{Event, message, tick, connect, clear, offer, restart, put_marks_back}
use Rattle.views.specs.Effects.{reading_of, refusal_of, effect_of}
use Rattle.views.proofs.View as view
use Rattle.safety.specs.Sound.{Sound}
use Rattle.safety.proofs.Marks.{out_in_lem, named_narrow}
use Rattle.history.specs.History.{second_t316, marks, is_put_back}

module _ (t : Table) (p v : ℕ) where
  -- our RESTART is as it was, or one is under way
  global_unmarked : (g : GlobalState) → (second_t316 g p v && not (is_waiting g)) ≡ false
  global_unmarked Null = refl
  global_unmarked (RestartRequest which second d) = and-false (second && by_us.names which p v)

  pub kept_unmarked : (e : Event) (u : Table) → u.global.state ≡ t.global.state → marks t e u p v ≡ false
  kept_unmarked (message label reading room octets) u same = refl
  kept_unmarked (tick label reading room) u same = rw same (global_unmarked t.global.state)
  kept_unmarked (connect label reading room slot) u same = refl
  kept_unmarked (clear label reading room slot cause) u same = refl
  kept_unmarked (offer label reading room body) u same = refl
  kept_unmarked (restart label reading room target) u same = refl
  kept_unmarked (put_marks_back label reading room) u same = refl

  pub waiting-unmarked : (e : Event) (u : Table) → is_waiting u.global.state ≡ true → marks t e u p v ≡ false
  waiting-unmarked (message label reading room octets) u w = refl
  waiting-unmarked (tick label reading room) u w = rw w (and-false (second_t316 t.global.state p v))
  waiting-unmarked (connect label reading room slot) u w = refl
  waiting-unmarked (clear label reading room slot cause) u w = refl
  waiting-unmarked (offer label reading room body) u w = refl
  waiting-unmarked (restart label reading room target) u w = refl
  waiting-unmarked (put_marks_back label reading room) u w = refl

  pub heard-unmarked : (e : Event) (u : Table) (m : List ℕ) (h : Header) → view.IsMessage m h e → marks t e u p v ≡ false
  heard-unmarked e u m h (view.heard label reading room head) = refl

  pub marks_no_back : (e : Event) (u : Table) → marks t e u p v ≡ true → is_put_back e ≡ false
  marks_no_back (message label reading room octets) u y = refl
  marks_no_back (tick label reading room) u y = refl
  marks_no_back (connect label reading room slot) u y = refl
  marks_no_back (clear label reading room slot cause) u y = refl
  marks_no_back (offer label reading room body) u y = refl
  marks_no_back (restart label reading room target) u y = refl
  marks_no_back (put_marks_back label reading room) u y = clash y refl

  and_last : (a : Bool) → (a && true) ≡ a
  and_last true = refl
  and_last false = refl

  pub fired-marks : (e : Event) (u : Table) (which : Named) (d : ℕ) → view.IsTick e → t.global.state ≡ RestartRequest which true d → is_waiting u.global.state ≡ false
      → marks t e u p v ≡ by_us.names which p v
  fired-marks e u which d (view.is_tick label reading room) g w = rw (g, w) (and_last (by_us.names which p v))

pub data Marking (t : Table) (e : Event) (p v : ℕ) : Change → Type 0 where
  none : (x : Change) → marks t e (table_after t (reading_of e) x) p v ≡ false → out_after x t.out ≡ t.out → Marking t e p v x
  named : (which : Named) (d : ℕ) → view.IsTick e → t.global.state ≡ RestartRequest which true d → has_room t.out which ≡ true
      → Marking t e p v (Restart which Expired)
  all_back : view.IsPutBack e → Marking t e p v PutBack

is_back : (e : Event) → view.IsPutBack e → is_put_back e ≡ true
is_back e (view.is_put_back_command label reading room) = refl

module _ (t : Table) (e : Event) (p v : ℕ) where
  -- our RESTART and the marks stay
  left : (x : Change) → (table_after t (reading_of e) x).global.state ≡ t.global.state → out_after x t.out ≡ t.out → Marking t e p v x
  left x same out = none x (kept_unmarked t p v e (table_after t (reading_of e) x) same) out

  judged_left : (i : ℕ) (c : Call) (f : Fate) → Marking t e p v (fated i c f)
  judged_left i c fate.Stay = left Keep refl refl
  judged_left i c (fate.To q notice) = left (Put i _ notice) refl refl
  judged_left i c fate.Gone = left (Put i _ (Some notice.Gone)) refl refl
  judged_left i c fate.InDoubt = left (Doubt i c.pair) refl refl

  requested : (which : Named) (second : Bool) (d : ℕ) → Marking t e p v (Request which second d)
  requested which second d = none (Request which second d) (waiting-unmarked t p v e (table_after t (reading_of e) (Request which second d)) refl) refl

  pub does_marking : (x : Effect) → view.Does t e x → Marking t e p v x.change
  does_marking x view.nothing = left Keep refl refl
  does_marking x (view.no_call m h is) = left Keep refl refl
  does_marking x (view.global m h is) = left Keep refl refl
  does_marking x (view.refuses m h c is a) = left Keep refl refl
  does_marking x (view.no_slot_lem m h is a f) = left Keep refl refl
  does_marking x (view.no_free m h i is a f g) = left Keep refl refl
  does_marking x (view.admits m h i q w is a f g) = left (Put i _ (Some notice.Asked)) refl refl
  does_marking x (view.offers i q w is f g) = left (Put i _ (Some notice.Asked)) refl refl
  does_marking x (view.judges m h i c q is f g) = judged_left i c (judge m h q (reading_of e)).fate
  does_marking x (view.fires i c q is z f g) = judged_left i c (expire (no_room t) q (reading_of e)).fate
  does_marking x (view.connects i c q is g n) = left (Put i _ None) refl refl
  does_marking x (view.clears i cause c q is g host) = left (Put i _ None) refl refl
  does_marking x (view.declines m h n d is a) = left Keep refl refl
  does_marking x (view.restarts m h which a is n) = left (Restart which User) refl refl
  does_marking x (view.requests target is w m) = requested _ _ _
  does_marking x (view.acknowledges m h which second d is g same) =
      none (Restart which Acknowledged) (heard-unmarked t p v e (table_after t (reading_of e) (Restart which Acknowledged)) m h is.its_message) refl
  does_marking x (view.puts_back is) = all_back is
  does_marking x (view.sends_again which second d is g z full) = requested _ _ _
  does_marking x (view.withdraws which d is g z room) = named which d is g room

  abbrev Outs : Change → Type 0
  Outs x = is_out (out_after x t.out) p v ≡ (not (is_put_back e) && (marks t e (table_after t (reading_of e) x) p v || is_out t.out p v))

  marking_outs : Sound t → is_put_back e ≡ false → (x : Change) → Marking t e p v x → Outs x
  marking_outs s not_back x (none _ unmarked out) = rw (not_back, unmarked, out)
  marking_outs s not_back x (named which d is g room) =
      out_in_lem t.out which p v room (named_narrow t s which true d g)
      ∙ rw (not_back, fired-marks t p v e (table_after t (reading_of e) (Restart which Expired)) which d is g refl)
  marking_outs s not_back x (all_back is) = clash (is_back e is) not_back

-- after every accepted event
pub outs : (t : Table) (e : Event) (p v : ℕ) → Sound t → refusal_of t e ≡ 0 → Outs t e p v (effect_of t e).change
outs t e p v s accepted = by_test (is_put_back e) (back e) (λ n. marking_outs t e p v s n (effect_of t e).change (does_marking t e p v (effect_of t e) (view.does t e accepted)))
  where
    back : (e : Event) → is_put_back e ≡ true → Outs t e p v (effect_of t e).change
    back (message label reading room octets) y = clash y refl
    back (tick label reading room) y = clash y refl
    back (connect label reading room slot) y = clash y refl
    back (clear label reading room slot cause) y = clash y refl
    back (offer label reading room body) y = clash y refl
    back (restart label reading room target) y = clash y refl
    back (put_marks_back label reading room) y = none_in p v
