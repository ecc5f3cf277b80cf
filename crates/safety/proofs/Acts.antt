-- What an event does to the slots of a table, with the notice that it names.
--   Acts           the view: what a change does, nine ways
--   does_acts      what every accepted event does, in it
-- Assumes nothing.
use Rattle.verdicts.specs.declared.Notice.TheVariants as notice
use Rattle.std.specs.Prelude.{Some, None}
use Prim.Native.Nat.{ℕ}
use mathlib.Core.Path.{◌≡◌, ap}
use mathlib.Core.Logic.{◌≢◌}
use mathlib.Core.Bool.{Bool, true}
use mathlib.Core.List.{List}
use native.Mathlib.Omega.{arith}
use Rattle.channels.specs.declared.Named.{Named}
use Rattle.calls.specs.declared.Clearing.{Clearing}
use Rattle.calls.specs.declared.State.{State}
use Rattle.calls.specs.declared.State.TheVariants.{N6, N9, N10, N12}
use Rattle.calls.specs.declared.Call.{Call}
use Rattle.calls.specs.Calls.{state_number, no_slot, live_slot, is_empty}
use Rattle.first.specs.First.{place}
use Rattle.header.specs.declared.Header.{Header}
use Rattle.verdicts.specs.declared.Verdict.{Verdict}
use Rattle.effects.specs.declared.Change.{Change}
use Rattle.effects.specs.declared.Change.TheVariants.{Keep, Put, Doubt, Restart, Request, PutBack}
use Rattle.effects.specs.declared.Ending.{Ending}
use Rattle.effects.specs.declared.Ending.TheVariants.{User, Acknowledged, Expired}
use Rattle.effects.specs.declared.Effect.{Effect}
use Rattle.effects.specs.Effect.{fated}
use Rattle.table.specs.declared.Table.{Table}
use Rattle.table.specs.Effects.{no_room}
use Rattle.control.specs.Happens.{Event}
use Rattle.views.specs.Tables.{HasCall}
use Rattle.views.specs.Effects.{reading_of}
use Rattle.views.proofs.Verdicts as verdict
use Rattle.views.proofs.View as view
use Rattle.safety.specs.Flags.{NoNotice}

-- a call is asked, goes to another state, is answered, is gone; calls on the pairs of a RESTART are gone; our RESTART is sent, pairs are put back
pub data Acts (t : Table) (e : Event) : Change → Type 0 where
  keeps : Acts t e Keep
  asks : (i : ℕ) (c : Call) (q : State) → place is_empty t.slots.all ≡ Some i → ¬ NoNotice e → Acts t e (Put i (live_slot c q) (Some notice.Asked))
  moves : (i : ℕ) (c : Call) (q r : State) → HasCall t i c q → (¬ NoNotice e → r ≢ N10) → Acts t e (Put i (live_slot c r) None)
  answers : (i : ℕ) (c : Call) (q : State) → HasCall t i c q → q ≢ N10 → ¬ NoNotice e → Acts t e (Put i (live_slot c N10) (Some notice.Answered))
  ends : (i : ℕ) (c : Call) (q : State) → HasCall t i c q → ¬ NoNotice e → Acts t e (Put i no_slot (Some notice.Gone))
  loses : (i : ℕ) (c : Call) (q : State) → HasCall t i c q → ¬ NoNotice e → Acts t e (Doubt i c.pair)
  restarts : (which : Named) (why : Ending) → ¬ NoNotice e → Acts t e (Restart which why)
  requests : (which : Named) (second : Bool) (d : ℕ) → Acts t e (Request which second d)
  puts_back : Acts t e PutBack

-- states that are not N10
N6_other : (d : ℕ) → N6 d ≢ N10
N6_other d e = let z = ap state_number e in omega arith

N9_other : (d : ℕ) → N9 d ≢ N10
N9_other d e = let z = ap state_number e in omega arith

N12_other : (k : Clearing) (d : ℕ) → N12 k d ≢ N10
N12_other k d e = let z = ap state_number e in omega arith

asked_other : (q : State) → verdict.Asked q → q ≢ N10
asked_other q (verdict.in_N6 d) = N6_other d
asked_other q (verdict.in_N9 d) = N9_other d

-- a verdict on the call of slot i
module _ (t : Table) (e : Event) (own : ¬ NoNotice e) (i : ℕ) (c : Call) (q : State) (live : HasCall t i c q) where
  to_N12 : (k : Clearing) (d : ℕ) → Acts t e (Put i (live_slot c (N12 k d)) None)
  to_N12 k d = moves i c q (N12 k d) live (λ _. N12_other k d)

  judged_acts : (reading : ℕ) (full : Bool) (v : Verdict) → verdict.Judged reading full q v → Acts t e (fated i c v.fate)
  judged_acts reading full v (verdict.stays k a s) = keeps
  judged_acts reading full v (verdict.proceeds d g) = moves i c q _ live (λ _. N9_other _)
  judged_acts reading full v (verdict.connects a) = answers i c q live (asked_other q a) own
  judged_acts reading full v (verdict.releases m) = ends i c q live own
  judged_acts reading full v verdict.ends = ends i c q live own
  judged_acts reading full v (verdict.times_out d g) = to_N12 _ _
  judged_acts reading full v (verdict.sends_again k d g first) = to_N12 _ _
  judged_acts reading full v (verdict.waits k d g second room) = to_N12 _ _
  judged_acts reading full v (verdict.loses k d g second room) = loses i c q live own

-- messages, ticks and offers have notices of their own
message_own : (m : List ℕ) (h : Header) (e : Event) → view.IsMessage m h e → ¬ NoNotice e
message_own m h e (view.heard label reading room head) none = none

tick_own : (e : Event) → view.IsTick e → ¬ NoNotice e
tick_own e (view.is_tick label reading room) none = none

offer_own : (e : Event) → view.IsOffer e → ¬ NoNotice e
offer_own e (view.is_offer label reading room body) none = none

connect_none : (i : ℕ) (e : Event) → view.IsConnect i e → NoNotice e
connect_none i e (view.is_connect label reading room) = tt

pub does_acts : (t : Table) (e : Event) (x : Effect) → view.Does t e x → Acts t e x.change
does_acts t e x view.nothing = keeps
does_acts t e x (view.no_call m h is) = keeps
does_acts t e x (view.global m h is) = keeps
does_acts t e x (view.refuses m h c is a) = keeps
does_acts t e x (view.no_slot_lem m h is a f) = keeps
does_acts t e x (view.no_free m h i is a f g) = keeps
does_acts t e x (view.admits m h i p v is a f g) = asks i _ _ f (message_own m h e is.its_message)
does_acts t e x (view.offers i p v is f g) = asks i _ _ f (offer_own e is)
does_acts t e x (view.judges m h i c q is f g) =
    judged_acts t e (message_own m h e is) i c q g (reading_of e) true _ (verdict.judged (reading_of e) true m h q)
does_acts t e x (view.fires i c q is z f g) =
    judged_acts t e (tick_own e is) i c q g (reading_of e) (no_room t) _ (verdict.expired (reading_of e) (no_room t) q)
does_acts t e x (view.connects i c q is g s) = moves i c q N10 g (λ own. absurd (own (connect_none i e is)))
does_acts t e x (view.clears i cause c q is g host) = moves i c q _ g (λ _. N12_other _ _)
does_acts t e x (view.declines m h n d is a) = keeps
does_acts t e x (view.restarts m h which a is n) = restarts which User (message_own m h e is.its_message)
does_acts t e x (view.requests target is w m) = requests _ _ _
does_acts t e x (view.acknowledges m h which second d is g same) = restarts which Acknowledged (message_own m h e is.its_message)
does_acts t e x (view.puts_back is) = puts_back
does_acts t e x (view.sends_again which second d is g z full) = requests _ _ _
does_acts t e x (view.withdraws which d is g z room) = restarts which Expired (tick_own e is)
