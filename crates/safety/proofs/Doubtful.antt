-- What becomes of the doubts (document 02, R-2), whatever a change does to them, to the marks and to our RESTART.
--   Nameable            the pairs that a RESTART of ours may name
--   Touched             of a change: what it does to the doubts, the marks and our RESTART, one way for each kind of change
--   does_touched        of what every event decides
--   still_not_held      a pair that no call holds, and that is not free, is held by no call afterwards
--   doubt_origin        a pair in doubt afterwards was in doubt or held
--   doubts_sound        afterwards the doubts are as they must be
-- Assumes nothing.
use Rattle.verdicts.specs.declared.Notice.{Notice}
use Rattle.std.specs.Prelude.{Some, None, Option}
use Prim.Native.Nat.{ℕ, ◌+◌}
use mathlib.Core.Path.{◌≡◌, refl, sym, ap, ◌∙◌}
use mathlib.Core.Logic.{◌⊎◌, inl, inr, ◌≢◌}
use mathlib.Core.Bool.{Bool, true, false, not, ◌&&◌}
use native.Mathlib.Omega.{arith}
use lib.Dec.{eqb, ltb}
use lib.ListN.{get_or, set}
use lib.Seq.{get_or-set_same, get_or-set_other}
use borrow.Author.Tests.{eqb-true, not-true}
use Rattle.channels.specs.declared.Named.{Named}
use Rattle.channels.specs.declared.Named.TheVariants as named
use Rattle.channels.specs.declared.Pool.{Pool}
use Rattle.identifier.specs.Pair.{pair}
use Rattle.channels.specs.Channels.{permitted}
use Rattle.channels.proofs.Cases.{by_test, clash, both}
use Rattle.pairs.specs.Pairs.{in_pairs, names, unless_named, Tidy}
use Rattle.pairs.proofs.Laws.{with_in, with_tidy, unless_in, unless_tidy}
use Rattle.calls.specs.declared.State.{State}
use Rattle.calls.specs.declared.Call.{Call}
use Rattle.calls.specs.declared.Slot.{Slot}
use Rattle.calls.specs.Calls.{no_slot}
use Rattle.service.specs.declared.GlobalState.TheVariants.{RestartRequest}
use Rattle.service.specs.Service.{t316, has_room}
use Rattle.verdicts.specs.declared.Verdict.{Verdict}
use Rattle.effects.specs.declared.Change as declared
use Rattle.effects.specs.declared.Change.TheVariants.{Keep, Put, Doubt, Restart, Request, PutBack}
use Rattle.effects.specs.declared.Ending.{Ending}
use Rattle.effects.specs.declared.Ending.TheVariants.{User, Acknowledged, Expired}
use Rattle.effects.specs.declared.Effect.{Effect}
use Rattle.effects.specs.Change.{slots_after, doubts_after}
use Rattle.effects.specs.Effect.{fated}
use Rattle.restarts.specs.declared.Target.{Target}
use Rattle.restarts.specs.declared.Target.TheVariants as target
use Rattle.restarts.specs.Own.{named_by}
use Rattle.table.specs.declared.Table.{Table}
use Rattle.table.specs.Effects.{free_pair, table_after, no_room}
use Rattle.refusals.specs.Refusals.{may_restart}
use Rattle.control.specs.Happens.{Event}
use Rattle.views.specs.Tables.{HasCall, Holds, InDoubt}
use Rattle.views.specs.Effects.{reading_of}
use Rattle.views.proofs.Verdicts as verdict
use Rattle.views.proofs.View as view
use Rattle.safety.specs.Sound.{GlobalSound, one_sent, all_sent, Sound}
use Rattle.safety.proofs.Cases.{either}
use Rattle.safety.proofs.Tables.{not_live, live_within, doubt_not_free}
use Rattle.safety.proofs.Changes.{Comes, old, new, Change}

-- "a pair not permitted" is not named
abbrev pub Nameable : Pool → Named → Type 0
Nameable pool named.All = Unit {0}
Nameable pool (named.One pv) = permitted pool pv.vpci pv.vci ≡ true

pub data Touched (t : Table) (reading : ℕ) : declared.Change → Type 0 where
  keeps : Touched t reading Keep
  puts : (i : ℕ) (s : Slot) (notice : Option Notice) → Touched t reading (Put i s notice)
  -- the pair of a call that goes begins to be in doubt
  begins : (i : ℕ) (c : Call) (q : State) → HasCall t i c q → no_room t ≡ false → Touched t reading (Doubt i c.pair)
  -- doubts end: by a user's RESTART, by the acknowledge of ours, by its second expiry, which marks its pairs
  ends : (which : Named) → Touched t reading (Restart which User)
  acknowledged : (which : Named) → Touched t reading (Restart which Acknowledged)
  marks : (which : Named) → Nameable t.pool which → has_room t.out which ≡ true → Touched t reading (Restart which Expired)
  -- our RESTART is sent; all pairs are put back
  requests : (which : Named) (second : Bool) → Nameable t.pool which → Touched t reading (Request which second (reading + t316))
  puts_back : Touched t reading PutBack

-- a verdict on the live call of slot i
verdict_touched : (t : Table) (reading : ℕ) (full : Bool) → (full ≡ false → no_room t ≡ false) → (i : ℕ) (c : Call) (q : State) (v : Verdict) → HasCall t i c q
    → verdict.Judged reading full q v → Touched t reading (fated i c v.fate)
verdict_touched t reading full room i c q v h (verdict.stays k a s) = keeps
verdict_touched t reading full room i c q v h (verdict.proceeds d g) = puts i _ _
verdict_touched t reading full room i c q v h (verdict.connects a) = puts i _ _
verdict_touched t reading full room i c q v h (verdict.releases m) = puts i _ _
verdict_touched t reading full room i c q v h verdict.ends = puts i _ _
verdict_touched t reading full room i c q v h (verdict.times_out d g) = puts i _ _
verdict_touched t reading full room i c q v h (verdict.sends_again k d g first) = puts i _ _
verdict_touched t reading full room i c q v h (verdict.waits k d g second none) = puts i _ _
verdict_touched t reading full room i c q v h (verdict.loses k d g second some) = begins i c q h (room some)

pub target_nameable : (pool : Pool) (x : Target) → may_restart pool x ≡ true → Nameable pool (named_by x)
target_nameable pool target.All m = tt
target_nameable pool (target.One p v) m =
    by_test (ltb 65535 p)
    (λ a. clash (rw a at m) refl)
    (λ a. by_test (ltb 65535 v) (λ b. clash (rw (a, b) at m) refl) (λ b. rw (a, b) at m))

pub sound_nameable : (last : ℕ) (pool : Pool) (which : Named) (second : Bool) (d : ℕ) → GlobalSound last pool (RestartRequest which second d) → Nameable pool which
sound_nameable last pool which second d (one_sent p v _ _ permits below) = permits
sound_nameable last pool which second d (all_sent _ _ below) = tt

pub does_touched : (t : Table) (e : Event) → GlobalSound t.last t.pool t.global.state → (x : Effect) → view.Does t e x → Touched t (reading_of e) x.change
does_touched t e s x view.nothing = keeps
does_touched t e s x (view.no_call m h is) = keeps
does_touched t e s x (view.global m h is) = keeps
does_touched t e s x (view.refuses m h c is a) = keeps
does_touched t e s x (view.no_slot_lem m h is a f) = keeps
does_touched t e s x (view.no_free m h i is a f g) = keeps
does_touched t e s x (view.admits m h i p v is a f g) = puts i _ _
does_touched t e s x (view.offers i p v is f g) = puts i _ _
does_touched t e s x (view.judges m h i c q is f g) =
    verdict_touched t (reading_of e) true (λ none. clash refl none) i c q _ g (verdict.judged (reading_of e) true m h q)
does_touched t e s x (view.fires i c q is z f g) = verdict_touched t (reading_of e) (no_room t) (λ some. some) i c q _ g (verdict.expired (reading_of e) (no_room t) q)
does_touched t e s x (view.connects i c q is g n3) = puts i _ _
does_touched t e s x (view.clears i cause c q is g host) = puts i _ _
does_touched t e s x (view.declines m h n d is a) = keeps
does_touched t e s x (view.restarts m h which a is n) = ends which
does_touched t e s x (view.requests target is w m) = requests (named_by target) false (target_nameable t.pool target m)
does_touched t e s x (view.acknowledges m h which second d is g same) = acknowledged which
does_touched t e s x (view.puts_back is) = puts_back
does_touched t e s x (view.sends_again which second d is g z full) = requests which true (sound_nameable t.last t.pool which second d (rw g at s))
does_touched t e s x (view.withdraws which d is g z room) = marks which (sound_nameable t.last t.pool which true d (rw g at s)) room

-- the doubts of a table are as they must be
pub record DoubtsSound (t : Table) : Type 0 where
  pub in_order : Tidy t.doubts
  pub permits : (p v : ℕ) → InDoubt t p v → permitted t.pool p v ≡ true
  pub not_held : (p v : ℕ) → InDoubt t p v → Holds t p v → ⊥

module _ (t : Table) (e : Event) (s : Sound t) where
  module _ (x : declared.Change) (change : Change t e (slots_after x t.slots).all) where
    abbrev u : Table
    u = table_after t (reading_of e) x

    pub still_not_held : (p v : ℕ) → (Holds t p v → ⊥) → free_pair t ≢ Some (pair p v) → Holds u p v → ⊥
    still_not_held p v none taken h = by_origin (change.comes h.slot h.call h.state h.live)
      where
        by_origin : Comes t e h.slot h.call h.state → ⊥
        by_origin (old q live f) = none (record { slot = h.slot; call = h.call; state = q; live = live; pair = h.pair })
        by_origin (new n place) = taken (rw (h.pair.vpci, h.pair.vci) at n.pair)

    -- no doubt is new
    from_old : Tidy u.doubts → ((p v : ℕ) → InDoubt u p v → InDoubt t p v) → DoubtsSound u
    from_old tidy back = record {
      in_order = tidy;
      permits = λ p v h. s.doubt_permitted p v (back p v h);
      not_held = λ p v h. let d = back p v h in still_not_held p v (s.doubt_not_held p v d) (doubt_not_free t p v d);
    }

  -- the doubts that a RESTART names end
  pub ended_origin : (which : Named) (p v : ℕ) → in_pairs (unless_named t.doubts which) p v ≡ true → (names which p v ≡ false) × InDoubt t p v
  ended_origin which p v h =
      let a = both (not (names which p v)) (in_pairs t.doubts p v) (sym (unless_in t.doubts which p v) ∙ h) in
      (not-true (names which p v) a.0, a.1)

  ended_sound : (which : Named) (why : Ending) → Change t e (slots_after (Restart which why) t.slots).all → DoubtsSound (table_after t (reading_of e) (Restart which why))
  ended_sound which why change =
      from_old (Restart which why) change (unless_tidy t.doubts which s.doubts_tidy) (λ p v h. (ended_origin which p v h).1)

  -- the pair of a call that goes
  module _ (i : ℕ) (c : Call) (q : State) (live : HasCall t i c q) (room : no_room t ≡ false) where
    abbrev w : Table
    w = table_after t (reading_of e) (Doubt i c.pair)

    -- a call of the table afterwards is one of the table before, in another slot
    held-before : (p v : ℕ) → Holds w p v → (h : Holds t p v) × (h.slot ≢ i)
    held-before p v h =
        let after = set t.slots.all i no_slot in
        let gone = get_or-set_same t.slots.all i no_slot no_slot (live_within t i c q live) in
        let other : h.slot ≢ i = λ same. not_live h.call h.state (ap (λ (x : Slot). x.hold) (sym gone) ∙ ap (λ (j : ℕ). (get_or after j no_slot).hold) (sym same) ∙ h.live) in
        let stays = get_or-set_other t.slots.all i h.slot no_slot no_slot other in
        (record { slot = h.slot; call = h.call; state = h.state; live = ap (λ (x : Slot). x.hold) (sym stays) ∙ h.live; pair = h.pair }, other)

    not_yet : in_pairs t.doubts c.pair.vpci c.pair.vci ≡ false
    not_yet =
        by_test (in_pairs t.doubts c.pair.vpci c.pair.vci)
        (λ y. absurd (s.doubt_not_held c.pair.vpci c.pair.vci y (record { slot = i; call = c; state = q; live = live; pair = record { vpci = refl; vci = refl } })))
        (λ n. n)

    in_or_old : {P : Type 0} (p v : ℕ) → InDoubt w p v → ((c.pair.vpci ≡ p) × (c.pair.vci ≡ v) → P) → (InDoubt t p v → P) → P
    in_or_old p v h f g =
        let k = s.calls_sound i c q live in
        either (eqb c.pair.vpci p && eqb c.pair.vci v) (in_pairs t.doubts p v)
        (sym (with_in t.doubts c.pair.vpci c.pair.vci p v room (omega (arith, k.vci_high))) ∙ h)
        (λ y. let a = both (eqb c.pair.vpci p) (eqb c.pair.vci v) y in f (eqb-true _ _ a.0, eqb-true _ _ a.1))
        g

    begun_sound : DoubtsSound w
    begun_sound =
        let k = s.calls_sound i c q live in
        record {
          in_order = with_tidy t.doubts c.pair.vpci c.pair.vci s.doubts_tidy not_yet (omega (arith, k.vci_high));
          permits = λ p v h. in_or_old p v h (λ same. rw (← same.0, ← same.1) k.pair_permitted) (s.doubt_permitted p v);
          not_held = λ p v h b.
              let a = held-before p v b in
              in_or_old p v h
              (λ same. a.1 (s.pair_once a.0.slot i a.0.call c a.0.state q a.0.live live (a.0.pair.vpci ∙ sym same.0) (a.0.pair.vci ∙ sym same.1)))
              (λ d. s.doubt_not_held p v d a.0);
        }

    -- the pair that begins to be in doubt was held
    begun_origin : (p v : ℕ) → InDoubt w p v → InDoubt t p v ⊎ Holds t p v
    begun_origin p v h =
        in_or_old p v h (λ same. inr (record { slot = i; call = c; state = q; live = live; pair = record { vpci = same.0; vci = same.1 } })) (λ d. inl d)

  pub doubt_origin : (x : declared.Change) → Touched t (reading_of e) x → (p v : ℕ) → in_pairs (doubts_after x t.doubts) p v ≡ true → InDoubt t p v ⊎ Holds t p v
  doubt_origin x keeps p v h = inl h
  doubt_origin x (puts i a n) p v h = inl h
  doubt_origin x (begins i c q live room) p v h = begun_origin i c q live room p v h
  doubt_origin x (ends which) p v h = inl (ended_origin which p v h).1
  doubt_origin x (acknowledged which) p v h = inl (ended_origin which p v h).1
  doubt_origin x (marks which n room) p v h = inl (ended_origin which p v h).1
  doubt_origin x (requests which second n) p v h = inl h
  doubt_origin x puts_back p v h = inl h

  pub doubts_sound : (x : declared.Change) → Change t e (slots_after x t.slots).all → Touched t (reading_of e) x → DoubtsSound (table_after t (reading_of e) x)
  doubts_sound x change keeps = from_old Keep change s.doubts_tidy (λ p v h. h)
  doubts_sound x change (puts i a n) = from_old (Put i a n) change s.doubts_tidy (λ p v h. h)
  doubts_sound x change (begins i c q live room) = begun_sound i c q live room
  doubts_sound x change (ends which) = ended_sound which User change
  doubts_sound x change (acknowledged which) = ended_sound which Acknowledged change
  doubts_sound x change (marks which n room) = ended_sound which Expired change
  doubts_sound x change (requests which second n) = from_old (Request which second (reading_of e + t316)) change s.doubts_tidy (λ p v h. h)
  doubts_sound x change puts_back = from_old PutBack change s.doubts_tidy (λ p v h. h)
