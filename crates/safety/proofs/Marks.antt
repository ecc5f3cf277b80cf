-- What becomes of the pairs out of service and of our RESTART (document 02, R-4).
--   out_in_lem, marked_in, single_in     which pairs are out of service, and by a mark of their own, where those that a RESTART names are marked
--   named-gone               afterwards no call holds a pair that a RESTART names
--   marks_sound              afterwards the pairs out of service are as they must be
--   later_global, global_sound     so is our RESTART
-- Assumes nothing.
use Prim.Native.Nat.{ℕ, ◌+◌, ◌≤◌, ◌<◌}
use mathlib.Core.Path.{◌≡◌, refl, sym, ap, ◌∙◌}
use mathlib.Core.Logic.{⊎_elim}
use mathlib.Core.Bool.{Bool, true, false, ◌&&◌, ◌||◌}
use native.Mathlib.Omega.{arith}
use lib.Dec.{eqb}
use borrow.Author.Tests.{eqb-true, eq-eqb, not-true}
use Rattle.channels.specs.declared.Named.{Named}
use Rattle.channels.specs.declared.Named.TheVariants.{All, One}
use Rattle.channels.specs.declared.Pool.{Pool}
use Rattle.identifier.specs.Pair.{pair}
use Rattle.channels.specs.Channels.{permitted}
use Rattle.channels.proofs.Cases.{by_test, clash, both}
use Rattle.pairs.specs.Pairs.{is_full, in_pairs, names, Tidy}
use Rattle.pairs.proofs.Laws.{none_in, none_tidy, with_in, with_tidy, or_swap}
use Rattle.calls.specs.declared.State.{State}
use Rattle.calls.specs.declared.Call.{Call}
use Rattle.calls.specs.declared.Hold.{Hold}
use Rattle.calls.specs.declared.Hold.TheVariants.{Live}
use Rattle.calls.specs.declared.Slot.{Slot}
use Rattle.calls.specs.Calls.{no_slot, live_slot, is_named, emptied}
use Rattle.service.specs.declared.GlobalState.{GlobalState}
use Rattle.service.specs.declared.GlobalState.TheVariants.{RestartRequest}
use Rattle.service.specs.declared.OutOfService.{OutOfService}
use Rattle.service.specs.Service.{t316, is_out, has_room, with_out}
use Rattle.effects.specs.declared.Change as declared
use Rattle.effects.specs.declared.Change.TheVariants.{Keep, Put, Doubt, Restart, Request}
use Rattle.effects.specs.declared.Ending.{Ending}
use Rattle.effects.specs.declared.Ending.TheVariants.{User, Acknowledged, Expired}
use Rattle.effects.specs.Change.{slots_after, global_after}
use Rattle.table.specs.declared.Table.{Table}
use Rattle.table.specs.Effects.{table_after}
use Rattle.control.specs.Happens.{Event}
use Rattle.views.specs.Tables.{slot_at, OnPair, Holds, InDoubt, IsOut}
use Rattle.views.specs.Effects.{reading_of}
use Rattle.safety.specs.Sound.{GlobalSound, none_sent, one_sent, all_sent, Sound}
use Rattle.safety.proofs.Cases.{either}
use Rattle.safety.proofs.Lists.{get_d_map}
use Rattle.safety.proofs.Tables.{not_live, out_not_free}
use Rattle.safety.proofs.Changes.{Change}
use Rattle.safety.proofs.Doubtful.{Nameable, sound_nameable, Touched, keeps, puts, begins, ends, acknowledged, marks, requests, puts_back, still_not_held, ended_origin, doubt_origin}

-- The pairs that are marked.

-- a VCI has 16 bits
abbrev pub Narrow : Named → Type 0
Narrow All = Unit {0}
Narrow (One pv) = pv.vci < 65536

-- the single pair that a RESTART names
abbrev pub names_one : Named → ℕ → ℕ → Bool
names_one All q w = false
names_one (One pv) q w = eqb pv.vpci q && eqb pv.vci w

pub marked_in : (o : OutOfService) (which : Named) (q w : ℕ) → has_room o which ≡ true → Narrow which
    → in_pairs (with_out o which).pairs q w ≡ (names_one which q w || in_pairs o.pairs q w)
marked_in o All q w room narrow = refl
marked_in o (One pv) q w room narrow =
    by_test (in_pairs o.pairs pv.vpci pv.vci)
    (λ y. rw y (by_test (eqb pv.vpci q && eqb pv.vci w) (λ same. let b = both (eqb pv.vpci q) (eqb pv.vci w) same in rw (same, ← eqb-true pv.vpci q b.0, ← eqb-true pv.vci w b.1) y) (λ n. rw n)))
    (λ n. rw n (with_in o.pairs pv.vpci pv.vci q w (not-true (is_full o.pairs) room) narrow))

pub all_stays : (o : OutOfService) (p v : ℕ) → (with_out o (One (pair p v))).all ≡ o.all
all_stays o p v = by_test (in_pairs o.pairs p v) (λ y. rw y) (λ n. rw n)

pub out_in_lem : (o : OutOfService) (which : Named) (q w : ℕ) → has_room o which ≡ true → Narrow which → is_out (with_out o which) q w ≡ (names which q w || is_out o q w)
out_in_lem o All q w room narrow = refl
out_in_lem o (One pv) q w room narrow =
    rw (marked_in o (One pv) q w room narrow, all_stays o pv.vpci pv.vci) (or_swap o.all (eqb pv.vpci q && eqb pv.vci w) (in_pairs o.pairs q w))

pub single_in : (o : OutOfService) (which : Named) (p v q w : ℕ) → has_room o which ≡ true → Narrow which → which ≡ One (pair p v)
    → in_pairs (with_out o which).pairs q w ≡ (names which q w || in_pairs o.pairs q w)
single_in o All p v q w room narrow e = let z : ◌≡◌ {A = ℕ} 0 1 = cc in absurd (omega arith)
single_in o (One ab) p v q w room narrow e = marked_in o (One ab) q w room narrow

marked_tidy : (o : OutOfService) (which : Named) → Tidy o.pairs → Narrow which → Tidy (with_out o which).pairs
marked_tidy o All tidy narrow = tidy
marked_tidy o (One pv) tidy narrow = by_test (in_pairs o.pairs pv.vpci pv.vci) (λ y. rw y tidy) (λ n. rw n (with_tidy o.pairs pv.vpci pv.vci tidy n narrow))

-- No call holds a pair that is named.

call_named : (which : Named) (p v : ℕ) (c : Call) (q : State) → names which p v ≡ true → OnPair p v c → is_named which (live_slot c q) ≡ true
call_named All p v c q n o = refl
call_named (One ab) p v c q n o =
    let same = both (eqb ab.vpci p) (eqb ab.vci v) n in
    rw (eq-eqb _ _ (o.vpci ∙ sym (eqb-true ab.vpci p same.0)), eq-eqb _ _ (o.vci ∙ sym (eqb-true ab.vci v same.1)))

pub emptied-none : (test : Slot → Bool) → emptied test no_slot ≡ no_slot
emptied-none test = by_test (test no_slot) (λ y. rw y) (λ n. rw n)

pub named-gone : (t : Table) (reading : ℕ) (which : Named) (why : Ending) (p v : ℕ) → names which p v ≡ true → Holds (table_after t reading (Restart which why)) p v → ⊥
named-gone t reading which why p v n h =
    let f = get_d_map (emptied (is_named which)) no_slot (emptied-none (is_named which)) t.slots.all h.slot in
    let g = ap (λ (x : Slot). x.hold) (sym f) ∙ h.live in
    by_test (is_named which (slot_at t h.slot))
    (λ y. not_live h.call h.state (rw y at g))
    (λ m.
    let live : (slot_at t h.slot).hold ≡ Live h.call h.state = rw m at g in
    clash (call_named which p v h.call h.state n h.pair) (sym (ap (λ (x : Hold). is_named which (record { hold = x })) live) ∙ m))

-- What must be so of the pairs out of service, and of our RESTART.

pub record MarksSound (t : Table) : Type 0 where
  pub in_order : Tidy t.out.pairs
  pub permits : (p v : ℕ) → in_pairs t.out.pairs p v ≡ true → permitted t.pool p v ≡ true
  pub not_held : (p v : ℕ) → IsOut t p v → Holds t p v → ⊥
  pub not_doubtful : (p v : ℕ) → IsOut t p v → InDoubt t p v → ⊥

module _ (t : Table) (s : Sound t) where
  narrow : (which : Named) → Nameable t.pool which → Narrow which
  narrow All n = tt
  narrow (One pv) n = omega (arith, (s.numbers pv.vpci pv.vci n).2)

  -- our RESTART names a pair of 16 bits
  pub named_narrow : (which : Named) (second : Bool) (d : ℕ) → t.global.state ≡ RestartRequest which second d → Narrow which
  named_narrow which second d g = narrow which (sound_nameable t.last t.pool which second d (rw g at s.global_sound))

  -- a single pair that is marked is permitted
  one_permitted : (which : Named) → Nameable t.pool which → (p v : ℕ) → names_one which p v ≡ true → permitted t.pool p v ≡ true
  one_permitted All n p v y = clash y refl
  one_permitted (One ab) n p v y = let same = both (eqb ab.vpci p) (eqb ab.vci v) y in rw (← eqb-true ab.vpci p same.0, ← eqb-true ab.vci v same.1) n

module _ (t : Table) (e : Event) (s : Sound t) where
  module _ (x : declared.Change) (change : Change t e (slots_after x t.slots).all) (touched : Touched t (reading_of e) x) where
    abbrev u : Table
    u = table_after t (reading_of e) x

    out_stays_unheld : (p v : ℕ) → IsOut t p v → Holds u p v → ⊥
    out_stays_unheld p v o = still_not_held t e s x change p v (s.out_not_held p v o) (out_not_free t p v o)

    out_stays_undoubted : (p v : ℕ) → IsOut t p v → InDoubt u p v → ⊥
    out_stays_undoubted p v o d =
        ⊎_elim (λ (h : InDoubt t p v). s.out_not_doubtful p v o h) (λ (h : Holds t p v). s.out_not_held p v o h) (doubt_origin t e s x touched p v d)

    -- no pair is marked, and none is put back
    as_before : u.out ≡ t.out → MarksSound u
    as_before same = record {
      in_order = rw same s.marks_tidy;
      permits = λ p v h. s.mark_permitted p v (rw same at h);
      not_held = λ p v o. out_stays_unheld p v (rw same at o);
      not_doubtful = λ p v o. out_stays_undoubted p v (rw same at o);
    }

  -- the pairs that a RESTART names are marked
  now_marked : (which : Named) → Nameable t.pool which → has_room t.out which ≡ true → Change t e (slots_after (Restart which Expired) t.slots).all
      → MarksSound (table_after t (reading_of e) (Restart which Expired))
  now_marked which n room change =
      let x = Restart which Expired in
      let touched = marks which n room in
      record {
        in_order = marked_tidy t.out which s.marks_tidy (narrow t s which n);
        permits = λ p v h.
            either (names_one which p v) (in_pairs t.out.pairs p v) (sym (marked_in t.out which p v room (narrow t s which n)) ∙ h)
            (one_permitted t s which n p v)
            (s.mark_permitted p v);
        not_held = λ p v o h.
            either (names which p v) (is_out t.out p v) (sym (out_in_lem t.out which p v room (narrow t s which n)) ∙ o)
            (λ y. named-gone t (reading_of e) which Expired p v y h)
            (λ y. out_stays_unheld x change touched p v y h);
        not_doubtful = λ p v o d.
            either (names which p v) (is_out t.out p v) (sym (out_in_lem t.out which p v room (narrow t s which n)) ∙ o)
            (λ y. clash y (ended_origin t e s which p v d).0)
            (λ y. out_stays_undoubted x change touched p v y d);
      }

  pub marks_sound : (x : declared.Change) → Change t e (slots_after x t.slots).all → Touched t (reading_of e) x → MarksSound (table_after t (reading_of e) x)
  marks_sound x change keeps = as_before Keep change keeps refl
  marks_sound x change (puts i a n) = as_before (Put i a n) change (puts i a n) refl
  marks_sound x change (begins i c q live room) = as_before (Doubt i c.pair) change (begins i c q live room) refl
  marks_sound x change (ends which) = as_before (Restart which User) change (ends which) refl
  marks_sound x change (acknowledged which) = as_before (Restart which Acknowledged) change (acknowledged which) refl
  marks_sound x change (marks which n room) = now_marked which n room change
  marks_sound x change (requests which second n) = as_before (Request which second (reading_of e + t316)) change (requests which second n) refl
  marks_sound x change puts_back = record {
    in_order = none_tidy;
    permits = λ p v h. clash h (none_in p v);
    not_held = λ p v o. clash o (none_in p v);
    not_doubtful = λ p v o. clash o (none_in p v);
  }

-- Our RESTART.

later_global : (last reading : ℕ) (pool : Pool) (g : GlobalState) → last ≤ reading → GlobalSound last pool g → GlobalSound reading pool g
later_global last reading pool g order none_sent = none_sent
later_global last reading pool g order (one_sent p v second d permits below) = one_sent p v second d permits (omega arith)
later_global last reading pool g order (all_sent second d below) = all_sent second d (omega arith)

requested_sound : (reading : ℕ) (pool : Pool) (which : Named) (second : Bool) → Nameable pool which → GlobalSound reading pool (RestartRequest which second (reading + t316))
requested_sound reading pool All second n = all_sent second (reading + t316) (omega arith)
requested_sound reading pool (One pv) second n = one_sent pv.vpci pv.vci second (reading + t316) n (omega arith)

pub global_sound : (t : Table) (e : Event) → Sound t → t.last ≤ reading_of e → (x : declared.Change) → Touched t (reading_of e) x
    → GlobalSound (reading_of e) t.pool (global_after x t.global).state
global_sound t e s order x touched = by_kind x touched
  where
    kept : GlobalSound (reading_of e) t.pool t.global.state
    kept = later_global t.last (reading_of e) t.pool t.global.state order s.global_sound

    by_kind : (x : declared.Change) → Touched t (reading_of e) x → GlobalSound (reading_of e) t.pool (global_after x t.global).state
    by_kind x keeps = kept
    by_kind x (puts i a n) = kept
    by_kind x (begins i c q live room) = kept
    by_kind x (ends which) = kept
    by_kind x (acknowledged which) = none_sent
    by_kind x (marks which n room) = none_sent
    by_kind x (requests which second n) = requested_sound (reading_of e) t.pool which second n
    by_kind x puts_back = kept
