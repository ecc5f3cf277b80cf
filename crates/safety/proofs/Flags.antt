-- Each notice goes with its flags, and what became of a slot has its notice.
--   not_asked, not_answered, not_gone      nothing became of a slot that stays
--   Exactly                                a notice and flags name exactly the slots meant, and what became of a slot has its notice
--   quiet_exact                            no slot changes
--   asked_exact, moved_exact, answered_exact, ended_exact     one slot is set
--   gone_exact                             calls on the pairs of a RESTART are gone
--   flags_exact
-- Assumes nothing.
use Rattle.identifier.specs.Pair.{pair}
use Prim.Native.Nat.{ℕ, zero, suc, ◌≤◌, ◌<◌}
use mathlib.Core.Path.{◌≡◌, refl, sym, ap, ◌∙◌}
use mathlib.Core.Logic.{◌≢◌}
use mathlib.Core.Bool.{Bool, true, false}
use mathlib.Core.List.{List, [], ◌∷◌, map}
use native.Mathlib.Omega.{arith}
use lib.Dec.{eqb}
use lib.ListN.{length, get_or, set, replicate, length-replicate, length-set, length-map}
use lib.Seq.{get_or-set_same, get_or-set_other}
use borrow.Author.Tests.{eqb-true, eqb-false}
use Rattle.std.specs.List.{list_any}
use Rattle.channels.specs.declared.Named.{Named}
use Rattle.channels.specs.declared.Named.TheVariants as named
use Rattle.channels.proofs.Cases.{by_test, clash}
use Rattle.channels.proofs.Some.{some_at}
use Rattle.calls.specs.declared.State.{State}
use Rattle.calls.specs.declared.State.TheVariants.{N10}
use Rattle.calls.specs.declared.Call.{Call}
use Rattle.calls.specs.declared.Hold.{Hold}
use Rattle.calls.specs.declared.Hold.TheVariants.{Empty, Live}
use Rattle.calls.specs.declared.Slot.{Slot}
use Rattle.calls.specs.Calls.{no_slot, live_slot, is_empty, is_named, emptied}
use Rattle.first.proofs.First.{placed}
use Rattle.slots.specs.declared.Flags.{Flags}
use Rattle.slots.specs.Slots.{slot_count, is_set}
use Rattle.effects.specs.declared.Change.{Change}
use Rattle.effects.specs.declared.Change.TheVariants.{Restart}
use Rattle.effects.specs.declared.Ending.{Ending}
use Rattle.effects.specs.Change.{no_flags, flags_at, flags_of, gone_notice, notice_of}
use Rattle.table.specs.declared.Table.{Table}
use Rattle.table.specs.Effects.{table_after}
use Rattle.outcome.specs.Outcome.{Outcome}
use Rattle.control.specs.Happens.{Event}
use Rattle.views.specs.Tables.{HasSlots, slot_at, HasCall}
use Rattle.views.specs.Effects.{reading_of}
use Rattle.views.proofs.View.{by_event}
use Rattle.safety.specs.Flags.{flag_of, CallAsked, CallAnswered, CallGone, OneFlag, NamesExactly, NoNotice, TellsAll, FlagsExact}
use Rattle.safety.proofs.Tables.{not_live, live_within, empty_at}
use Rattle.safety.proofs.Lists.{get_d_map, passes_within, some_found, get_or-replicate_default}
use Rattle.safety.proofs.Acts.{Acts, keeps, asks, moves, answers, ends, loses, restarts, requests, puts_back, does_acts}

-- one call in two states
same_state_lem : (c d : Call) (q r : State) → Live c q ≡ Live d r → q ≡ r
same_state_lem c d q r e = cc

-- equal slots hold the same
hold_same : {s s' : Slot} → s ≡ s' → s.hold ≡ s'.hold
hold_same e = ap (λ (s : Slot). s.hold) e

-- a slot that stays: nothing became of it
module _ {P : Type 0} (t u : Table) (i : ℕ) (same : slot_at u i ≡ slot_at t i) where
  not_asked : CallAsked t u i → P
  not_asked m = not_live m.call m.state (hold_same (sym (same ∙ m.before)) ∙ m.after)

  not_answered : CallAnswered t u i → P
  not_answered m = absurd (m.waiting (same_state_lem m.call m.call m.state N10 (sym m.before ∙ hold_same (sym same) ∙ m.after)))

  not_gone : CallGone t u i → P
  not_gone m = not_live m.call m.state (hold_same (sym m.after ∙ same) ∙ m.before)

abbrev Exactly : Table → Table → Event → ℕ → Flags → Type 0
Exactly t u e n f = NamesExactly t u n f × TellsAll t u e n

-- no flag

none_named : (t u : Table) (f : Flags) → length f.on ≡ slot_count → ((i : ℕ) → flag_of f i ≡ false) → NamesExactly t u 0 f
none_named t u f size none = record {
  thirty_two = size;
  most = omega arith;
  with_0 = λ z. none;
  with_1 = λ z. absurd (omega arith);
  with_2 = λ z. absurd (omega arith);
  with_3 = λ z. absurd (omega arith);
  with_3_all = λ z. absurd (omega arith);
  with_3_some = λ z. absurd (omega arith);
}

unset_named : (t u : Table) → NamesExactly t u 0 no_flags
unset_named t u = none_named t u no_flags (length-replicate slot_count false) (λ i. get_or-replicate_default slot_count i false)

-- all slots stay
quiet_exact : (t u : Table) (e : Event) → ((i : ℕ) → slot_at u i ≡ slot_at t i) → Exactly t u e 0 no_flags
quiet_exact t u e same = (
  unset_named t u,
  record {
    asked = λ i. not_asked t u i (same i);
    answered = λ own i. not_answered t u i (same i);
    gone = λ i. not_gone t u i (same i);
    unnamed = λ none. refl;
  },
)

-- slot i is set to s
module _ (t : Table) (whole : HasSlots t) (e : Event) (i : ℕ) (s : Slot) (below : i < length t.slots.all) (u : Table) (left : u.slots.all ≡ set t.slots.all i s) where
  set_at : flag_of (flags_at i) i ≡ true
  set_at = get_or-set_same (replicate slot_count false) i true false (rw (length-replicate slot_count false, ← whole) below)

  unset_at : (j : ℕ) → j ≢ i → flag_of (flags_at i) j ≡ false
  unset_at j other = get_or-set_other (replicate slot_count false) i j true false other ∙ get_or-replicate_default slot_count j false

  here : slot_at u i ≡ s
  here = rw left (get_or-set_same t.slots.all i s no_slot below)

  there : (j : ℕ) → j ≢ i → slot_at u j ≡ slot_at t j
  there j other = rw left (get_or-set_other t.slots.all i j s no_slot other)

  only_here : (j : ℕ) → ¬ (j ≢ i) → j ≡ i
  only_here j same = by_test (eqb j i) (λ y. eqb-true j i y) (λ n. absurd (same (eqb-false j i n)))

  one_flag : (Meant : ℕ → Type 0) → Meant i → ((j : ℕ) → Meant j → ¬ (j ≢ i)) → OneFlag (flags_at i) Meant
  one_flag Meant meant only = record { slot = i; meant = meant; no_other = λ j m. only_here j (only j m); raised = set_at; none_else = unset_at }

  -- the one flag names what the notice says became of slot i
  set-named : (n : ℕ) → 1 ≤ n → n ≤ 3 → (n ≡ 1 → CallAsked t u i) → (n ≡ 2 → CallAnswered t u i) → (n ≡ 3 → CallGone t u i) → NamesExactly t u n (flags_at i)
  set-named n some most asked answered gone = record {
    thirty_two = length-set (replicate slot_count false) i true ∙ length-replicate slot_count false;
    most = most;
    with_0 = λ z. absurd (omega arith);
    with_1 = λ z. one_flag (CallAsked t u) (asked z) (λ j m other. not_asked t u j (there j other) m);
    with_2 = λ z. one_flag (CallAnswered t u) (answered z) (λ j m other. not_answered t u j (there j other) m);
    with_3 = λ z j on. let same = only_here j (λ other. clash on (unset_at j other)) in rw same (gone z);
    with_3_all = λ z j m. let same = only_here j (λ other. not_gone t u j (there j other) m) in rw same set_at;
    with_3_some = λ z. (i, set_at);
  }

  -- what became of slot i has its notice
  set_tells : (n : ℕ) → (CallAsked t u i → n ≡ 1) → (¬ NoNotice e → CallAnswered t u i → n ≡ 2) → (CallGone t u i → n ≡ 3) → (NoNotice e → n ≡ 0) → TellsAll t u e n
  set_tells n asked answered gone unnamed = record {
    asked = λ j m. asked (rw (only_here j (λ other. not_asked t u j (there j other) m)) at m);
    answered = λ own j m. answered own (rw (only_here j (λ other. not_answered t u j (there j other) m)) at m);
    gone = λ j m. gone (rw (only_here j (λ other. not_gone t u j (there j other) m)) at m);
    unnamed = unnamed;
  }

  asked_exact : (c : Call) (q : State) → ¬ NoNotice e → slot_at t i ≡ no_slot → s.hold ≡ Live c q → Exactly t u e 1 (flags_at i)
  asked_exact c q own empty live = (
    set-named 1 (omega arith) (omega arith)
        (λ z. record { call = c; state = q; before = empty; after = rw here live })
        (λ z. absurd (omega arith))
        (λ z. absurd (omega arith)),
    set_tells 1
        (λ m. refl)
        (λ _ m. not_live m.call m.state (hold_same (sym empty) ∙ m.before))
        (λ m. not_live m.call m.state (hold_same (sym empty) ∙ m.before))
        (λ none. absurd (own none)),
  )

  -- slot i held the call c in state q
  module _ (c : Call) (q : State) (live : HasCall t i c q) where
    held-before : {P : Type 0} → CallAsked t u i → P
    held-before m = not_live c q (hold_same (sym m.before) ∙ live)

    held_after : {P : Type 0} (r : State) → s.hold ≡ Live c r → CallGone t u i → P
    held_after r holds m = not_live c r (hold_same (sym m.after ∙ here) ∙ holds)

    -- with no notice
    moved_exact : (r : State) → s.hold ≡ Live c r → (¬ NoNotice e → r ≢ N10) → Exactly t u e 0 no_flags
    moved_exact r holds other = (
      unset_named t u,
      set_tells 0 held-before
          (λ own m. absurd (other own (same_state_lem c m.call r N10 (sym holds ∙ hold_same (sym here) ∙ m.after))))
          (held_after r holds)
          (λ none. refl),
    )

    answered_exact : ¬ NoNotice e → q ≢ N10 → s.hold ≡ Live c N10 → Exactly t u e 2 (flags_at i)
    answered_exact own waiting holds = (
      set-named 2 (omega arith) (omega arith)
          (λ z. absurd (omega arith))
          (λ z. record { call = c; state = q; before = live; waiting = waiting; after = rw here holds })
          (λ z. absurd (omega arith)),
      set_tells 2 held-before (λ _ m. refl) (held_after N10 holds) (λ none. absurd (own none)),
    )

    ended_exact : ¬ NoNotice e → s ≡ no_slot → Exactly t u e 3 (flags_at i)
    ended_exact own empty = (
      set-named 3 (omega arith) (omega arith)
          (λ z. absurd (omega arith))
          (λ z. absurd (omega arith))
          (λ z. record { call = c; state = q; before = live; after = here ∙ empty }),
      set_tells 3 held-before
          (λ _ m. not_live m.call N10 (hold_same (sym (here ∙ empty)) ∙ m.after))
          (λ m. refl)
          (λ none. absurd (own none)),
    )

-- calls on the pairs of a RESTART are gone

named_live : (which : Named) (s : Slot) → is_named which s ≡ true → (c : Call) × ((q : State) × (s.hold ≡ Live c q))
named_live which s = hold_live which s.hold
  where
    hold_live : (which : Named) (h : Hold) → is_named which (record { hold = h }) ≡ true → (c : Call) × ((q : State) × (h ≡ Live c q))
    hold_live named.All Empty e = clash e refl
    hold_live named.All (Live c q) e = (c, (q, refl))
    hold_live (named.One c) Empty e = clash e refl
    hold_live (named.One which) (Live c q) e = (c, (q, refl))

module _ (t : Table) (whole : HasSlots t) (e : Event) (reading : ℕ) (which : Named) (why : Ending) where
  abbrev after : Table
  after = table_after t reading (Restart which why)

  abbrev on : List Bool
  on = map (is_named which) t.slots.all

  none_named_empty : is_named which no_slot ≡ false
  none_named_empty = by_test (is_named which no_slot) (λ y. let l = named_live which no_slot y in not_live l.0 l.1.0 l.1.1) (λ n. n)

  pub on_at : (i : ℕ) → get_or on i false ≡ is_named which (slot_at t i)
  on_at i = flag_at t.slots.all i
    where
      flag_at : (ss : List Slot) (i : ℕ) → get_or (map (is_named which) ss) i false ≡ is_named which (get_or ss i no_slot)
      flag_at [] i = sym none_named_empty
      flag_at (s ∷ ss) zero = refl
      flag_at (s ∷ ss) (suc i) = flag_at ss i

  left_at : (i : ℕ) → slot_at after i ≡ emptied (is_named which) (slot_at t i)
  left_at i = get_d_map (emptied (is_named which)) no_slot (rw none_named_empty) t.slots.all i

  sized : length on ≡ slot_count
  sized = length-map t.slots.all (is_named which) ∙ whole

  -- a slot stays, or its call is gone and its flag is set
  off_stays : (i : ℕ) → get_or on i false ≡ false → slot_at after i ≡ slot_at t i
  off_stays i off = left_at i ∙ rw (sym (on_at i) ∙ off)

  on_empty : (i : ℕ) → get_or on i false ≡ true → slot_at after i ≡ no_slot
  on_empty i y = left_at i ∙ rw (sym (on_at i) ∙ y)

  went : (i : ℕ) → get_or on i false ≡ true → CallGone t after i
  went i y =
      let l = named_live which (slot_at t i) (sym (on_at i) ∙ y) in
      record { call = l.0; state = l.1.0; before = l.1.1; after = on_empty i y }

  told : (i : ℕ) → CallGone t after i → get_or on i false ≡ true
  told i m = by_test (get_or on i false) (λ y. y) (λ n. not_gone t after i (off_stays i n) m)

  unset : list_any is_set on ≡ false → (i : ℕ) → get_or on i false ≡ false
  unset none i = by_test (get_or on i false) (λ y. clash (some_at is_set false on i (passes_within is_set false on i refl y) y) none) (λ n. n)

  -- no call is asked, and none is answered
  gone_tells : (n : ℕ) → ((i : ℕ) → CallGone t after i → n ≡ 3) → (NoNotice e → n ≡ 0) → TellsAll t after e n
  gone_tells n gone unnamed = record {
    asked = λ i m.
        by_test (get_or on i false)
        (λ y. not_live m.call m.state (hold_same (sym (on_empty i y)) ∙ m.after))
        (λ n. not_asked t after i (off_stays i n) m);
    answered = λ own i m.
        by_test (get_or on i false)
        (λ y. not_live m.call N10 (hold_same (sym (on_empty i y)) ∙ m.after))
        (λ n. not_answered t after i (off_stays i n) m);
    gone = gone;
    unnamed = unnamed;
  }

  some_gone : list_any is_set on ≡ true → NamesExactly t after 3 (record { on = on })
  some_gone some = record {
    thirty_two = sized;
    most = omega arith;
    with_0 = λ z. absurd (omega arith);
    with_1 = λ z. absurd (omega arith);
    with_2 = λ z. absurd (omega arith);
    with_3 = λ z. went;
    with_3_all = λ z. told;
    with_3_some = λ z. let f = some_found is_set false on some in (f.0, f.1.1);
  }

  gone_exact : ¬ NoNotice e → Exactly t after e (gone_notice (record { on = on })) (record { on = on })
  gone_exact own =
      by_test (list_any is_set on)
      (λ y. rw y (some_gone y, gone_tells 3 (λ i m. refl) (λ none. absurd (own none))))
      (λ n. rw n (none_named t after (record { on = on }) sized (unset n), gone_tells 0 (λ i m. clash (told i m) (unset n i)) (λ none. refl)))

-- Every event.

acts_exact : (t : Table) → HasSlots t → (e : Event) (reading : ℕ) (x : Change) → Acts t e x
    → Exactly t (table_after t reading x) e (notice_of x (flags_of x t.slots)) (flags_of x t.slots)
acts_exact t whole e reading x keeps = quiet_exact t _ e (λ i. refl)
acts_exact t whole e reading x (asks i c q f own) =
    let at = placed is_empty no_slot t.slots.all i f in
    asked_exact t whole e i (live_slot c q) at.below _ refl c q own (empty_at t i at.passes) refl
acts_exact t whole e reading x (moves i c q r live other) =
    moved_exact t whole e i (live_slot c r) (live_within t i c q live) _ refl c q live r refl other
acts_exact t whole e reading x (answers i c q live waiting own) =
    answered_exact t whole e i (live_slot c N10) (live_within t i c q live) _ refl c q live own waiting refl
acts_exact t whole e reading x (ends i c q live own) = ended_exact t whole e i no_slot (live_within t i c q live) _ refl c q live own refl
acts_exact t whole e reading x (loses i c q live own) = ended_exact t whole e i no_slot (live_within t i c q live) _ refl c q live own refl
acts_exact t whole e reading x (restarts which why own) = gone_exact t whole e reading which why own
acts_exact t whole e reading x (requests which second d) = quiet_exact t _ e (λ i. refl)
acts_exact t whole e reading x puts_back = quiet_exact t _ e (λ i. refl)

pub flags_exact : (t : Table) (e : Event) → HasSlots t → FlagsExact t e
flags_exact t e whole =
    let exact =
    by_event t e (λ (o : Outcome). Exactly t o.answer.table e o.answer.notice o.answer.flags)
    (λ n. quiet_exact t t e (λ i. refl))
    (λ z x d. acts_exact t whole e (reading_of e) x.change (does_acts t e x d)) in
    record { names = exact.0; tells = exact.1 }
