-- Laws of the timer that a tick fires.
--   soonest_more, soonest_end      for the loop: the slot at i, and no slot left
--   next_due_below                 a slot that is found is one of the list
--   next_due_at                    its timer is due, has the smallest deadline, and is of the lowest slot that has it
--   next_due_nothing, none_next_due    nothing is found if and only if no slot is due
--   another_due                    whether another is due, when the slot that fires is due no more
-- Assumes nothing.
use Rattle.std.specs.Prelude.{Option, Some, None}
use Prim.Native.Nat.{ℕ, zero, suc, ◌+◌, ◌≤◌, ◌<◌}
use mathlib.Core.Path.{◌≡◌, refl, ◌∙◌}
use mathlib.Core.Logic.{◌≢◌}
use mathlib.Core.Bool.{Bool, true, false}
use mathlib.Core.List.{List, [], ◌∷◌}
use native.Mathlib.Omega.{arith}
use native.Mathlib.Numerals.{add-one}
use lib.Dec.{eqb, leb, ltb}
use lib.ListN.{length, drop, get_or, set, drop_of_length-le, length-set}
use lib.Seq.{drop-cons, get_or-set_same, get_or-set_other}
use borrow.Author.Tests.{eqb-true, eqb-false, leb-true, leb-false, ltb-true, ltb-false, le-leb}
use Rattle.channels.proofs.Cases.{by_test, clash}
use Rattle.channels.proofs.Some.{some_at, some_none}
use Rattle.calls.specs.declared.Slot.{Slot}
use Rattle.calls.specs.Calls.{no_slot}
use Rattle.calls.specs.Timers.{deadline_of, is_due}
use Rattle.first.specs.First.{Below}
use Rattle.slots.specs.declared.Timer.{Timer}
use Rattle.slots.specs.Timers.{timer, earlier, considered, soonest_from, soonest, next_due, place_of, some_due}

module _ (reading : ℕ) (b : Option Timer) (ss : List Slot) (i : ℕ) where
  pub soonest_more : i < length ss
      → soonest_from reading b i (drop i ss) ≡ soonest_from reading (considered reading b i (deadline_of (get_or ss i no_slot))) (i + 1) (drop (i + 1) ss)
  soonest_more h =
      let e : drop i ss ≡ get_or ss i no_slot ∷ drop (i + 1) ss = drop-cons ss i no_slot h ∙ rw (add-one i) in
      rw e

  pub soonest_end : length ss ≤ i → soonest_from reading b i (drop i ss) ≡ b
  soonest_end h = rw (drop_of_length-le ss {i = i} h)

-- what is found so far lies before slot n
abbrev pub Before : ℕ → Option Timer → Type 0
Before n b = Below n (place_of b)

pub before_more : (b : Option Timer) (n : ℕ) → Before n b → Before (n + 1) b
before_more None n h = tt
before_more (Some t) n h = omega arith

pub earlier-before : (b : Option Timer) (n d : ℕ) → Before n b → Before (n + 1) (earlier b n d)
earlier-before None n d h = omega arith
earlier-before (Some t) n d h = by_test (ltb d t.deadline) (λ t. rw t (omega arith)) (λ t. rw t (omega arith))

pub considered-before : (reading : ℕ) (b : Option Timer) (n : ℕ) (due : Option ℕ) → Before n b → Before (n + 1) (considered reading b n due)
considered-before reading b n None h = before_more b n h
considered-before reading b n (Some d) h = by_test (leb d reading) (λ t. rw t (earlier-before b n d h)) (λ t. rw t (before_more b n h))

pub soonest-before : (reading : ℕ) (ss : List Slot) (b : Option Timer) (n : ℕ) → Before n b → Before (n + length ss) (soonest_from reading b n ss)
soonest-before reading [] b n h = rw (let e : n + 0 ≡ n = omega arith in e) h
soonest-before reading (s ∷ ss) b n h =
    let e : n + length (s ∷ ss) ≡ (n + 1) + length ss = omega arith in
    rw e (soonest-before reading ss (considered reading b n (deadline_of s)) (n + 1) (considered-before reading b n (deadline_of s) h))

pub next_due_below : (reading : ℕ) (ss : List Slot) → Below (length ss) (next_due reading ss)
next_due_below reading ss =
    let e : 0 + length ss ≡ length ss = omega arith in
    rw e at (soonest-before reading ss None 0 tt)

-- for each j below n + 1, from each j below n and n itself
upto : (P : ℕ → Type 0) (n : ℕ) → ((j : ℕ) → j < n → P j) → P n → (j : ℕ) → j < n + 1 → P j
upto P n f last j h = by_test (eqb j n) (λ t. rw (eqb-true j n t) last) (λ t. f j (omega (arith, eqb-false j n t)))

module _ (reading : ℕ) (ss : List Slot) where
  -- no timer of slot j comes before one of slot i with deadline d
  abbrev pub Later : ℕ → ℕ → ℕ → Type 0
  Later i d j = (e : ℕ) → deadline_of (get_or ss j no_slot) ≡ Some e → (d ≤ e) × (e ≤ d → i ≤ j)

  -- of the first n slots, slot i with deadline d is the one that a tick fires
  pub record Fires (n i d : ℕ) : Type 0 where
    pub below : i < n
    pub deadline : deadline_of (get_or ss i no_slot) ≡ Some d
    pub due : d ≤ reading
    pub least : (j : ℕ) → j < n → Later i d j

  abbrev pub NotDue : ℕ → Type 0
  NotDue j = is_due reading (get_or ss j no_slot) ≡ false

  -- whether one of the first n slots but slot i is due
  abbrev pub Others : ℕ → ℕ → Bool → Type 0
  Others n i true = (j : ℕ) × ((j < n) × ((j ≢ i) × (is_due reading (get_or ss j no_slot) ≡ true)))
  Others n i false = (j : ℕ) → j < n → j ≢ i → NotDue j

  abbrev pub Best : ℕ → Option Timer → Type 0
  Best n None = (j : ℕ) → j < n → NotDue j
  Best n (Some t) = Fires n t.slot t.deadline × Others n t.slot t.another

  not_due_later : (i d j : ℕ) → d ≤ reading → NotDue j → Later i d j
  not_due_later i d j h quiet e q =
      let past : reading < e = leb-false e reading (rw q at quiet) in
      (omega arith, λ k. absurd (omega arith))

  deadline_later : (i d j x : ℕ) → deadline_of (get_or ss j no_slot) ≡ Some x → d ≤ x → i ≤ j → Later i d j
  deadline_later i d j x q h k e q' =
      let same : x ≡ e = cc in
      (omega arith, λ l. k)

  others_kept : (n i : ℕ) (a : Bool) → NotDue n → Others n i a → Others (n + 1) i a
  others_kept n i true quiet h = (h.0, (omega (arith, h.1.0), h.1.1))
  others_kept n i false quiet h = upto (λ (j : ℕ). j ≢ i → NotDue j) n h (λ other. quiet)

  -- a slot with a deadline that has come
  came : (j d : ℕ) → deadline_of (get_or ss j no_slot) ≡ Some d → d ≤ reading → is_due reading (get_or ss j no_slot) ≡ true
  came j d q due = rw q (le-leb d reading due)

  kept : (b : Option Timer) (n : ℕ) → NotDue n → Best n b → Best (n + 1) b
  kept None n quiet h = upto NotDue n h quiet
  kept (Some t) n quiet h =
      let f = h.0 in (
        record { below = omega (arith, f.below); deadline = f.deadline; due = f.due; least = upto (Later t.slot t.deadline) n f.least (not_due_later t.slot t.deadline n f.due quiet) },
        others_kept n t.slot t.another quiet h.1,
      )

  earlier_best : (b : Option Timer) (n x : ℕ) → deadline_of (get_or ss n no_slot) ≡ Some x → x ≤ reading → Best n b → Best (n + 1) (earlier b n x)
  earlier_best None n x q due h = (
    record {
      below = omega arith;
      deadline = q;
      due = due;
      least = upto (Later n x) n (λ j k. not_due_later n x j due (h j k)) (deadline_later n x n x q (omega arith) (omega arith));
    },
    upto (λ (j : ℕ). j ≢ n → NotDue j) n (λ j k other. h j k) (λ other. absurd (other refl)),
  )
  earlier_best (Some best) n x q due h =
      let f = h.0 in
      by_test (ltb x best.deadline)
      (λ t.
      let lt = ltb-true x best.deadline t in
      rw t (
        record {
          below = omega arith;
          deadline = q;
          due = due;
          least = upto (Later n x) n (λ j k e q'. (omega (arith, (f.least j k e q').0), λ l. absurd (omega (arith, (f.least j k e q').0))))
              (deadline_later n x n x q (omega arith) (omega arith));
        },
        (best.slot, (omega (arith, f.below), (λ same. omega (arith, f.below, same), came best.slot best.deadline f.deadline f.due))),
      ))
      (λ t.
      let le = ltb-false x best.deadline t in
      rw t (
        record {
          below = omega (arith, f.below);
          deadline = f.deadline;
          due = f.due;
          least = upto (Later best.slot best.deadline) n f.least (deadline_later best.slot best.deadline n x q le (omega (arith, f.below)));
        },
        (n, (omega arith, (λ same. omega (arith, f.below, same), came n x q due))),
      ))

  considered_best : (b : Option Timer) (n : ℕ) (due : Option ℕ) → deadline_of (get_or ss n no_slot) ≡ due → Best n b → Best (n + 1) (considered reading b n due)
  considered_best b n None q h = kept b n (rw q) h
  considered_best b n (Some x) q h =
      by_test (leb x reading)
      (λ t. rw t (earlier_best b n x q (leb-true x reading t) h))
      (λ t. rw t (kept b n (rw (q, t)) h))

  best_from : (k n : ℕ) (b : Option Timer) → n + k ≡ length ss → Best n b → Best (length ss) (soonest_from reading b n (drop n ss))
  best_from zero n b e h =
      let all : n ≡ length ss = omega arith in
      rw (soonest_end reading b ss n (omega arith), ← all) h
  best_from (suc k) n b e h =
      rw (soonest_more reading b ss n (omega arith))
      (best_from k (n + 1) (considered reading b n (deadline_of (get_or ss n no_slot))) (omega arith) (considered_best b n (deadline_of (get_or ss n no_slot)) refl h))

  best_all : Best (length ss) (soonest_from reading None 0 ss)
  best_all = best_from (length ss) 0 None (omega arith) (λ j h. absurd (omega arith))

  best_at : (b : Option Timer) (i : ℕ) → Best (length ss) b → place_of b ≡ Some i → (d : ℕ) × Fires (length ss) i d
  best_at None i h e = let z : ◌≡◌ {A = ℕ} 0 1 = cc in absurd (omega arith)
  best_at (Some t) i h e =
      let same : t.slot ≡ i = cc in
      (t.deadline, rw same at h.0)

  pub next_due_at : (i : ℕ) → next_due reading ss ≡ Some i → (d : ℕ) × Fires (length ss) i d
  next_due_at i e = best_at (soonest_from reading None 0 ss) i best_all e

  best_nothing : (b : Option Timer) → Best (length ss) b → place_of b ≡ None → some_due reading ss ≡ false
  best_nothing None h e = some_none (is_due reading) no_slot ss h
  best_nothing (Some t) h e = let z : ◌≡◌ {A = ℕ} 0 1 = cc in absurd (omega arith)

  pub next_due_nothing : next_due reading ss ≡ None → some_due reading ss ≡ false
  next_due_nothing e = best_nothing (soonest_from reading None 0 ss) best_all e

  best_none : (b : Option Timer) → Best (length ss) b → some_due reading ss ≡ false → place_of b ≡ None
  best_none None h e = refl
  best_none (Some t) h e = clash (some_at (is_due reading) no_slot ss t.slot h.0.below (came t.slot t.deadline h.0.deadline h.0.due)) e

  pub none_next_due : some_due reading ss ≡ false → next_due reading ss ≡ None
  none_next_due e = best_none (soonest_from reading None 0 ss) best_all e

  -- the slot that fires, due no more
  others_due : (i : ℕ) (a : Bool) (s : Slot) → Others (length ss) i a → is_due reading s ≡ false → some_due reading (set ss i s) ≡ a
  others_due i true s h quiet =
      some_at (is_due reading) no_slot (set ss i s) h.0 (rw (length-set ss i s) h.1.0) (rw (get_or-set_other ss i h.0 s no_slot h.1.1.0) h.1.1.1)
  others_due i false s h quiet =
      some_none (is_due reading) no_slot (set ss i s)
      (λ j k.
      by_test (eqb j i)
      (λ same. let e = eqb-true j i same in rw (e, get_or-set_same ss i s no_slot (rw (length-set ss i s, e) at k)) quiet)
      (λ other. let e = eqb-false j i other in rw (get_or-set_other ss i j s no_slot e) (h j (rw (length-set ss i s) at k) e)))

  best_others : (b : Option Timer) (i d : ℕ) (a : Bool) → Best (length ss) b → b ≡ Some (timer i d a) → Others (length ss) i a
  best_others b i d a h e = (rw e at h).1

  pub another_due : (i d : ℕ) (a : Bool) (s : Slot) → soonest reading ss ≡ Some (timer i d a) → is_due reading s ≡ false → some_due reading (set ss i s) ≡ a
  another_due i d a s e quiet = others_due i a s (best_others (soonest reading ss) i d a best_all e) quiet

  pub soonest_due : (i d : ℕ) (a : Bool) → soonest reading ss ≡ Some (timer i d a) → Fires (length ss) i d
  soonest_due i d a e = (rw e at best_all).0
