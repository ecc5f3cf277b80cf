-- What a deed leaves as it is.
--   Of, decide_of              a deed of the call that a header names; every decision is one
--   Turning, decide_turning    a deed that fills no slot; so is every decision on a message other than SETUP
--   decide_alone               such a decision looks at the message's own call, and at nothing else
--   other_call                 a deed leaves every call of another flagged reference
--   Calm, calm_empty, calm_free     a deed that ends no call leaves every empty slot and every pair
-- Assumes nothing.
use Rattle.verdicts.specs.declared.Notice.{Notice}
use Rattle.std.specs.Prelude.{Option, Some, None}
use Prim.Native.Nat.{ℕ}
use mathlib.Core.Path.{◌≡◌, refl, ap, ◌∙◌}
use mathlib.Core.Bool.{Bool, true, false, not, ◌&&◌, ◌||◌}
use mathlib.Core.List.{List, [], ◌∷◌}
use lib.Dec.{eqb}
use borrow.Author.Tests.{eq-eqb}
use Rattle.identifier.specs.declared.Pair.{Pair}
use Rattle.std.specs.List.{list_any}
use Rattle.std.specs.Prelude.{Result, Ok, Err, ⊤}
use Rattle.channels.specs.Channels.{among}
use Rattle.channels.proofs.Cases.{by_test, clash}
use Rattle.channels.proofs.Lowest.{lowest_same}
use Rattle.pairs.specs.Pairs.{in_pairs}
use Rattle.service.specs.Service.{under_restart, is_out}
use Rattle.calls.specs.declared.State.{State}
use Rattle.calls.specs.declared.Hold.{Hold}
use Rattle.calls.specs.declared.Hold.TheVariants.{Empty, Live}
use Rattle.calls.specs.declared.Slot.{Slot}
use Rattle.calls.specs.Calls.{is_empty, empty_hold, refers_to, is_call, pair_held, holds_pair}
use Rattle.calls.proofs.Calls.{call_not_empty, call_named_once}
use Rattle.first.specs.First.{upd}
use Rattle.first.proofs.First.{Off}
use Rattle.header.specs.declared.Header.{Header}
use Rattle.replies.specs.declared.Cause.{Cause}
use Rattle.setup.specs.Setup.{admission}
use Rattle.verdicts.specs.declared.Fate.{Fate}
use Rattle.verdicts.specs.declared.Fate.TheVariants as fate
use Rattle.views.proofs.Verdicts.{by_choice}
use Rattle.independence.specs.Independence.{Given}
use Rattle.independence.proofs.Deeds.{Deed, turns, fills, reaches, changed, user_slot, in_state, fated, Ground, free_on, Sight, on_pair, admit, set_up, on_no_call, on_hold, decide_at, decide, mine}

pub data Of (h : Header) : Deed → Type 0 where
  of_turn : (g : Given) (f : Fate) → Of h (turns g f)
  of_fill : (g : Given) (p v : ℕ) → eqb h.kind 0x05 ≡ true → h.flag ≡ false → Of h (fills g h.reference p v)

both_true : (a b : Bool) → (not a && b) ≡ true → a ≡ false
both_true true b e = clash e refl
both_true false b e = refl

module _ (h : Header) (setup : eqb h.kind 0x05 ≡ true) (user : h.flag ≡ false) where
  pair_of : (i : ℕ) (c : Option Pair) → Of h (on_pair h.reference i c)
  pair_of i None = of_turn _ _
  pair_of i (Some pv) = of_fill _ pv.vpci pv.vci setup user

  admit_of : (f : Option ℕ) (c : Option Pair) → Of h (admit h.reference f c)
  admit_of None c = of_turn _ _
  admit_of (Some i) c = pair_of i c

  setup_of : (f : Option ℕ) (c : Option Pair) (a : Result ⊤ Cause) → Of h (set_up h.reference f c a)
  setup_of f c (Err cause) = of_turn _ _
  setup_of f c (Ok u) = admit_of f c

no_call_of : (m : List ℕ) (h : Header) (f : Option ℕ) (c : Option Pair) → Of h (on_no_call m h f c)
no_call_of m h f c =
    by_choice (Of h) (eqb h.kind 0x05) _ _
    (λ k. by_choice (Of h) (not h.flag && h.whole) _ _ (λ e. setup_of h k (both_true h.flag h.whole e) f c (admission m 9)) (λ e. of_turn _ _))
    (λ k. of_turn _ _)

hold_of : (m : List ℕ) (h : Header) (reading i : ℕ) (k : Hold) → Of h (on_hold m h reading i k)
hold_of m h reading i Empty = of_turn _ _
hold_of m h reading i (Live c q) = of_turn _ _

found_of : (m : List ℕ) (h : Header) (reading : ℕ) (see : Sight) (f : Option ℕ) → Of h (decide_at m h reading see f)
found_of m h reading see None = no_call_of m h see.empty see.pair
found_of m h reading see (Some i) = hold_of m h reading i see.slot.hold

pub decide_of : (m : List ℕ) (h : Header) (reading : ℕ) (see : Sight) → Of h (decide m h reading see)
decide_of m h reading see = found_of m h reading see see.call

pub data Turning : Deed → Type 0 where
  turn : (g : Given) (f : Fate) → Turning (turns g f)

of_turning : (h : Header) (d : Deed) → Of h d → eqb h.kind 0x05 ≡ false → Turning d
of_turning h d (of_turn g f) e = turn g f
of_turning h d (of_fill g p v setup user) e = clash setup e

pub decide_turning : (m : List ℕ) (h : Header) (reading : ℕ) (see : Sight) → eqb h.kind 0x05 ≡ false → Turning (decide m h reading see)
decide_turning m h reading see e = of_turning h _ (decide_of m h reading see) e

found_alone : (m : List ℕ) (h : Header) (reading : ℕ) (s t : Sight) (f : Option ℕ) → eqb h.kind 0x05 ≡ false → s.slot ≡ t.slot
    → decide_at m h reading s f ≡ decide_at m h reading t f
found_alone m h reading s t None e same = rw e
found_alone m h reading s t (Some i) e same = ap (λ (x : Slot). on_hold m h reading i x.hold) same

pub decide_alone : (m : List ℕ) (h : Header) (reading : ℕ) (s t : Sight) → eqb h.kind 0x05 ≡ false → s.call ≡ t.call → s.slot ≡ t.slot
    → decide m h reading s ≡ decide m h reading t
decide_alone m h reading s t e same-call same-slot =
    ap (λ (f : Option ℕ). decide_at m h reading s f) same-call ∙ found_alone m h reading s t t.call e same-slot

-- "Flag forgotten, so user reference 1 and network reference 1 become one call": flag and value, both
abbrev pub Other : Header → Header → Type 0
Other h k = h.flag ≡ k.flag → h.reference ≡ k.reference → ⊥

state_name : (n : Bool) (r : ℕ) (q : State) (k : Hold) → is_call n r (in_state q k) ≡ refers_to n r k
state_name n r q Empty = refl
state_name n r q (Live c p) = refl

fated_name : (n : Bool) (r : ℕ) (f : Fate) (s : Slot) → is_call n r s ≡ false → is_call n r (fated f s) ≡ false
fated_name n r fate.Stay s e = e
fated_name n r (fate.To q notice) s e = state_name n r q s.hold ∙ e
fated_name n r fate.Gone s e = refl
fated_name n r fate.InDoubt s e = refl

-- a slot that holds a call holds no call of another flagged reference
other_slot : (h k : Header) → Other h k → (s : Slot) → mine k s ≡ true → mine h s ≡ false
other_slot h k other s e =
    by_test (mine h s)
    (λ t. let same = call_named_once h.flag k.flag h.reference k.reference s t e in absurd (other same.0 same.1))
    (λ t. t)

empty_slot : (h : Header) (s : Slot) → is_empty s ≡ true → mine h s ≡ false
empty_slot h s e = by_test (mine h s) (λ t. clash e (call_not_empty h.flag h.reference s t)) (λ t. t)

user_slot_lem : (k : Header) (p v : ℕ) → k.flag ≡ false → mine k (user_slot k.reference p v) ≡ true
user_slot_lem k p v user = rw (user, eq-eqb k.reference k.reference refl)

pub other_call : (h k : Header) (d : Deed) → Other h k → Of k d → Off (mine h) (reaches (mine k) d) (changed d)
other_call h k d other (of_turn g f) = λ s e. (other_slot h k other s e, fated_name h.flag h.reference f s (other_slot h k other s e))
other_call h k d other (of_fill g p v setup user) = λ s e. (empty_slot h s e, other_slot h k other (user_slot k.reference p v) (user_slot_lem k p v user))

pub data Calm : Fate → Type 0 where
  stay : Calm fate.Stay
  to : (q : State) (notice : Option Notice) → Calm (fate.To q notice)

state_empty : (q : State) (k : Hold) → is_empty (in_state q k) ≡ empty_hold k
state_empty q Empty = refl
state_empty q (Live c p) = refl

fated_empty : (f : Fate) (s : Slot) → Calm f → is_empty (fated f s) ≡ is_empty s
fated_empty f s stay = refl
fated_empty f s (to q notice) = state_empty q s.hold

pub calm_empty : (h : Header) (f : Fate) → Calm f → Off is_empty (mine h) (fated f)
calm_empty h f calm s e = let live = call_not_empty h.flag h.reference s e in (live, fated_empty f s calm ∙ live)

module _ (p v : ℕ) where
  state_pair : (q : State) (k : Hold) → holds_pair p v (in_state q k) ≡ pair_held p v k
  state_pair q Empty = refl
  state_pair q (Live c x) = refl

  calm_pair : (f : Fate) (s : Slot) → Calm f → holds_pair p v (fated f s) ≡ holds_pair p v s
  calm_pair f s stay = refl
  calm_pair f s (to q notice) = state_pair q s.hold

  calm_pairs : (own : Slot → Bool) (f : Fate) (ss : List Slot) → Calm f → list_any (holds_pair p v) (upd own (fated f) ss) ≡ list_any (holds_pair p v) ss
  calm_pairs own f [] calm = refl
  calm_pairs own f (s ∷ ss) calm =
      by_test (own s)
      (λ e. rw e (ap (λ (b : Bool). b || list_any (holds_pair p v) ss) (calm_pair f s calm)))
      (λ e. rw e (ap (λ (b : Bool). holds_pair p v s || b) (calm_pairs own f ss calm)))

pub calm_free : (own : Slot → Bool) (f : Fate) (ground : Ground) (ss : List Slot) → Calm f → free_on ground (upd own (fated f) ss) ≡ free_on ground ss
calm_free own f ground ss calm =
    lowest_same _ _ ground.pool.ranges
    (λ p v. ap (λ (b : Bool). b || (in_pairs ground.doubts p v || (is_out ground.out p v || (under_restart ground.request p v || among p v ground.pool.permanents)))) (calm_pairs p v own f ss calm))
