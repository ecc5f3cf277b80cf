-- The number that an event is refused with applies, and every number that applies reaches it.
--   Reaches, Given                  a number that is not 0 and at most k; a number that satisfies P where it is not 0
--   applied, reaches
-- Assumes nothing.
use Rattle.std.specs.Prelude.{Option, Some, None}
use Prim.Native.Nat.{ℕ, ◌≤◌, ◌<◌}
use mathlib.Core.Path.{◌≡◌, refl, ap}
use mathlib.Core.Logic.{◌≢◌}
use mathlib.Core.Bool.{Bool, true, false, cond}
use mathlib.Core.List.{List, [], ◌∷◌}
use native.Mathlib.Omega.{arith}
use lib.Dec.{eqb, ltb}
use lib.ListN.{length, get_or-eq_default}
use borrow.Author.Tests.{eqb-true, eqb-false, ltb-true, ne_eqb, lt-ltb}
use Rattle.traffic.specs.Traffic.{member}
use Rattle.identifier.specs.declared.Pair.{Pair}
use Rattle.channels.specs.declared.Pool.{Pool}
use Rattle.channels.specs.Channels.{permitted}
use Rattle.channels.proofs.Cases.{by_test, clash}
use Rattle.calls.specs.declared.State.{State}
use Rattle.calls.specs.declared.State.TheVariants.{N3, N6, N9, N10, N12}
use Rattle.calls.specs.declared.Call.{Call}
use Rattle.calls.specs.declared.Hold.{Hold}
use Rattle.calls.specs.declared.Hold.TheVariants.{Empty, Live}
use Rattle.calls.specs.declared.Slot.{Slot}
use Rattle.calls.specs.Calls.{no_slot, is_empty}
use Rattle.calls.specs.Timers.{largest_reading}
use Rattle.slots.specs.Slots.{slot_count, hold_at}
use Rattle.replies.specs.Reply.{reply_room, body_room}
use Rattle.first.specs.First.{place}
use Rattle.setup.specs.Offer.{offer_fits}
use Rattle.service.specs.declared.GlobalState.{GlobalState}
use Rattle.service.specs.declared.GlobalState.TheVariants.{Null, RestartRequest}
use Rattle.service.specs.Service.{is_waiting}
use Rattle.restarts.specs.declared.Target.{Target}
use Rattle.restarts.specs.declared.Target.TheVariants as target
use Rattle.table.specs.declared.Table.{Table}
use Rattle.table.specs.Effects.{free_pair}
use Rattle.refusals.specs.Refusals.{or_else, size_refusal, unless_n3, unconnectable, when_n12, unclearable, host_causes, cause_refusal, body_refusal, slot_refusal, pair_refusal, may_restart, target_refusal}
use Rattle.control.specs.Happens.{Event, message, tick, connect, clear, offer, restart, put_marks_back}
use Rattle.views.specs.Tables.{HasSlots, slot_at}
use Rattle.views.specs.Effects.{label_of, reading_of, room_of, common_of, own_of, refusal_of}
use Rattle.safety.specs.FixedAnswers.{Applies, small_room, wrong_label, too_large, too_early, empty_message, long_message, connect_no_slot, connect_empty, clear_no_slot, clear_empty, not_in_N3, in_N12, foreign_cause, long_body, unfit_body, no_empty_slot, no_free_pair, second_command, not_permitted, wide_vpci, wide_vci}
use Rattle.safety.proofs.Tables.{none_free, free_none, none_empty, empty_none}

-- a number that is given and is not above k
abbrev pub Reaches : ℕ → ℕ → Type 0
Reaches k n = (1 ≤ n) × (n ≤ k)

reaches_first : (k n m : ℕ) → Reaches k n → Reaches k (or_else n m)
reaches_first k n m r = rw (ne_eqb n 0 (λ e. omega arith)) r

reaches_next : (k n m : ℕ) → n ≤ k → Reaches k m → Reaches k (or_else n m)
reaches_next k n m h r = by_test (eqb n 0) (λ e. rw e r) (λ e. rw e (omega (arith, eqb-false n 0 e), h))

-- a number that is given satisfies P
abbrev Given : (ℕ → Type 0) → ℕ → Type 0
Given P n = n ≢ 0 → P n

given_or_else : (P : ℕ → Type 0) (n m : ℕ) → Given P n → Given P m → Given P (or_else n m)
given_or_else P n m f g = by_test (eqb n 0) (λ e. rw e g) (λ e. rw e f)

given_test : (P : ℕ → Type 0) (b : Bool) (n : ℕ) → (b ≡ true → P n) → Given P (cond b n 0)
given_test P b n f = by_test b (λ e. rw e (λ h. f e)) (λ e. rw e (λ h. absurd (h refl)))

-- 1 to 4.

module _ (t : Table) (e : Event) where
  common_applied : Given (Applies t e) (common_of t e)
  common_applied =
      by_test (ltb (room_of e) reply_room)
      (λ a. rw a (λ h. small_room e (ltb-true _ _ a)))
      (λ a. by_test (eqb (label_of e) 1)
      (λ b. by_test (ltb largest_reading (reading_of e))
      (λ c. rw (a, b, c) (λ h. too_large e (ltb-true _ _ c)))
      (λ c. rw (a, b, c) (given_test (Applies t e) (ltb (reading_of e) t.last) 4 (λ d. too_early e (ltb-true _ _ d)))))
      (λ b. rw (a, b) (λ h. wrong_label e (eqb-false _ _ b))))

  common_high : common_of t e ≤ 4
  common_high =
      by_test (ltb (room_of e) reply_room)
      (λ a. rw a (omega arith))
      (λ a. by_test (eqb (label_of e) 1)
      (λ b. by_test (ltb largest_reading (reading_of e))
      (λ c. rw (a, b, c) (omega arith))
      (λ c. by_test (ltb (reading_of e) t.last) (λ d. rw (a, b, c, d) (omega arith)) (λ d. rw (a, b, c, d) (omega arith))))
      (λ b. rw (a, b) (omega arith)))

  first_reaches : (k : ℕ) → Reaches k (common_of t e) → Reaches k (refusal_of t e)
  first_reaches k r = reaches_first k (common_of t e) (own_of t e) r

  own_reaches : (k : ℕ) → 4 ≤ k → Reaches k (own_of t e) → Reaches k (refusal_of t e)
  own_reaches k h r = reaches_next k (common_of t e) (own_of t e) (omega (arith, common_high)) r

  small_room_reaches : room_of e < reply_room → Reaches 1 (common_of t e)
  small_room_reaches h = rw (lt-ltb _ _ h) (omega arith)

  wrong_label_reaches : label_of e ≢ 1 → Reaches 2 (common_of t e)
  wrong_label_reaches h =
      by_test (ltb (room_of e) reply_room)
      (λ a. rw a (omega arith))
      (λ a. rw (a, ne_eqb _ _ h) (omega arith))

  pub too_large_reaches : largest_reading < reading_of e → Reaches 3 (common_of t e)
  too_large_reaches h =
      by_test (ltb (room_of e) reply_room)
      (λ a. rw a (omega arith))
      (λ a. by_test (eqb (label_of e) 1)
      (λ b. rw (a, b, lt-ltb _ _ h) (omega arith))
      (λ b. rw (a, b) (omega arith)))

  pub too_early_reaches : reading_of e < t.last → Reaches 4 (common_of t e)
  too_early_reaches h =
      by_test (ltb (room_of e) reply_room)
      (λ a. rw a (omega arith))
      (λ a. by_test (eqb (label_of e) 1)
      (λ b. by_test (ltb largest_reading (reading_of e))
      (λ c. rw (a, b, c) (omega arith))
      (λ c. rw (a, b, c, lt-ltb _ _ h) (omega arith)))
      (λ b. rw (a, b) (omega arith)))

-- 5.

length_nothing : {A : Type 0} (xs : List A) → length xs ≡ 0 → xs ≡ []
length_nothing [] e = refl
length_nothing (x ∷ xs) e = absurd (omega arith)

size_applied : (t : Table) (label reading room : ℕ) (m : List ℕ) → Given (Applies t (message label reading room m)) (size_refusal m)
size_applied t label reading room m =
    by_test (eqb (length m) 0)
    (λ a. rw a (λ h. empty_message label reading room m (length_nothing m (eqb-true _ _ a))))
    (λ a. rw a (given_test (Applies t (message label reading room m)) (ltb 1024 (length m)) 5 (λ b. long_message label reading room m (ltb-true _ _ b))))

empty_reaches : (m : List ℕ) → m ≡ [] → Reaches 5 (size_refusal m)
empty_reaches m h = rw h (omega arith)

long_reaches : (m : List ℕ) → 1024 < length m → Reaches 5 (size_refusal m)
long_reaches m h = by_test (eqb (length m) 0) (λ a. rw a (omega arith)) (λ a. rw (a, lt-ltb _ _ h) (omega arith))

-- 6 and 7, over what the slot holds.

empty_slot : (s : Slot) → s.hold ≡ Empty → s ≡ no_slot
empty_slot s e = ap (λ (h : Hold). record { hold = h }) e

module _ (t : Table) (label reading room slot : ℕ) where
  N3_applied : (c : Call) (q : State) → (slot_at t slot).hold ≡ Live c q → Given (Applies t (connect label reading room slot)) (unless_n3 q)
  N3_applied c N3 h g = absurd (g refl)
  N3_applied c (N6 d) h g = not_in_N3 label reading room slot c _ h (λ z. let w : ◌≡◌ {A = ℕ} 0 1 = cc in omega arith)
  N3_applied c (N9 d) h g = not_in_N3 label reading room slot c _ h (λ z. let w : ◌≡◌ {A = ℕ} 0 1 = cc in omega arith)
  N3_applied c N10 h g = not_in_N3 label reading room slot c _ h (λ z. let w : ◌≡◌ {A = ℕ} 0 1 = cc in omega arith)
  N3_applied c (N12 k d) h g = not_in_N3 label reading room slot c _ h (λ z. let w : ◌≡◌ {A = ℕ} 0 1 = cc in omega arith)

  connect_applied : (k : Hold) → (slot_at t slot).hold ≡ k → Given (Applies t (connect label reading room slot)) (unconnectable k)
  connect_applied Empty h g = connect_empty label reading room slot (empty_slot (slot_at t slot) h)
  connect_applied (Live c q) h g = N3_applied c q h g

  module _ (cause : ℕ) where
    N12_applied : (c : Call) (q : State) → (slot_at t slot).hold ≡ Live c q → Given (Applies t (clear label reading room slot cause)) (when_n12 q)
    N12_applied c N3 h g = absurd (g refl)
    N12_applied c (N6 d) h g = absurd (g refl)
    N12_applied c (N9 d) h g = absurd (g refl)
    N12_applied c N10 h g = absurd (g refl)
    N12_applied c (N12 k d) h g = in_N12 label reading room slot cause c k d h

    clear_applied : (k : Hold) → (slot_at t slot).hold ≡ k → Given (Applies t (clear label reading room slot cause)) (unclearable k)
    clear_applied Empty h g = clear_empty label reading room slot cause (empty_slot (slot_at t slot) h)
    clear_applied (Live c q) h g = N12_applied c q h g

not_N3_reaches : (q : State) → q ≢ N3 → Reaches 7 (unless_n3 q)
not_N3_reaches N3 h = absurd (h refl)
not_N3_reaches (N6 d) h = omega arith
not_N3_reaches (N9 d) h = omega arith
not_N3_reaches N10 h = omega arith
not_N3_reaches (N12 k d) h = omega arith

in_N12_high : (q : State) → when_n12 q ≤ 7
in_N12_high N3 = omega arith
in_N12_high (N6 d) = omega arith
in_N12_high (N9 d) = omega arith
in_N12_high N10 = omega arith
in_N12_high (N12 k d) = omega arith

unclearable-high : (h : Hold) → unclearable h ≤ 7
unclearable-high Empty = omega arith
unclearable-high (Live c q) = in_N12_high q

cause_applied : (t : Table) (label reading room slot cause : ℕ) → Given (Applies t (clear label reading room slot cause)) (cause_refusal cause)
cause_applied t label reading room slot cause =
    by_test (member cause host_causes) (λ a. rw a (λ h. absurd (h refl))) (λ a. rw a (λ h. foreign_cause label reading room slot cause a))

-- 10 to 12.

body_applied : (t : Table) (label reading room : ℕ) (body : List ℕ) → Given (Applies t (offer label reading room body)) (body_refusal body)
body_applied t label reading room body =
    by_test (ltb body_room (length body))
    (λ a. rw a (λ h. long_body label reading room body (ltb-true _ _ a)))
    (λ a. by_test (offer_fits body) (λ b. rw (a, b) (λ h. absurd (h refl))) (λ b. rw (a, b) (λ h. unfit_body label reading room body b)))

body-high : (body : List ℕ) → body_refusal body ≤ 10
body-high body =
    by_test (ltb body_room (length body))
    (λ a. rw a (omega arith))
    (λ a. by_test (offer_fits body) (λ b. rw (a, b) (omega arith)) (λ b. rw (a, b) (omega arith)))

long_body_reaches : (body : List ℕ) → body_room < length body → Reaches 10 (body_refusal body)
long_body_reaches body h = rw (lt-ltb _ _ h) (omega arith)

unfit_body_reaches : (body : List ℕ) → offer_fits body ≡ false → Reaches 10 (body_refusal body)
unfit_body_reaches body h = by_test (ltb body_room (length body)) (λ a. rw a (omega arith)) (λ a. rw (a, h) (omega arith))

slot_high : (f : Option ℕ) → slot_refusal f ≤ 11
slot_high None = omega arith
slot_high (Some i) = omega arith

module _ (t : Table) (whole : HasSlots t) (label reading room : ℕ) (body : List ℕ) where
  slot_applied : (f : Option ℕ) → place is_empty t.slots.all ≡ f → Given (Applies t (offer label reading room body)) (slot_refusal f)
  slot_applied None e h = no_empty_slot label reading room body (none_empty t whole e)
  slot_applied (Some i) e h = absurd (h refl)

  pair_applied : (c : Option Pair) → free_pair t ≡ c → Given (Applies t (offer label reading room body)) (pair_refusal c)
  pair_applied None e h = no_free_pair label reading room body (none_free t e)
  pair_applied (Some pv) e h = absurd (h refl)

-- 13.

second_applied : (t : Table) (label reading room : ℕ) (target : Target) (g : GlobalState) → t.global.state ≡ g → is_waiting g ≡ true
    → Applies t (restart label reading room target) 13
second_applied t label reading room target Null f w = clash w refl
second_applied t label reading room target (RestartRequest which second d) f w = second_command label reading room target which second d f

module _ (t : Table) (label reading room : ℕ) where
  barred_applied : (target : Target) → may_restart t.pool target ≡ false → Applies t (restart label reading room target) 13
  barred_applied target.All m = clash refl m
  barred_applied (target.One p v) m =
      by_test (ltb 65535 p)
      (λ a. wide_vpci label reading room p v (ltb-true _ _ a))
      (λ a. by_test (ltb 65535 v)
      (λ b. wide_vci label reading room p v (ltb-true _ _ b))
      (λ b. not_permitted label reading room p v (rw (a, b) at m)))

  target_applied : (target : Target) → Given (Applies t (restart label reading room target)) (target_refusal t.global.state t.pool target)
  target_applied target =
      by_test (is_waiting t.global.state)
      (λ w. rw w (λ h. second_applied t label reading room target t.global.state refl w))
      (λ w. by_test (may_restart t.pool target) (λ m. rw (w, m) (λ h. absurd (h refl))) (λ m. rw (w, m) (λ h. barred_applied target m)))

  barred_reaches : (target : Target) → may_restart t.pool target ≡ false → Reaches 13 (target_refusal t.global.state t.pool target)
  barred_reaches target m = by_test (is_waiting t.global.state) (λ w. rw w (omega arith)) (λ w. rw (w, m) (omega arith))

wide_barred : (pool : Pool) (p v : ℕ) → 65535 < v → may_restart pool (target.One p v) ≡ false
wide_barred pool p v h = by_test (ltb 65535 p) (λ a. rw a) (λ a. rw (a, lt-ltb _ _ h))

other_barred : (pool : Pool) (p v : ℕ) → permitted pool p v ≡ false → may_restart pool (target.One p v) ≡ false
other_barred pool p v h = by_test (ltb 65535 p) (λ a. rw a) (λ a. by_test (ltb 65535 v) (λ b. rw (a, b)) (λ b. rw (a, b) h))

-- All events.

own_applied : (t : Table) (e : Event) → HasSlots t → Given (Applies t e) (own_of t e)
own_applied t (message label reading room octets) w = size_applied t label reading room octets
own_applied t (tick label reading room) w = λ h. absurd (h refl)
own_applied t (connect label reading room slot) w = connect_applied t label reading room slot (hold_at t.slots.all slot) refl
own_applied t (clear label reading room slot cause) w =
    given_or_else (Applies t (clear label reading room slot cause)) (unclearable (hold_at t.slots.all slot)) (cause_refusal cause)
    (clear_applied t label reading room slot cause (hold_at t.slots.all slot) refl)
    (cause_applied t label reading room slot cause)
own_applied t (offer label reading room body) w =
    given_or_else (Applies t (offer label reading room body)) (body_refusal body) _
    (body_applied t label reading room body)
    (given_or_else (Applies t (offer label reading room body)) (slot_refusal (place is_empty t.slots.all)) (pair_refusal (free_pair t))
    (slot_applied t w label reading room body (place is_empty t.slots.all) refl)
    (pair_applied t w label reading room body (free_pair t) refl))
own_applied t (restart label reading room target) w = target_applied t label reading room target
own_applied t (put_marks_back label reading room) w = λ h. absurd (h refl)

pub applied : (t : Table) (e : Event) → HasSlots t → refusal_of t e ≢ 0 → Applies t e (refusal_of t e)
applied t e w = given_or_else (Applies t e) (common_of t e) (own_of t e) (common_applied t e) (own_applied t e w)

past_slots : (t : Table) (slot : ℕ) → HasSlots t → slot_count ≤ slot → hold_at t.slots.all slot ≡ Empty
past_slots t slot w h = ap (λ (s : Slot). s.hold) (get_or-eq_default t.slots.all no_slot {n = slot} (rw w h))

empty_hold_lem : (t : Table) (slot : ℕ) → slot_at t slot ≡ no_slot → hold_at t.slots.all slot ≡ Empty
empty_hold_lem t slot h = ap (λ (s : Slot). s.hold) h

pub reaches : (t : Table) (e : Event) (k : ℕ) → HasSlots t → Applies t e k → Reaches k (refusal_of t e)
reaches t e k w (small_room _ h) = first_reaches t e 1 (small_room_reaches t e h)
reaches t e k w (wrong_label _ h) = first_reaches t e 2 (wrong_label_reaches t e h)
reaches t e k w (too_large _ h) = first_reaches t e 3 (too_large_reaches t e h)
reaches t e k w (too_early _ h) = first_reaches t e 4 (too_early_reaches t e h)
reaches t e k w (empty_message label reading room m h) = own_reaches t e 5 (omega arith) (empty_reaches m h)
reaches t e k w (long_message label reading room m h) = own_reaches t e 5 (omega arith) (long_reaches m h)
reaches t e k w (connect_no_slot label reading room slot h) = own_reaches t e 6 (omega arith) (rw (past_slots t slot w h) (omega arith))
reaches t e k w (connect_empty label reading room slot h) = own_reaches t e 6 (omega arith) (rw (empty_hold_lem t slot h) (omega arith))
reaches t e k w (clear_no_slot label reading room slot cause h) =
    own_reaches t e 6 (omega arith) (reaches_first 6 (unclearable (hold_at t.slots.all slot)) (cause_refusal cause) (rw (past_slots t slot w h) (omega arith)))
reaches t e k w (clear_empty label reading room slot cause h) =
    own_reaches t e 6 (omega arith) (reaches_first 6 (unclearable (hold_at t.slots.all slot)) (cause_refusal cause) (rw (empty_hold_lem t slot h) (omega arith)))
reaches t e k w (not_in_N3 label reading room slot c q h n) = own_reaches t e 7 (omega arith) (rw h (not_N3_reaches q n))
reaches t e k w (in_N12 label reading room slot cause c j d h) =
    own_reaches t e 7 (omega arith) (reaches_first 7 (unclearable (hold_at t.slots.all slot)) (cause_refusal cause) (rw h (omega arith)))
reaches t e k w (foreign_cause label reading room slot cause h) =
    own_reaches t e 8 (omega arith)
    (reaches_next 8 (unclearable (hold_at t.slots.all slot)) (cause_refusal cause) (omega (arith, unclearable-high (hold_at t.slots.all slot))) (rw h (omega arith)))
reaches t e k w (long_body label reading room body h) =
    own_reaches t e 10 (omega arith) (reaches_first 10 (body_refusal body) _ (long_body_reaches body h))
reaches t e k w (unfit_body label reading room body h) =
    own_reaches t e 10 (omega arith) (reaches_first 10 (body_refusal body) _ (unfit_body_reaches body h))
reaches t e k w (no_empty_slot label reading room body h) =
    own_reaches t e 11 (omega arith)
    (reaches_next 11 (body_refusal body) _ (omega (arith, body-high body))
    (reaches_first 11 (slot_refusal (place is_empty t.slots.all)) (pair_refusal (free_pair t)) (rw (empty_none t w h) (omega arith))))
reaches t e k w (no_free_pair label reading room body h) =
    own_reaches t e 12 (omega arith)
    (reaches_next 12 (body_refusal body) _ (omega (arith, body-high body))
    (reaches_next 12 (slot_refusal (place is_empty t.slots.all)) (pair_refusal (free_pair t)) (omega (arith, slot_high (place is_empty t.slots.all))) (rw (free_none t h) (omega arith))))
reaches t e k w (second_command label reading room target which second d h) = own_reaches t e 13 (omega arith) (rw h (omega arith))
reaches t e k w (not_permitted label reading room p v h) =
    own_reaches t e 13 (omega arith) (barred_reaches t label reading room (target.One p v) (other_barred t.pool p v h))
reaches t e k w (wide_vpci label reading room p v h) =
    own_reaches t e 13 (omega arith) (barred_reaches t label reading room (target.One p v) (rw (lt-ltb _ _ h)))
reaches t e k w (wide_vci label reading room p v h) =
    own_reaches t e 13 (omega arith) (barred_reaches t label reading room (target.One p v) (wide_barred t.pool p v h))
