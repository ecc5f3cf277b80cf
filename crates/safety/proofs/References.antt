-- Each live call's reference has 23 bits where the messages, and the form that was reloaded, were octets.
--   octets_fit, unused_fits, source_fits       a reference of three octets, one that is not in use, a new call's
--   slots_fit, form_fits                       those of a form
--   reached_fits
-- Assumes nothing.
use Prim.Native.Nat.{ℕ, zero, suc, ◌+◌, ◌*◌, ◌%◌, ◌<◌}
use mathlib.Core.Path.{◌≡◌}
use mathlib.Core.List.{List, [], ◌∷◌}
use native.Mathlib.Omega.{arith}
use lib.Dec.{eqb}
use lib.ListN.{length, get_or}
use lib.Seq.{get_or-drop}
use borrow.Author.Tests.{eqb-true}
use Rattle.channels.proofs.Cases.{by_test}
use Rattle.calls.specs.declared.State.{State}
use Rattle.calls.specs.declared.Call.{Call}
use Rattle.calls.specs.declared.Hold.TheVariants.{Live}
use Rattle.calls.specs.declared.Slot.{Slot}
use Rattle.calls.specs.Calls.{no_slot}
use Rattle.slots.specs.Slots.{slot_count, unused_reference}
use Rattle.slots.proofs.Unused.{unused_found}
use Rattle.table.specs.declared.Table.{Table}
use Rattle.control.specs.Happens.{Event, message, tick, connect, clear, offer, restart, put_marks_back, happens, after}
use Rattle.reading.specs.Reading.{two_at, rest, call_in, state_in, begins, slot_in, behind_slot, slots_in}
use Rattle.reload.specs.Reload.{reload_in}
use Rattle.reached.specs.Reached.{Beginning, start, reload, begun, Reached, BegunInOctets}
use Rattle.views.specs.Tables.{HasSlots}
use Rattle.views.specs.Effects.{refusal_of}
use Rattle.safety.specs.Sound.{Sound, InOctets, AllInOctets, CarriedOctets, ReferencesFit}
use Rattle.safety.proofs.Changes.{Source, Comes, old, new, outcome_change}
use Rattle.safety.proofs.Tables.{not_live}
use Rattle.safety.proofs.Reloaded.{reload_in_lem}
use Rattle.safety.proofs.Sound.{left_accepted, left-refused, event_keeps_sound, begun_sound, no_call}

pub octets_fit : (a b c : ℕ) → b < 256 → c < 256 → (a % 128) * 65536 + b * 256 + c < 8388608
octets_fit a b c h k = omega arith

-- "lowest network-originated reference value from 1 not in use"
pub unused_fits : (t : Table) → HasSlots t → unused_reference t.slots.all < 8388608
unused_fits t w = let u = unused_found (length t.slots.all) 1 t.slots.all in omega (arith, w, u.high)

source_fits : (t : Table) (e : Event) (r : ℕ) → HasSlots t → InOctets e → Source t e r → r < 8388608
source_fits t (message label reading room octets) r w h s = rw s (octets_fit (get_or octets 2 0) (get_or octets 3 0) (get_or octets 4 0) (h 3) (h 4))
source_fits t (tick label reading room) r w h s = absurd s
source_fits t (connect label reading room slot) r w h s = absurd s
source_fits t (clear label reading room slot cause) r w h s = absurd s
source_fits t (offer label reading room body) r w h s = rw s (unused_fits t w)
source_fits t (restart label reading room target) r w h s = absurd s
source_fits t (put_marks_back label reading room) r w h s = absurd s

comes_fits : (t : Table) (e : Event) (j : ℕ) (c : Call) (q : State) → HasSlots t → InOctets e → ReferencesFit t → Comes t e j c q → c.reference < 8388608
comes_fits t e j c q w h f (old p k s) = f j c p k
comes_fits t e j c q w h f (new n k) = source_fits t e c.reference w h n.source

event_keeps_fits : (t : Table) (e : Event) → HasSlots t → InOctets e → ReferencesFit t → ReferencesFit (happens t e).answer.table
event_keeps_fits t e w h f =
    by_test (eqb (refusal_of t e) 0)
    (λ y.
    rw (left_accepted t e y)
    (λ j c q k. comes_fits t e j c q w h f ((outcome_change t e (eqb-true (refusal_of t e) 0 y)).comes j c q k)))
    (λ n. rw (left-refused t e n) f)

after-fits : (t : Table) (es : List Event) → Sound t → AllInOctets es → ReferencesFit t → ReferencesFit (after t es)
after-fits t [] s h f = f
after-fits t (e ∷ es) s h f =
    after-fits (happens t e).answer.table es (event_keeps_sound t e s) h.1 (event_keeps_fits t e s.has_slots h.0 f)

-- A form of octets has references of 23 bits.

abbrev SlotFits : Slot → Type 0
SlotFits s = (c : Call) (q : State) → s.hold ≡ Live c q → c.reference < 8388608

abbrev AllFit : List Slot → Type 0
AllFit [] = Unit {0}
AllFit (s ∷ ss) = SlotFits s × AllFit ss

fit_at : (ss : List Slot) (i : ℕ) → AllFit ss → SlotFits (get_or ss i no_slot)
fit_at [] i f = λ c q e. not_live c q e
fit_at (s ∷ ss) zero f = f.0
fit_at (s ∷ ss) (suc i) f = fit_at ss i f.1

same_reference : (c d : Call) (q r : State) → Live c q ≡ Live d r → c.reference ≡ d.reference
same_reference c d q r e = cc

rest-octets : (f : List ℕ) → ((k : ℕ) → get_or f k 0 < 256) → (k : ℕ) → get_or (rest f) k 0 < 256
rest-octets f h k = rw (get_or-drop (3 + two_at f 1) f k 0) (h (3 + two_at f 1 + k))

slot_fits : (slot : ℕ) (f : List ℕ) → ((k : ℕ) → get_or f k 0 < 256) → SlotFits (slot_in slot f)
slot_fits slot f h =
    by_test (begins slot f)
    (λ y. rw y (λ c q e. rw (same_reference (call_in f) c (state_in f) q e) at (octets_fit (get_or f 4 0) (get_or f 5 0) (get_or f 6 0) (h 5) (h 6))))
    (λ z. rw z (λ c q e. not_live c q e))

slots_fit : (slot n : ℕ) (f : List ℕ) → ((k : ℕ) → get_or f k 0 < 256) → AllFit (slots_in slot f n)
unfolding slots_in
slots_fit slot zero f h = tt
slots_fit slot (suc n) f h =
    (slot_fits slot f h, slots_fit (slot + 1) n (behind_slot slot f) (by_test (begins slot f) (λ y. rw y (rest-octets f h)) (λ z. rw z h)))

pub form_fits : (count : ℕ) (f : List ℕ) → ((k : ℕ) → get_or f k 0 < 256) → (reload_in count f).refusal ≡ 0 → ReferencesFit (reload_in count f).table
form_fits count f h e =
    rw (reload_in_lem count f e).1
    (λ i c q k. fit_at (slots_in 0 (rest (rest (rest (rest (rest (rest f)))))) count) i
    (slots_fit 0 count (rest (rest (rest (rest (rest (rest f))))))
    (rest-octets (rest (rest (rest (rest (rest f)))))
    (rest-octets (rest (rest (rest (rest f))))
    (rest-octets (rest (rest (rest f))) (rest-octets (rest (rest f)) (rest-octets (rest f) (rest-octets f h))))))) c q k)

-- Every table that is reached.

begun-fits : (b : Beginning) → (begun b).refusal ≡ 0 → BegunInOctets b → ReferencesFit (begun b).table
begun-fits (start ranges pairs) e h = λ i c q k. no_call ranges pairs i c q k
begun-fits (reload form) e h = form_fits slot_count form h e

pub reached_fits : (t : Table) (r : Reached t) → CarriedOctets t r → ReferencesFit t
reached_fits t r h =
    rw r.gives at
    (after-fits (begun r.beginning).table r.events (begun_sound r.beginning r.accepted) h.1 (begun-fits r.beginning r.accepted h.0))
