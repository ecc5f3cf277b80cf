-- Timers of slots: if one is due, and which one a tick fires.
--   some_due                   if some slot is due at a reading
--   timer                     a slot with its deadline, and if another is due
--   earlier, considered       the soonest timer after one more deadline
--   soonest_from, soonest      of a list of slots
--   place_of, next_due          the slot whose timer a tick fires
-- Lists of slots are of any length. Assumes nothing.
use Rattle.std.specs.Prelude.{ℕ, ◌+◌, Bool, true, false, cond, List, [], ◌∷◌, ltb, Option, Some, None}
use Rattle.std.specs.List.{list_any}
use Rattle.calls.specs.declared.Slot.{Slot}
use Rattle.calls.specs.Timers.{deadline_of, due_by, is_due}
use Rattle.slots.specs.declared.Timer.{Timer}

abbrev pub some_due : ℕ → List Slot → Bool
some_due reading ss = list_any (is_due reading) ss

-- a slot, its deadline, and if another slot is due
abbrev pub timer : ℕ → ℕ → Bool → Timer
timer n d a = record { slot = n; deadline = d; another = a }

-- "Smallest deadline first, then lowest slot": the slots come in order, so a later one needs a smaller deadline; and then another is due
abbrev pub earlier : Option Timer → ℕ → ℕ → Option Timer
earlier None n d = Some (timer n d false)
earlier (Some best) n d = cond (ltb d best.deadline) (Some (timer n d true)) (Some (timer best.slot best.deadline true))

abbrev pub considered : ℕ → Option Timer → ℕ → Option ℕ → Option Timer
considered reading b n None = b
considered reading b n (Some d) = cond (due_by reading (Some d)) (earlier b n d) b

abbrev pub soonest_from : ℕ → Option Timer → ℕ → List Slot → Option Timer
soonest_from reading b n [] = b
soonest_from reading b n (s ∷ ss) = soonest_from reading (considered reading b n (deadline_of s)) (n + 1) ss

abbrev pub soonest : ℕ → List Slot → Option Timer
soonest reading ss = soonest_from reading None 0 ss

abbrev pub place_of : Option Timer → Option ℕ
place_of None = None
place_of (Some best) = Some best.slot

abbrev pub next_due : ℕ → List Slot → Option ℕ
next_due reading ss = place_of (soonest reading ss)
