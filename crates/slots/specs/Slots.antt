-- The slots together: the references in use, and what one slot holds.
--   slot_count                         how many slots the table has
--   slots_of, flags_of, is_set           a list of slots as the table's; a list of flags; if a flag is set
--   spot                              a slot with its number
--   hold_at, Within                    what a slot holds
--   in_use, unused_from, unused_reference   network-originated references
-- Lists of slots are of any length. Assumes nothing.
use Rattle.std.specs.Prelude.{ℕ, zero, suc, ◌+◌, ◌<◌, Bool, true, cond, List, length, get_or, Option, Some, None}
use Rattle.std.specs.List.{list_any}
use Rattle.calls.specs.declared.Hold.{Hold}
use Rattle.calls.specs.declared.Hold.TheVariants.{Empty, Live}
use Rattle.calls.specs.declared.Slot.{Slot}
use Rattle.calls.specs.Calls.{no_slot, is_call}
use Rattle.slots.specs.declared.Slots.{Slots}
use Rattle.slots.specs.declared.Flags.{Flags}

-- "The table has the 32 slots of calls"
abbrev pub slot_count : ℕ
slot_count = 32

abbrev pub slots_of : List Slot → Slots
slots_of ss = record { all = ss }

abbrev pub flags_of : List Bool → Flags
flags_of on = record { on = on }

abbrev pub is_set : Bool → Bool
is_set b = b

-- the slot at a place
abbrev pub spot : List Slot → Option ℕ → Option (ℕ × Slot)
spot ss None = None
spot ss (Some i) = Some (i, get_or ss i no_slot)

-- what a slot holds; one that the table lacks holds nothing
abbrev pub hold_at : List Slot → ℕ → Hold
hold_at ss i = (get_or ss i no_slot).hold

-- a slot that holds a call is one of the table's
abbrev pub Within : ℕ → Hold → Type 0
Within i Empty = Unit {0}
Within i (Live c q) = i < slot_count

-- "lowest network-originated reference value from 1 not in use": of as many as there are slots, and one more
abbrev pub in_use : ℕ → List Slot → Bool
in_use r ss = list_any (is_call true r) ss

abbrev pub unused_from : ℕ → ℕ → List Slot → ℕ
unused_from r zero ss = r
unused_from r (suc k) ss = cond (in_use r ss) (unused_from (r + 1) k ss) r

abbrev pub unused_reference : List Slot → ℕ
unused_reference ss = unused_from 1 (length ss) ss
