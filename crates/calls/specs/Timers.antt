-- Timers: the deadline of a call, and if it is due.
--   largest_reading            no later reading is accepted; milliseconds, as all times
--   t303, t308, t310          how long each timer runs
--   state_due, deadline_of      the deadline of a state, and of a slot
--   due_by, is_due              if a deadline, a slot is due at a reading
-- Assumes nothing.
use Rattle.std.specs.Prelude.{ℕ, Bool, false, leb, Option, Some, None}
use Rattle.calls.specs.declared.State.{State}
use Rattle.calls.specs.declared.State.TheVariants.{N3, N6, N9, N10, N12}
use Rattle.calls.specs.declared.Hold.{Hold}
use Rattle.calls.specs.declared.Hold.TheVariants.{Empty, Live}
use Rattle.calls.specs.declared.Slot.{Slot}

-- "3 reading above 4,000,000,000,000"
abbrev pub largest_reading : ℕ
largest_reading = 4000000000000

-- "T303 4,000 ms", "T308 30,000", "T310 10,000"
abbrev pub t303 : ℕ
t303 = 4000

abbrev pub t308 : ℕ
t308 = 30000

abbrev pub t310 : ℕ
t310 = 10000

-- N6 runs T303, N9 T310 and N12 T308; N3 and N10 run none
abbrev pub state_due : State → Option ℕ
state_due N3 = None
state_due (N6 d) = Some d
state_due (N9 d) = Some d
state_due N10 = None
state_due (N12 k d) = Some d

abbrev pub hold_due : Hold → Option ℕ
hold_due Empty = None
hold_due (Live c q) = state_due q

abbrev pub deadline_of : Slot → Option ℕ
deadline_of s = hold_due s.hold

-- "Due: reading at least the deadline."
abbrev pub due_by : ℕ → Option ℕ → Bool
due_by reading None = false
due_by reading (Some d) = leb d reading

abbrev pub is_due : ℕ → Slot → Bool
is_due reading s = due_by reading (deadline_of s)
