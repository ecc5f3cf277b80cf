-- The numbers of the reasons for a refusal (document 01, "Refusal numbers"; document 02, R-4).
--   number_of        the number of a reason, 1 to 13
--   refused_as       of a result, the number of its refusal, and 0 for what is accepted
-- Assumes nothing.
use Rattle.std.specs.Prelude.{ℕ, Result, Ok, Err}
use Rattle.refusal.specs.declared.Refusal.{Refusal}
use Rattle.refusal.specs.declared.Refusal.TheVariants.{ShortRoom, WrongLabel, LateReading, EarlyReading, MessageSize, NoCall, WrongState, ForeignCause, BrokenRule, UnfitBody, NoEmptySlot, NoFreePair, NoRestart}

abbrev pub number_of : Refusal → ℕ
number_of ShortRoom = 1
number_of WrongLabel = 2
number_of LateReading = 3
number_of EarlyReading = 4
number_of MessageSize = 5
number_of NoCall = 6
number_of WrongState = 7
number_of ForeignCause = 8
number_of BrokenRule = 9
number_of UnfitBody = 10
number_of NoEmptySlot = 11
number_of NoFreePair = 12
number_of NoRestart = 13

abbrev pub refused_as : {A : Type 0} → Result A Refusal → ℕ
refused_as (Ok a) = 0
refused_as (Err r) = number_of r
