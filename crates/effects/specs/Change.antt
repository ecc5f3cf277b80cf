-- What a change makes of the slots, the pairs in doubt and out of service, and our RESTART, and what it tells the host.
--   slots_after, doubts_after        the slots and the pairs in doubt afterwards
--   global_ended, global_after       the state of the global reference, where a RESTART ends, and afterwards
--   out_ended, out_after             the pairs out of service, where a RESTART ends, and afterwards
--   no_flags, flags_at, flagged      no flag; the flag of one slot; that with a notice alone
--   flags_of, gone_notice, notice_of  the flags and the notice of a change
-- Assumes nothing.
use Rattle.std.specs.Prelude.{ℕ, true, false, cond, map, eqb, set, replicate}
use Rattle.std.specs.List.{list_any}
use Rattle.channels.specs.declared.Named.{Named}
use Rattle.pairs.specs.declared.Pairs.{Pairs}
use Rattle.pairs.specs.Pairs.{with_pair, unless_named}
use Rattle.calls.specs.Calls.{no_slot, is_named, emptied}
use Rattle.slots.specs.declared.Slots.{Slots}
use Rattle.slots.specs.declared.Flags.{Flags}
use Rattle.slots.specs.Slots.{slot_count, slots_of, is_set}
use Rattle.service.specs.declared.Global.{Global}
use Rattle.service.specs.declared.GlobalState.TheVariants.{Null, RestartRequest}
use Rattle.service.specs.declared.OutOfService.{OutOfService}
use Rattle.service.specs.Service.{none_out, with_out}
use Rattle.verdicts.specs.Verdict.{notice_number}
use Rattle.effects.specs.declared.Ending.{Ending}
use Rattle.effects.specs.declared.Ending.TheVariants.{User, Acknowledged, Expired}
use Rattle.effects.specs.declared.Change.{Change}
use Rattle.effects.specs.declared.Change.TheVariants.{Keep, Put, Doubt, Restart, Request, PutBack}

-- "calls on the pair, or all calls .., are gone"
abbrev pub slots_after : Change → Slots → Slots
slots_after Keep ss = ss
slots_after (Put i s notice) ss = slots_of (set ss.all i s)
slots_after (Doubt i c) ss = slots_of (set ss.all i no_slot)
slots_after (Restart named why) ss = slots_of (map (emptied (is_named named)) ss.all)
slots_after (Request named second d) ss = ss
slots_after PutBack ss = ss

-- document 02, R-2: "Now the pair is in doubt"; "A user's RESTART that names it, or all, ends the doubt."; R-4: "empties the named calls ..
-- and ends the named doubts"; a second expiry "does the same to calls and doubts"
abbrev pub doubts_after : Change → Pairs → Pairs
doubts_after Keep ds = ds
doubts_after (Put i s notice) ds = ds
doubts_after (Doubt i c) ds = with_pair ds c.vpci c.vci
doubts_after (Restart named why) ds = unless_named ds named
doubts_after (Request named second d) ds = ds
doubts_after PutBack ds = ds

-- document 02, R-4: one "readable and the same ends the RESTART"; a second expiry "ends the RESTART"; a user's leaves it
abbrev pub global_ended : Ending → Global → Global
global_ended User g = g
global_ended Acknowledged g = record { state = Null }
global_ended Expired g = record { state = Null }

abbrev pub global_after : Change → Global → Global
global_after Keep g = g
global_after (Put i s notice) g = g
global_after (Doubt i c) g = g
global_after (Restart named why) g = global_ended why g
global_after (Request named second d) g = record { state = RestartRequest named second d }
global_after PutBack g = g

-- document 02, R-4: "marks the named pairs out of service until the host puts all marked pairs back at once"
abbrev pub out_ended : Ending → Named → OutOfService → OutOfService
out_ended User named o = o
out_ended Acknowledged named o = o
out_ended Expired named o = with_out o named

abbrev pub out_after : Change → OutOfService → OutOfService
out_after Keep o = o
out_after (Put i s notice) o = o
out_after (Doubt i c) o = o
out_after (Restart named why) o = out_ended why named o
out_after (Request named second d) o = o
out_after PutBack o = none_out

-- "thirty-two flags, one for each slot, naming exactly the slots meant; with 0 none is set"
abbrev pub no_flags : Flags
no_flags = record { on = replicate slot_count false }

abbrev pub flags_at : ℕ → Flags
flags_at i = record { on = set (replicate slot_count false) i true }

abbrev pub flagged : ℕ → ℕ → Flags
flagged notice i = cond (eqb notice 0) no_flags (flags_at i)

abbrev pub flags_of : Change → Slots → Flags
flags_of Keep ss = no_flags
flags_of (Put i s notice) ss = flagged (notice_number notice) i
flags_of (Doubt i c) ss = flags_at i
flags_of (Restart named why) ss = record { on = map (is_named named) ss.all }
flags_of (Request named second d) ss = no_flags
flags_of PutBack ss = no_flags

-- "Notice 3 only if some call went."
abbrev pub gone_notice : Flags → ℕ
gone_notice f = cond (list_any is_set f.on) 3 0

-- "Where no notice is named it is 0."
abbrev pub notice_of : Change → Flags → ℕ
notice_of Keep f = 0
notice_of (Put i s notice) f = notice_number notice
notice_of (Doubt i c) f = 3
notice_of (Restart named why) f = gone_notice f
notice_of (Request named second d) f = 0
notice_of PutBack f = 0
