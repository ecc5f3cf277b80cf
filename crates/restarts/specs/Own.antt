-- Our own RESTART (document 02, R-4).
--   Fits, named_by             what the host wants restarted: its numbers have 16 bits; the pairs that it names
--   restart_of, requested      the message; it is sent, and T316 runs
--   ending                    it ends, with the calls and doubts of its pairs
--   is_class, is_connection, is_same     if RESTART ACKNOWLEDGE has the elements of our RESTART
--   acknowledge_effect         RESTART ACKNOWLEDGE while it is under way
--   expire_second, expire_effect   T316 runs out: a second time, and at all
--   put_back                   the host puts all marked pairs back
-- Assumes nothing.
use Rattle.identifier.specs.declared.Pair.{Pair}
use Rattle.identifier.specs.Pair.{pair}
use Rattle.std.specs.Prelude.{ℕ, ◌+◌, ◌<◌, Bool, true, false, cond, ◌&&◌, eqb}
use Rattle.channels.specs.declared.Named.{Named}
use Rattle.channels.specs.declared.Named.TheVariants.{All, One}
use Rattle.elements.specs.declared.Read.{Read}
use Rattle.elements.specs.declared.Read.TheVariants as elem
use Rattle.replies.specs.declared.Reply.{Reply}
use Rattle.replies.specs.declared.Reply.TheVariants as reply
use Rattle.replies.specs.declared.Outgoing.TheVariants as outgoing
use Rattle.service.specs.declared.GlobalState.{GlobalState}
use Rattle.service.specs.declared.GlobalState.TheVariants.{Null, RestartRequest}
use Rattle.service.specs.declared.OutOfService.{OutOfService}
use Rattle.service.specs.Service.{t316, has_room}
use Rattle.effects.specs.declared.Ending.{Ending}
use Rattle.effects.specs.declared.Ending.TheVariants.{Acknowledged, Expired}
use Rattle.effects.specs.declared.Change.TheVariants.{Restart, Request, PutBack}
use Rattle.effects.specs.declared.Effect.{Effect}
use Rattle.effects.specs.Effect.{quiet}
use Rattle.restarts.specs.declared.Target.{Target}
use Rattle.restarts.specs.declared.Target.TheVariants as target

-- "The host may restart one pair or all."
abbrev pub named_by : Target → Named
named_by target.All = All
named_by (target.One p v) = One (pair p v)

abbrev pub Fits : Target → Type 0
Fits target.All = Unit {0}
Fits (target.One p v) = (p < 65536) × (v < 65536)

-- "79 and for one pair 5A"
abbrev pub restart_of : Named → Reply
restart_of All = reply.RestartAll
restart_of (One pv) = reply.Restart pv

-- "We send RESTART with global reference and flag 0, 79 and for one pair 5A, start T316 of 120,000 ms"
abbrev pub requested : ℕ → Named → Bool → Effect
requested reading n second = record { change = Request n second (reading + t316); flag = false; reference = 0; outgoing = outgoing.Reply (restart_of n) }

-- "ends the RESTART, empties the named calls, notice 3 if any went, and ends the named doubts"
abbrev pub ending : Named → Ending → Effect
ending n why = record { change = Restart n why; flag = false; reference = 0; outgoing = outgoing.Reply reply.None }

-- "One with 79, and for one pair 5A, readable and the same"
abbrev pub is_class : ℕ → Read ℕ → Bool
is_class class elem.Absent = false
is_class class elem.Unreadable = false
is_class class (elem.Readable c) = eqb c class

abbrev pub is_connection : ℕ → ℕ → Read Pair → Bool
is_connection p v elem.Absent = false
is_connection p v elem.Unreadable = false
is_connection p v (elem.Readable c) = eqb c.vpci p && eqb c.vci v

abbrev pub is_same : Named → Read ℕ → Read Pair → Bool
is_same All r c = is_class 0x82 r
is_same (One pv) r c = is_class 0x80 r && is_connection pv.vpci pv.vci c

-- "ends the RESTART ..; Any other is discarded"
abbrev pub acknowledge_effect : GlobalState → Read ℕ → Read Pair → Effect
acknowledge_effect Null r c = quiet
acknowledge_effect (RestartRequest n second d) r c = cond (is_same n r c) (ending n Acknowledged) quiet

-- "a second does the same to calls and doubts, ends the RESTART and marks the named pairs out of service"; "with 64 a single pair's second
-- expiry resends again"
abbrev pub expire_second : Named → OutOfService → ℕ → Effect
expire_second n out reading = cond (has_room out n) (ending n Expired) (requested reading n true)

-- "Expiry resends once"
abbrev pub expire_effect : GlobalState → OutOfService → ℕ → Effect
expire_effect Null out reading = quiet
expire_effect (RestartRequest n second d) out reading = cond second (expire_second n out reading) (requested reading n true)

-- "the host puts all marked pairs back at once": no reply, no notice
abbrev pub put_back : Effect
put_back = record { change = PutBack; flag = false; reference = 0; outgoing = outgoing.Reply reply.None }
