-- What connect, clear and offer decide (document 01, "Host and timers").
--   connected, cleared
--   network_call, offered_on     the call of an offer, and its SETUP on a pair
-- The refusals are in crate refusals, the events in control. Assumes nothing.
use Rattle.identifier.specs.Pair.{pair}
use Rattle.std.specs.Prelude.{ℕ, ◌+◌, true, false, not, None}
use Rattle.calls.specs.declared.State.TheVariants.{N6, N10}
use Rattle.calls.specs.declared.Call.{Call}
use Rattle.calls.specs.declared.Hold.{Hold}
use Rattle.calls.specs.declared.Hold.TheVariants.{Empty, Live}
use Rattle.calls.specs.Timers.{t303}
use Rattle.replies.specs.declared.Reply.TheVariants as reply
use Rattle.replies.specs.declared.Outgoing.TheVariants as outgoing
use Rattle.verdicts.specs.Verdict.{moved}
use Rattle.verdicts.specs.Expiry.{released}
use Rattle.effects.specs.declared.Effect.{Effect}
use Rattle.effects.specs.Effect.{quiet, on_call, assigned}

-- "connect: CONNECT without elements, N10."
abbrev pub connected : ℕ → Hold → Effect
connected i Empty = quiet
connected i (Live c q) = on_call i c (not c.network) c.reference (moved N10 reply.Connect None)

-- "clear: RELEASE with the cause, N12, T308."
abbrev pub cleared : ℕ → ℕ → ℕ → Hold → Effect
cleared reading i cause Empty = quiet
cleared reading i cause (Live c q) = on_call i c (not c.network) c.reference (released reading false cause false)

abbrev pub network_call : ℕ → ℕ → ℕ → Call
network_call r p v = record { network = true; pair = pair p v; reference = r }

-- "offer: .. SETUP with 5A and then the body; N6, T303." "An accepted offer also answers notice 1."
abbrev pub offered_on : ℕ → ℕ → ℕ → ℕ → ℕ → Effect
offered_on reading i r p v = assigned i (network_call r p v) (N6 (reading + t303)) false (outgoing.Setup (pair p v))
