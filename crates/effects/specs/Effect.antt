-- What an accepted event decides: a change, and what is sent. The table is not in it.
--   replying, quiet        a reply alone; nothing happens
--   fated, on_call          what its fate makes of a call; a verdict on the call of one slot
--   assigned               a call put into an empty slot
-- Assumes nothing.
use Rattle.std.specs.Prelude.{ℕ, Bool, false, Some}
use Rattle.calls.specs.declared.State.{State}
use Rattle.calls.specs.declared.Call.{Call}
use Rattle.calls.specs.Calls.{no_slot, live_slot}
use Rattle.replies.specs.declared.Reply.{Reply}
use Rattle.replies.specs.declared.Reply.TheVariants as reply
use Rattle.replies.specs.declared.Outgoing.{Outgoing}
use Rattle.replies.specs.declared.Outgoing.TheVariants as outgoing
use Rattle.verdicts.specs.declared.Fate.{Fate}
use Rattle.verdicts.specs.declared.Fate.TheVariants as fate
use Rattle.verdicts.specs.declared.Notice.TheVariants as notice
use Rattle.verdicts.specs.declared.Verdict.{Verdict}
use Rattle.effects.specs.declared.Change.{Change}
use Rattle.effects.specs.declared.Change.TheVariants.{Keep, Put, Doubt}
use Rattle.effects.specs.declared.Effect.{Effect}

abbrev pub replying : Bool → ℕ → Reply → Effect
replying flag r answer = record { change = Keep; flag = flag; reference = r; outgoing = outgoing.Reply answer }

abbrev pub quiet : Effect
quiet = replying false 0 reply.None

-- "Each state change stops the old timer." ""Gone" empties slot and pair, notice 3." Document 02, R-2: "the pair is in doubt"
abbrev pub fated : ℕ → Call → Fate → Change
fated i c fate.Stay = Keep
fated i c (fate.To q told) = Put i (live_slot c q) told
fated i c fate.Gone = Put i no_slot (Some notice.Gone)
fated i c fate.InDoubt = Doubt i c.pair

-- a verdict on the call c of slot i; replies about it carry this flag and call reference
abbrev pub on_call : ℕ → Call → Bool → ℕ → Verdict → Effect
on_call i c flag r v = record { change = fated i c v.fate; flag = flag; reference = r; outgoing = outgoing.Reply v.reply }

-- a call put into slot i: "notice 1"
abbrev pub assigned : ℕ → Call → State → Bool → Outgoing → Effect
assigned i c q flag sent = record { change = Put i (live_slot c q) (Some notice.Asked); flag = flag; reference = c.reference; outgoing = sent }
