-- A user's RESTART (document 01, "RESTART"). Replies carry the global reference, and flag 1: RESTART came with flag 0.
--   restart_status     STATUS on the global reference
--   restarting        calls are gone, doubts end, and RESTART ACKNOWLEDGE is sent
--   pair_restart       for 80: one pair
--   restart_effect     the whole row
-- Assumes nothing.
use Rattle.std.specs.Prelude.{ℕ, true, cond, ◌||◌, eqb, ltb}
use Rattle.identifier.specs.Pair.{pair}
use Rattle.channels.specs.Channels.{permanent, known_vpci}
use Rattle.channels.specs.declared.Named.{Named}
use Rattle.channels.specs.declared.Named.TheVariants as named
use Rattle.channels.specs.declared.Pool.{Pool}
use Rattle.elements.specs.declared.Read.{Read}
use Rattle.identifier.specs.declared.Pair.{Pair}
use Rattle.elements.specs.declared.Read.TheVariants as elem
use Rattle.replies.specs.declared.Diagnostic.{Diagnostic}
use Rattle.replies.specs.declared.Diagnostic.TheVariants as diagnostic
use Rattle.replies.specs.declared.Reply.{Reply}
use Rattle.replies.specs.declared.Reply.TheVariants as reply
use Rattle.replies.specs.declared.Outgoing.TheVariants as outgoing
use Rattle.verdicts.specs.Verdict.{because}
use Rattle.effects.specs.declared.Ending.TheVariants.{User}
use Rattle.effects.specs.declared.Change.TheVariants.{Restart}
use Rattle.effects.specs.declared.Effect.{Effect}
use Rattle.effects.specs.Effect.{replying}

-- "Global STATUS shows state 0."; document 02, R-4: "now shows Restart Request, 61, while waiting"
abbrev pub restart_status : ℕ → ℕ → Diagnostic → Effect
restart_status state n d = replying true 0 (reply.Status state (because n d))

-- document 02, R-2: "A user's RESTART that names it, or all, ends the doubt."
abbrev pub restarting : Named → Reply → Effect
restarting named answer = record { change = Restart named User; flag = true; reference = 0; outgoing = outgoing.Reply answer }

-- "For 80: 5A absent, STATUS 96; unreadable, or its VPCI in no range and in no permanent pair, STATUS 100; both with diagnostic 5A;
-- VCI under 32 or a permanent pair, STATUS 82 with VPCI and VCI. Else calls on the pair .. are gone, and RESTART ACKNOWLEDGE repeats
-- 79 and, for 80, 5A"
abbrev pub pair_restart : ℕ → Pool → Read Pair → Effect
pair_restart state pool elem.Absent = restart_status state 96 (diagnostic.Octet 0x5A)
pair_restart state pool elem.Unreadable = restart_status state 100 (diagnostic.Octet 0x5A)
pair_restart state pool (elem.Readable c) =
    cond (known_vpci pool c.vpci)
    (cond (ltb c.vci 32 || permanent pool c.vpci c.vci)
    (restart_status state 82 (diagnostic.Pair c))
    (restarting (named.One c) (reply.RestartAcknowledge c)))
    (restart_status state 100 (diagnostic.Octet 0x5A))

-- "79 absent, STATUS 96; unreadable, STATUS 100; both with diagnostic 79. .. or all calls for 82 (5A not looked at), are gone"
abbrev pub restart_effect : ℕ → Pool → Read ℕ → Read Pair → Effect
restart_effect state pool elem.Absent connection = restart_status state 96 (diagnostic.Octet 0x79)
restart_effect state pool elem.Unreadable connection = restart_status state 100 (diagnostic.Octet 0x79)
restart_effect state pool (elem.Readable c) connection =
    cond (eqb c 0x82) (restarting named.All reply.RestartAcknowledgeAll) (pair_restart state pool connection)
