-- The order of pairs by VPCI and then VCI.
--   channel_before             if a pair comes before another: no pair comes behind every pair
-- Assumes nothing.
use Rattle.std.specs.Prelude.{Bool, true, false, ◌&&◌, ◌||◌, eqb, ltb, Option, Some, None}
use Rattle.identifier.specs.declared.Pair.{Pair}

abbrev pub channel_before : Option Pair → Option Pair → Bool
channel_before None d = false
channel_before (Some c) None = true
channel_before (Some c) (Some d) = ltb c.vpci d.vpci || (eqb c.vpci d.vpci && ltb c.vci d.vci)
