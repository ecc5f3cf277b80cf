-- What names a channel.
--   pair, is_pair     a pair of a VPCI and a VCI; if a place holds the pair of VPCI p and VCI v
-- Assumes nothing.
use Rattle.std.specs.Prelude.{ℕ, Bool, false, ◌&&◌, eqb, Option, Some, None}
use Rattle.identifier.specs.declared.Pair.{Pair}

-- a pair is a VPCI and a VCI
abbrev pub pair : ℕ → ℕ → Pair
pair p v = record { vpci = p; vci = v }

abbrev pub is_pair : ℕ → ℕ → Option Pair → Bool
is_pair p v None = false
is_pair p v (Some qw) = eqb qw.vpci p && eqb qw.vci v
