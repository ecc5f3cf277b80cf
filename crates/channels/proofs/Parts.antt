-- The numbers of a pair.
--   pair_parts      pairs are the same only if their VPCIs and their VCIs are
-- Assumes nothing.
use Prim.Native.Nat.{ℕ}
use mathlib.Core.Path.{◌≡◌, ap}
use Rattle.std.specs.Prelude.{Option, Some, None}
use Rattle.identifier.specs.Pair.{pair}
use Rattle.identifier.specs.declared.Pair.{Pair}

abbrev vpci_of : Option Pair → ℕ
vpci_of None = 0
vpci_of (Some c) = c.vpci

abbrev vci_of : Option Pair → ℕ
vci_of None = 0
vci_of (Some c) = c.vci

pub pair_parts : {p v q w : ℕ} → ◌≡◌ {A = Option Pair} (Some (pair p v)) (Some (pair q w)) → (p ≡ q) × (v ≡ w)
pair_parts e = (ap vpci_of e, ap vci_of e)
