-- The pair of a message of octets has two numbers of two octets.
--   ReadFits, connection-fits
-- Assumes nothing.
use Prim.Native.Nat.{ℕ, ◌-◌}
use mathlib.Core.List.{List}
use native.Mathlib.Omega.{arith}
use Rattle.octets.specs.Octets.{part}
use Rattle.contents.specs.Contents.{connection_in as pair_in}
use Rattle.elements.specs.declared.Part.{Part}
use Rattle.elements.specs.declared.Read.{Read}
use Rattle.identifier.specs.declared.Pair.{Pair}
use Rattle.elements.specs.declared.Read.TheVariants as elem
use Rattle.elements.specs.Elements.{look_for}
use Rattle.elements.specs.Values.{read, connection_in}
use Rattle.readback.specs.ReadBack.{Octets}
use Rattle.readback.specs.Replies.{FitsPair}
use Rattle.readback.proofs.Octets.{octets-take, octets-drop}

-- "then VPCI, VCI", two octets each
abbrev pub ReadFits : Read Pair → Type 0
ReadFits elem.Absent = Unit {0}
ReadFits elem.Unreadable = Unit {0}
ReadFits (elem.Readable c) = FitsPair c.vpci c.vci

pair_fits : (c : List ℕ) → Octets c → FitsPair (pair_in c).vpci (pair_in c).vci
pair_fits c o = record { vpci = omega (arith, o.at 1, o.at 2); vci = omega (arith, o.at 3, o.at 4) }

look_fits : (m : List ℕ) → Octets m → (l : Read Part)
    → ReadFits (read m elem.Absent elem.Unreadable (λ c. elem.Readable (pair_in c)) l)
look_fits m o elem.Absent = tt
look_fits m o elem.Unreadable = tt
look_fits m o (elem.Readable p) = pair_fits (part m p.start p.end) (octets-take (p.end - p.start) (octets-drop p.start o))

pub connection-fits : (m : List ℕ) → Octets m → ReadFits (connection_in m 9)
connection-fits m o = look_fits m o (look_for m 9 0x5A)
