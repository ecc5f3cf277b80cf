-- How long the parts of a message are.
--   optional-size      an optional octet counts the same whatever it is
--   identifiers-size   so the named elements can be counted by themselves
--   field-size         a field has as many octets as it says
-- Assumes nothing.
use Prim.Native.Nat.{ℕ, ◌+◌, ◌≤◌}
use native.Mathlib.Omega.{arith}
use mathlib.Core.Path.{◌≡◌, refl}
use mathlib.Core.Bool.{Bool, true, false}
use mathlib.Core.List.{◌++◌}
use lib.ListN.{length, length-append, length-take}
use Rattle.replies.specs.Reply.{in_field, optional, identifiers}
use Rattle.replies.specs.declared.Field.{Field}
use Rattle.replies.specs.declared.Mandatory.{Mandatory}

pub optional-size : (there : Bool) (octet : ℕ) → length (optional there octet) ≡ length (optional there 0)
optional-size true octet = refl
optional-size false octet = refl

pub identifiers-size : (m : Mandatory Bool)
    → length (identifiers m)
    ≡ length (optional m.traffic 0) + length (optional m.qos 0) + length (optional m.bearer 0) + length (optional m.called 0)
identifiers-size m =
    rw (
      length-append (optional m.traffic 0x59 ++ optional m.qos 0x5C ++ optional m.bearer 0x5E) (optional m.called 0x70),
      length-append (optional m.traffic 0x59 ++ optional m.qos 0x5C) (optional m.bearer 0x5E),
      length-append (optional m.traffic 0x59) (optional m.qos 0x5C),
      optional-size m.traffic 0x59,
      optional-size m.qos 0x5C,
      optional-size m.bearer 0x5E,
      optional-size m.called 0x70,
    )

pub field-size : (f : Field) → length f.octets ≡ 4 → f.size ≤ 4 → length (in_field f) ≡ f.size
field-size f long few = simp length-take (omega arith)
