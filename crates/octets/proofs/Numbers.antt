-- Numbers in octets, read back.
--   number_back                    of 16 bits, in two octets
--   flag_back, reference_back      a flag and 23 bits, in three octets
-- Assumes nothing.
use Prim.Native.Nat.{ℕ, ◌+◌, ◌*◌, ◌/◌, ◌%◌, ◌<◌}
use mathlib.Core.Path.{◌≡◌}
use mathlib.Core.Bool.{Bool, true, false, cond}
use native.Mathlib.Omega.{arith}
use lib.Dec.{leb}
use borrow.Author.Tests.{le-leb, lt-leb}
use Rattle.octets.specs.Octets.{high, low, number}

pub number_back : (n : ℕ) → n < 65536 → number (high n) (low n) ≡ n
number_back n h = omega arith

pub flag_back : (flag : Bool) (r : ℕ) → leb 128 (cond flag 0x80 0 + r / 65536 % 128) ≡ flag
flag_back true r = le-leb 128 (0x80 + r / 65536 % 128) (omega arith)
flag_back false r = lt-leb 128 (0 + r / 65536 % 128) (omega arith)

pub reference_back : (flag : Bool) (r : ℕ) → r < 8388608 → (cond flag 0x80 0 + r / 65536 % 128) % 128 * 65536 + high r * 256 + low r ≡ r
reference_back true r h = omega arith
reference_back false r h = omega arith
