-- The small proved table holds: P1 to P8, by computation.
-- Assumes nothing.
use mathlib.Core.Path.{refl}
use Rattle.safety.specs.SmallTable.{SmallTable}

pub small_table : SmallTable
small_table = record {
  start_accepted = refl;
  P1 = refl;
  p1_asked = refl;
  p1_slot = refl;
  P2 = refl;
  p2_then = refl;
  P3 = refl;
  P4 = refl;
  P5 = refl;
  p5_more = refl;
  P6 = refl;
  p6_less = refl;
  P7 = refl;
  p7_ignored = refl;
  p7_same = refl;
  p7_empty = refl;
  P8 = refl;
  p8_still = refl;
  p8_due = refl;
  p8_slot = refl;
  p8_gone = refl;
}
