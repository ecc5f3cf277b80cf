-- The default of a list of ranges.
--   zero_range     what stands where a list has no range
-- Assumes nothing.
use Rattle.channels.specs.declared.Range.{Range}

abbrev pub zero_range : Range
zero_range = record { vpci = 0; first = 0; last = 0 }
