-- `put_ranges`: the ranges passed are written, at most 6 octets for each.
use Rattle.std.proofs.Common.{◌≡◌, ◌+◌, ◌*◌, ◌≤◌, length, drop}
use Rattle.octets.proofs.Stores.{Begun}
use Rattle.fields.specs.Fields.{range_octets}
use Rattle.saved.specs.Form.{joined}
use Rattle.saved.proofs.put_ranges.Given as goal

abbrev pub invariant-loop-range : goal.invariant-loop-range
invariant-loop-range l = (l.next ≤ l.fn.at + 6 * l.range-index) × (length l.room ≡ length l.initial.room)
    × Begun (joined range_octets l.fn.pool.ranges) (joined range_octets (drop l.range-index l.fn.pool.ranges)) l.initial.room l.fn.at l.room l.next
