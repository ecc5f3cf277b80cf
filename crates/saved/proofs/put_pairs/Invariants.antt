-- `put_pairs`: the pairs passed are written, 4 octets for each.
use Rattle.std.proofs.Common.{◌≡◌, ◌+◌, ◌*◌, ◌≤◌, length, drop}
use Rattle.octets.proofs.Stores.{Begun}
use Rattle.fields.specs.Fields.{four}
use Rattle.saved.specs.Form.{joined}
use Rattle.saved.proofs.put_pairs.Given as goal

abbrev pub invariant-loop-number : goal.invariant-loop-number
invariant-loop-number l = (l.next ≤ l.fn.at + 4 * l.number-index) × (length l.room ≡ length l.initial.room)
    × Begun (joined four l.number-items) (joined four (drop l.number-index l.number-items)) l.initial.room l.fn.at l.room l.next
