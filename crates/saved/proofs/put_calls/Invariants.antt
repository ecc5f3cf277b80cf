-- `put_calls`: the slots passed are written, at most 22 octets for each.
use Rattle.std.proofs.Common.{◌≡◌, ◌+◌, ◌*◌, ◌≤◌, length, drop}
use Rattle.octets.proofs.Stores.{Begun}
use Rattle.saved.specs.Form.{call_fields}
use Rattle.saved.proofs.put_calls.Given as goal

abbrev pub invariant-loop-i : goal.invariant-loop-i
invariant-loop-i l = (l.next ≤ l.fn.at + 22 * l.i) × (length l.room ≡ length l.initial.room)
    × Begun (call_fields 0 l.fn.slots.all) (call_fields l.i (drop l.i l.fn.slots.all)) l.initial.room l.fn.at l.room l.next
