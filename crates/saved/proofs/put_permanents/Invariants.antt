-- `put_permanents`: the permanent pairs passed are written, at most 4 octets for each.
use Rattle.std.proofs.Common.{◌≡◌, ◌+◌, ◌*◌, ◌≤◌, length, drop}
use Rattle.octets.proofs.Stores.{Begun}
use Rattle.fields.specs.Fields.{channel_octets}
use Rattle.saved.specs.Form.{joined}
use Rattle.saved.proofs.put_permanents.Given as goal

abbrev pub invariant-loop-place : goal.invariant-loop-place
invariant-loop-place l = (l.next ≤ l.fn.at + 4 * l.place-index) × (length l.room ≡ length l.initial.room)
    × Begun (joined channel_octets l.fn.pool.permanents) (joined channel_octets (drop l.place-index l.fn.pool.permanents)) l.initial.room l.fn.at l.room l.next
