-- `Slots::unused_reference`: the lowest reference not in use is the lowest of those left.
use Rattle.std.proofs.Common.{◌≡◌, ◌-◌}
use Rattle.slots.specs.Slots.{unused_from, unused_reference}
use Rattle.slots.proofs.Slots.unused_reference.Given as goal

abbrev pub invariant-loop-r : goal.invariant-loop-r
invariant-loop-r l = unused_reference l.self.all ≡ unused_from l.r (33 - l.r) l.self.all
