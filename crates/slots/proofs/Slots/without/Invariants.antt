-- `Slots::without`: the slots passed are made.
use Rattle.std.proofs.Common.{◌≡◌}
use Rattle.calls.specs.Calls.{is_named, emptied}
use Rattle.slots.proofs.Each.{mapped}
use Rattle.slots.proofs.Slots.without.Given as goal

abbrev pub invariant-loop-i : goal.invariant-loop-i
invariant-loop-i l = l.all ≡ mapped (emptied (is_named l.fn.named)) l.fn.self.all l.fn.self.all l.i
