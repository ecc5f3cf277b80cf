-- `Slots::named`: the slots passed are made.
use Rattle.std.proofs.Common.{◌≡◌, false, replicate}
use Rattle.calls.specs.Calls.{is_named}
use Rattle.slots.proofs.Each.{mapped}
use Rattle.slots.proofs.Slots.named.Given as goal

abbrev pub invariant-loop-i : goal.invariant-loop-i
invariant-loop-i l = l.on ≡ mapped (is_named l.fn.named) l.fn.self.all (replicate 32 false) l.i
