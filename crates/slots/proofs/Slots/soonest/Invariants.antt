-- `Slots::soonest`: the soonest timer is what the slots left make of the best so far.
use Rattle.std.proofs.Common.{◌≡◌, drop}
use Rattle.std.specs.Prelude.{None}
use Rattle.slots.specs.Timers.{soonest_from}
use Rattle.slots.proofs.Slots.soonest.Given as goal

abbrev pub invariant-loop-i : goal.invariant-loop-i
invariant-loop-i l = soonest_from l.reading None 0 l.fn.self.all ≡ soonest_from l.reading l.best l.i (drop l.i l.fn.self.all)
