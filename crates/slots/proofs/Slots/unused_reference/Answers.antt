use Rattle.std.proofs.Common.{sym, ◌∙◌, arith}
use Rattle.slots.proofs.Unused.{unused_not_here}
use Rattle.slots.proofs.Slots.unused_reference.Goals as goal

pub loop-r-preserved : goal.loop-r-preserved
loop-r-preserved c = c.loop-r.invariant ∙ unused_not_here 33 c.loop-r.r c.args.self.all (omega arith) (sym c.in_use.ensures ∙ c.if-not-in_use.false)
