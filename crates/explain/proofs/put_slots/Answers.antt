-- `explain::put_slots` meets its contract: the slots that the event is about or that it changed, in their order. Assumes nothing.
use Rattle.std.proofs.Common.{arith, rules}
use Rattle.explain.proofs.Shown.{shown_more}
use Rattle.explain.proofs.put_slots.Goals as goal

pub loop-i-preserved : goal.loop-i-preserved
loop-i-preserved c = (search rules, search rules, shown_more c.loop-i.invariant.2 (omega arith) c.is_about-about.ensures c.put_if-next.ensures.wrote)
