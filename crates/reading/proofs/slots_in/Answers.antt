use Rattle.std.proofs.Common.{arith, rules}
use Rattle.reading.proofs.Walk.{walked_more, walked_all}
use Rattle.reading.proofs.slots_in.Goals as goal

pub loop-i-preserved : goal.loop-i-preserved
loop-i-preserved c = (
  omega (arith, c.step_in-step.ensures.near, c.loop-i.invariant.0),
  search rules,
  walked_more c.args.form.now c.args.at 32 c.loop-i.slot-items c.loop-i.next c.loop-i.i _ _ (omega arith) (omega arith) c.step_in-step.ensures.slot_value.0 c.step_in-step.ensures.slot_value.1 c.loop-i.invariant.2,
)

pub returns : goal.returns
returns c = walked_all c.args.form.now c.args.at 32 c.loop-i.slot-items c.loop-i.next c.loop-i.i (omega (arith, c.loop-i-test.false)) (omega (arith, c.loop-i-test.false)) c.loop-i.invariant.2
