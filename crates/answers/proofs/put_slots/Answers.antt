-- `answers::put_slots` meets its contract. The loop's invariant: the numbers of the slots passed are written, at most four octets for each.
use Rattle.std.proofs.Common.{rules, arith}
use Rattle.answers.proofs.Texts.{joined-none, joined_on, joined_off, joined_all}
use Rattle.answers.proofs.put_slots.Goals as goal
use Rattle.answers.proofs.put_slots.Goals.{then-on, else-on}

pub loop-i-init : goal.loop-i-init
loop-i-init c = (search rules, search rules, joined-none _ _ _)

pub loop-i-preserved : goal.loop-i-preserved
loop-i-preserved c =
    let on = c.args.flags.on in
    let old = c.args.out.now in
    let s = c.loop-i.invariant.2 in
    elim c.if-on.branch [
      | then-on w ↦ (omega arith, omega arith, rw (w.out-is, w.next-is) (joined_on on old c.args.at c.loop-i.out c.loop-i.next c.loop-i.i s _ _ (omega arith) w.if-on.true w.put_slot-next.ensures.wrote w.put_slot-next.ensures.short.0))
      | else-on w ↦ (omega arith, omega arith, rw (w.out-is, w.next-is) (joined_off on old c.args.at c.loop-i.out c.loop-i.next c.loop-i.i s (omega arith) w.if-on.false))
    ]

pub returns-clause-wrote : goal.returns-clause-wrote
returns-clause-wrote c = joined_all c.args.flags.on c.args.out.now c.args.at c.loop-i.out c.loop-i.next c.loop-i.i c.loop-i.invariant.2 (omega arith)
