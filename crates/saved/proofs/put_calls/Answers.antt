use Rattle.std.proofs.Common.{rules, arith}
use Rattle.octets.proofs.Stores.{begun_more}
use Rattle.saved.proofs.Joined.{fields_at}
use Rattle.saved.proofs.put_calls.Goals as goal

pub loop-i-preserved : goal.loop-i-preserved
loop-i-preserved c = (search rules, search rules, begun_more c.loop-i.invariant.2 (fields_at c.args.slots.all c.loop-i.i (omega arith)) c.put_hold-next.ensures.wrote)
