use Rattle.std.proofs.Common.{rules, arith}
use Rattle.octets.proofs.Stores.{begun_more}
use Rattle.fields.specs.Fields.{four}
use Rattle.saved.proofs.Joined.{joined_at}
use Rattle.saved.proofs.put_pairs.Goals as goal

pub loop-number-preserved : goal.loop-number-preserved
loop-number-preserved c = (search rules, search rules, begun_more c.loop-number.invariant.2 (joined_at four c.listed-number-items.result.now c.loop-number.number-index 0 (omega arith)) c.put_four-next.ensures.wrote)
