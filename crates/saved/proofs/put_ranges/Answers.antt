use Rattle.std.proofs.Common.{rules, arith}
use Rattle.octets.proofs.Stores.{begun_more}
use Rattle.channels.proofs.Walk.{zero_range}
use Rattle.fields.specs.Fields.{range_octets}
use Rattle.saved.proofs.Joined.{joined_at}
use Rattle.saved.proofs.put_ranges.Goals as goal

pub loop-range-preserved : goal.loop-range-preserved
loop-range-preserved c = (search rules, search rules, begun_more c.loop-range.invariant.2 (joined_at range_octets c.args.pool.ranges c.loop-range.range-index zero_range (omega arith)) c.put_range-next.ensures.wrote)
