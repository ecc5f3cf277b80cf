use Rattle.std.proofs.Common.{rules, arith}
use Rattle.octets.proofs.Stores.{begun_more}
use Rattle.std.specs.Prelude.{None}
use Rattle.fields.specs.Fields.{channel_octets}
use Rattle.saved.proofs.Joined.{joined_at}
use Rattle.saved.proofs.put_permanents.Goals as goal

pub loop-place-preserved : goal.loop-place-preserved
loop-place-preserved c = (search rules, search rules, begun_more c.loop-place.invariant.2 (joined_at channel_octets c.args.pool.permanents c.loop-place.place-index None (omega arith)) c.put_channel-next.ensures.wrote)
