use Rattle.std.proofs.Common.{◌≡◌, length, arith, rules}
use Rattle.std.specs.Prelude.{None}
use Rattle.identifier.specs.Pair.{is_pair}
use Rattle.channels.specs.Channels.{permanent_count}
use Rattle.search.specs.Search.{has_pair}
use Rattle.search.specs.Marks.{looked}
use Rattle.search.proofs.Pass.{passed_room, passed_more, place_read}
use Rattle.search.proofs.Marks.read_permanents.Goals as goal

pub read_place-requires : goal.read_place-requires
read_place-requires c =
    let long : length c.args.permanents.now ≡ permanent_count = search rules in
    (passed_room has_pair is_pair (looked c.args.ranges.now) c.args.permanents.now c.args.self.now c.loop-place.place-index c.loop-place.self c.requires (omega arith) (omega arith) c.loop-place.invariant)

pub loop-place-preserved : goal.loop-place-preserved
loop-place-preserved c =
    passed_more has_pair is_pair (looked c.args.ranges.now) c.args.permanents.now c.args.self.now c.loop-place.place-index None c.loop-place.self _ (omega arith) c.loop-place.invariant
    (place_read (looked c.args.ranges.now) _ c.read_place.ensures)
