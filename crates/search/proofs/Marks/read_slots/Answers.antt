use Rattle.std.proofs.Common.{◌≡◌, length, arith, rules}
use Rattle.calls.specs.Calls.{no_slot, is_live, holds_pair}
use Rattle.slots.specs.Slots.{slot_count}
use Rattle.search.specs.Marks.{looked}
use Rattle.search.proofs.Pass.{passed_room, passed_more, slot_read}
use Rattle.search.proofs.Marks.read_slots.Goals as goal

pub read_place-requires : goal.read_place-requires
read_place-requires c =
    let long : length c.args.slots.now ≡ slot_count = search rules in
    (passed_room is_live holds_pair (looked c.args.ranges.now) c.args.slots.now c.args.self.now c.loop-slot.slot-index c.loop-slot.self c.requires (omega arith) (omega arith) c.loop-slot.invariant)

pub loop-slot-preserved : goal.loop-slot-preserved
loop-slot-preserved c =
    passed_more is_live holds_pair (looked c.args.ranges.now) c.args.slots.now c.args.self.now c.loop-slot.slot-index no_slot c.loop-slot.self _ (omega arith) c.loop-slot.invariant
    (slot_read (looked c.args.ranges.now) _ c.entry.ensures c.read_place.ensures)
