use Rattle.std.proofs.Common.{◌≡◌, length, arith, rules}
use Rattle.calls.specs.Calls.{no_slot, is_named, emptied}
use Rattle.slots.proofs.Each.{mapped_more}
use Rattle.slots.proofs.Slots.without.Goals as goal

pub loop-i-preserved : goal.loop-i-preserved
loop-i-preserved c =
    let long : length c.args.self.all ≡ 32 = search rules in
    rw (c.loop-i.invariant, c.unless_named.ensures) (mapped_more (emptied (is_named c.args.named)) c.args.self.all c.args.self.all c.loop-i.i no_slot (omega arith) (omega arith))
