use Rattle.std.proofs.Common.{true, arith}
use Rattle.pairs.specs.Pairs.{is_number}
use Rattle.search.specs.Marks.{looked}
use Rattle.search.proofs.Pass.{many_all, passed_room, passed_more, passed_end}
use Rattle.search.proofs.Marks.read_listed.Goals as goal

pub read-requires : goal.read-requires
read-requires c =
    (passed_room (λ x. true) is_number (looked c.args.ranges.now) c.args.numbers.now c.args.self.now c.loop-number.number-index c.loop-number.self c.requires.1 (omega arith) (omega arith) c.loop-number.invariant)

pub loop-number-preserved : goal.loop-number-preserved
loop-number-preserved c =
    passed_more (λ x. true) is_number (looked c.args.ranges.now) c.args.numbers.now c.args.self.now c.loop-number.number-index 0 c.loop-number.self _ (omega arith) c.loop-number.invariant
    (rw c.pair_of.ensures at c.read.ensures)

pub returns : goal.returns
returns c =
    rw (many_all c.args.numbers.now) at (passed_end (λ x. true) is_number (looked c.args.ranges.now) c.args.numbers.now c.args.self.now c.loop-number.number-index c.loop-number.self (omega arith) c.loop-number.invariant)
