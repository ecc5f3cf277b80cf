use Rattle.std.proofs.Common.{◌∙◌, ap, arith}
use Rattle.pairs.specs.Pairs.{ascending}
use Rattle.rules.proofs.Walk.{ascending_end}
use Rattle.rules.proofs.is_ascending.Goals as goal

pub returns : goal.returns
returns c = ascending_end c.listed-numbers.result.now c.loop-i.i (omega (arith, c.loop-i.auto.i)) (omega (arith, c.loop-i-test.false)) c.loop-i.invariant ∙ ap ascending c.listed-numbers.ensures
