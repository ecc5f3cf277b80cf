-- `Pairs::without` meets its contract. The loop's invariant: the pairs passed that stay are in front, and the pair is to be taken out of what is left.
use borrow.Author.Rules.{rules}
use Prim.Native.Nat.{◌+◌}
use native.Mathlib.Omega.{arith}
use mathlib.Core.Path.{◌≡◌, refl, sym, ap, ◌∙◌}
use lib.ListN.{length, drop, get_or}
use Rattle.pairs.specs.Pairs.{listed, packed, removed}
use Rattle.pairs.proofs.Places.{span-size, listed_next, filled_none, filled_more, filled_all, removed_here, removed_past, removed_last}
use Rattle.pairs.proofs.Pairs.without.Goals as goal

pub loop-i-init : goal.loop-i-init
loop-i-init c = let l : length c.args.self.numbers ≡ 64 = search rules in
    (search rules, rw c.size-n.ensures.value (span-size c.args.self l), search rules, filled_none, refl)

pub loop-i-preserved-then-is_number : goal.loop-i-preserved-then-is_number
loop-i-preserved-then-is_number c = (
  search rules,
  c.loop-i.invariant.1,
  search rules,
  c.loop-i.invariant.3,
  removed_here c.args.pair.vpci c.args.pair.vci (removed c.args.pair.vpci c.args.pair.vci (listed c.args.self)) c.loop-i.numbers (drop c.loop-i.i (listed c.args.self)) c.loop-i.kept
      (get_or c.args.self.numbers c.loop-i.i 0) (drop (c.loop-i.i + 1) (listed c.args.self))
      (listed_next c.args.self _ c.loop-i.i c.loop-i.invariant.1 (omega arith)) (sym c.is_number.ensures ∙ c.if-is_number.true) c.loop-i.invariant.4,
)

pub loop-i-preserved : goal.loop-i-preserved
loop-i-preserved c = (
  search rules,
  c.loop-i.invariant.1,
  search rules,
  filled_more c.loop-i.numbers c.loop-i.kept (get_or c.args.self.numbers c.loop-i.i 0) (omega arith) c.loop-i.invariant.3,
  removed_past c.args.pair.vpci c.args.pair.vci (removed c.args.pair.vpci c.args.pair.vci (listed c.args.self)) c.loop-i.numbers (drop c.loop-i.i (listed c.args.self)) c.loop-i.kept
      (get_or c.args.self.numbers c.loop-i.i 0) (drop (c.loop-i.i + 1) (listed c.args.self)) (omega arith)
      (listed_next c.args.self _ c.loop-i.i c.loop-i.invariant.1 (omega arith)) (sym c.is_number.ensures ∙ c.if-is_number.false) c.loop-i.invariant.4,
)

pub returns : goal.returns
returns c = filled_all c.loop-i.numbers c.loop-i.kept (omega arith) c.loop-i.invariant.3
    ∙ ap packed (removed_last c.args.pair.vpci c.args.pair.vci (removed c.args.pair.vpci c.args.pair.vci (listed c.args.self)) c.loop-i.numbers (listed c.args.self) c.loop-i.kept c.loop-i.i (omega arith) c.loop-i.invariant.4)
