-- `Pairs::with` meets its contract. The loop's invariant: the pairs passed and the carried one stand at their place in front, and the carried one is to be
use borrow.Author.Rules.{rules}
use Prim.Native.Nat.{◌<◌, ◌+◌}
use native.Mathlib.Omega.{arith}
use mathlib.Core.Path.{◌≡◌, sym, ap, ◌∙◌}
use lib.ListN.{length, drop, get_or, set}
use borrow.Author.Tests.{leb-false}
use Rattle.pairs.specs.Pairs.{pair_number, listed, packed, inserted}
use Rattle.pairs.proofs.Places.{span_count, listed_next, filled_none, filled_more, filled_all, inserted_past, inserted_here, inserted_last}
use Rattle.pairs.proofs.Pairs.with.Goals as goal

pub returns-then-is_full : goal.returns-then-is_full
returns-then-is_full c = rw (sym c.is_full.ensures ∙ c.if-is_full.true)

pub loop-i-init : goal.loop-i-init
loop-i-init c = let l : length c.args.self.numbers ≡ 64 = search rules in
    let k : c.args.self.count < 64 = leb-false 64 c.args.self.count (sym c.is_full.ensures ∙ c.if-is_full.false) in
    (search rules, span_count c.args.self l (omega arith), k, filled_none, rw c.number-carried.ensures)

pub loop-i-preserved-then-next-carried : goal.loop-i-preserved-then-next-carried
loop-i-preserved-then-next-carried c = (
  search rules,
  c.loop-i.invariant.1,
  c.loop-i.invariant.2,
  filled_more c.loop-i.numbers c.loop-i.i (get_or c.args.self.numbers c.loop-i.i 0) (omega arith) c.loop-i.invariant.3,
  inserted_past (inserted (pair_number c.args.pair.vpci c.args.pair.vci) (listed c.args.self)) c.loop-i.numbers (drop c.loop-i.i (listed c.args.self)) c.loop-i.i
      (get_or c.args.self.numbers c.loop-i.i 0) c.loop-i.carried (drop (c.loop-i.i + 1) (listed c.args.self)) (omega arith)
      (listed_next c.args.self c.args.self.count c.loop-i.i c.loop-i.invariant.1 (omega arith)) c.if-next-carried.true c.loop-i.invariant.4,
)

pub loop-i-preserved : goal.loop-i-preserved
loop-i-preserved c = (
  search rules,
  c.loop-i.invariant.1,
  c.loop-i.invariant.2,
  filled_more c.loop-i.numbers c.loop-i.i c.loop-i.carried (omega arith) c.loop-i.invariant.3,
  inserted_here (inserted (pair_number c.args.pair.vpci c.args.pair.vci) (listed c.args.self)) c.loop-i.numbers (drop c.loop-i.i (listed c.args.self)) c.loop-i.i
      (get_or c.args.self.numbers c.loop-i.i 0) c.loop-i.carried (drop (c.loop-i.i + 1) (listed c.args.self)) (omega arith)
      (listed_next c.args.self c.args.self.count c.loop-i.i c.loop-i.invariant.1 (omega arith)) c.if-next-carried.false c.loop-i.invariant.4,
)

pub returns : goal.returns
returns c = let e : c.loop-i.i ≡ c.args.self.count = omega arith in
    let ns = set c.loop-i.numbers c.args.self.count c.loop-i.carried in
    rw (sym c.is_full.ensures ∙ c.if-is_full.false)
    (filled_all ns (c.args.self.count + 1) (omega arith) (filled_more c.loop-i.numbers c.args.self.count c.loop-i.carried (omega arith) (rw e at c.loop-i.invariant.3))
    ∙ ap packed (inserted_last (inserted (pair_number c.args.pair.vpci c.args.pair.vci) (listed c.args.self)) c.loop-i.numbers (listed c.args.self) c.args.self.count c.loop-i.carried (omega arith) (omega arith)
    (rw e at c.loop-i.invariant.4)))
