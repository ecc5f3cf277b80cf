use Rattle.std.proofs.Common.{◌≡◌, ℕ, ◌/◌, ap, ◌∙◌, drop, arith, rules}
use Rattle.pairs.specs.Pairs.{room, packed}
use Rattle.pairs.proofs.Places.{filled_more, filled_all}
use Rattle.reading.specs.Reading.{two_at, least, fours_in}
use Rattle.reading.proofs.Walk.{least_min, four_next}
use Rattle.reading.proofs.pairs_in.Goals as goal

pub loop-k-preserved : goal.loop-k-preserved
loop-k-preserved c = (
  search rules,
  filled_more c.loop-k.numbers c.loop-k.k c.four_in.result (omega arith) c.loop-k.invariant.1,
  four_next c.args.from (drop c.args.at c.args.form.now) c.loop-k.numbers c.loop-k.k c.four_in.result (omega arith) c.four_in.ensures c.loop-k.invariant.2,
)

pub returns : goal.returns
returns c =
    let n : c.min-count.result ≡ least room (two_at (drop c.args.at c.args.form.now) 1 / 4) = c.min-count.ensures ∙ least_min _ _ ∙ ap (λ (size : ℕ). least room (size / 4)) (c.from-size.ensures ∙ c.two_in.ensures) in
    let e : c.min-count.result ≡ c.loop-k.k = omega (arith, c.loop-k.auto.k-end, c.loop-k-test.false) in
    rw e (filled_all c.loop-k.numbers c.loop-k.k (omega arith) c.loop-k.invariant.1)
    ∙ ap packed (c.loop-k.invariant.2 ∙ ap (fours_in (drop c.args.from (drop c.args.at c.args.form.now))) (rw e at n))
