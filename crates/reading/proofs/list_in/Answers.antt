use Rattle.std.proofs.Common.{◌≡◌, ℕ, ◌/◌, ap, ◌∙◌, drop, arith}
use Rattle.reading.specs.Reading.{two_at, least}
use Rattle.reading.proofs.Walk.{least_min, listed_list}
use Rattle.reading.proofs.list_in.Goals as goal

pub returns-clause-numbers_value : goal.returns-clause-numbers_value
returns-clause-numbers_value c =
    let n : c.min.result ≡ least c.args.most (two_at (drop c.args.at c.args.form.now) 1 / 2) = c.min.ensures ∙ least_min _ _ ∙ ap (λ (size : ℕ). least c.args.most (size / 2)) (c.from-size.ensures ∙ c.two_in-2.ensures) in
    listed_list c.args.most 16 (drop c.args.at c.args.form.now) c.loop-k.number-items c.loop-k.k _ c.loop-k.invariant.1 (omega (arith, c.loop-k-test.false)) c.loop-k.invariant.0 (omega arith) n
