-- `script::start::read_numbers` meets its contract. The loop's invariant: the numbers left, behind those stored, make the same list.
use Rattle.std.proofs.Common.{◌≡◌, ◌≤◌, ◌∙◌, arith, rules}
use Rattle.script.proofs.Numbers.{numbers_more}
use Rattle.script.proofs.start.read_numbers.Goals as goal

pub loop-i-preserved : goal.loop-i-preserved
loop-i-preserved c =
    let e : c.in_ok-numbers.field-0 ≡ c.in_ok-value.value = search rules in
    let small : c.in_ok-value.value ≤ 65535 = search rules in
    rw e (c.loop-i.invariant ∙ numbers_more c.args.line.now c.loop-i.end c.loop-i.i c.args.n c.loop-i.numbers c.in_ok-value.value c.in_ok-value.next (omega arith) (search rules) small)
