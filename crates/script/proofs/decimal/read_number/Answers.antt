-- `script::decimal::read_number` meets its contract. The loop's invariant: the digits left, behind the value of those passed, say the same number.
use Rattle.std.proofs.Common.{◌∙◌, arith, rules}
use Rattle.script.proofs.Digits.{none_at, more_at}
use Rattle.script.proofs.decimal.read_number.Goals as goal

pub returns-in_err-value : goal.returns-in_err-value
returns-in_err-value c = c.from_residual.ensures
    ∙ none_at c.args.word.now c.loop-octet.value c.loop-octet.octet-index (omega arith) c.loop-octet.invariant.1 (search rules)

pub loop-octet-preserved : goal.loop-octet-preserved
loop-octet-preserved c =
    more_at c.args.word.now c.loop-octet.value c.loop-octet.octet-index (omega arith) c.loop-octet.invariant.1 c.in_ok-value.value (search rules)
