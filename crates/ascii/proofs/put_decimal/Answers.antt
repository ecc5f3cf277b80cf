-- `ascii::put_decimal` meets its contract: the digits that `io::decimal` gives are the number's text, at most twenty. Assumes nothing.
use Rattle.std.proofs.Common.{◌∙◌, arith}
use Rattle.ascii.proofs.Digits.{few_digits, spelled}
use Rattle.ascii.proofs.put_decimal.Goals as goal

pub returns : goal.returns
returns c =
    let w = rw (c.decimal-k.ensures.digits ∙ spelled c.args.n c.decimal-k.result (omega arith) c.decimal-k.ensures.len) at c.put.ensures.stored in
    record { wrote = w; short = (w.past, omega arith, omega (arith, w.past, few_digits 19 c.args.n (omega arith))) }
