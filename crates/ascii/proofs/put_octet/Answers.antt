-- `ascii::put_octet` meets its contract: an octet has at most three digits. Assumes nothing.
use Rattle.std.proofs.Common.{arith}
use Rattle.ascii.proofs.Digits.{few_digits}
use Rattle.ascii.proofs.put_octet.Goals as goal

pub returns-clause-short : goal.returns-clause-short
returns-clause-short c = grind (arith, few_digits 2 c.args.n (omega arith))
