-- `answers::put_digits` meets its contract. The loop's invariant: the digits of the octets passed are written, two for each.
use Rattle.std.proofs.Common.{rules, arith}
use Rattle.answers.proofs.Texts.{spelled_none, spelled_more, spelled_all}
use Rattle.answers.proofs.put_digits.Goals as goal

pub loop-octet-init : goal.loop-octet-init
loop-octet-init c = (search rules, spelled_none _ _ _)

pub loop-octet-preserved : goal.loop-octet-preserved
loop-octet-preserved c = (
  search rules,
  rw (c.glyph.ensures, c.glyph-in-loop-octet.ensures) (spelled_more c.args.reply.now c.args.out.now c.args.at c.loop-octet.out c.loop-octet.next c.loop-octet.octet-index c.loop-octet.invariant.1 (omega arith)),
)

pub returns-clause-wrote : goal.returns-clause-wrote
returns-clause-wrote c = spelled_all c.args.reply.now c.args.out.now c.args.at c.loop-octet.out c.loop-octet.next c.loop-octet.octet-index c.loop-octet.invariant.1 (omega arith)
