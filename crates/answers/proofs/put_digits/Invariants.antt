-- `answers::put_digits` meets its contract. The loop's invariant: the digits of the octets passed are written, two for each.
-- Assumes nothing.
use Rattle.std.proofs.Common.{◌≡◌, ◌+◌, ◌*◌}
use Rattle.answers.proofs.Texts.{Spelled}
use Rattle.answers.proofs.put_digits.Given as goal

abbrev pub invariant-loop-octet : goal.invariant-loop-octet
invariant-loop-octet l = (l.next ≡ l.at + 2 * l.octet-index) × Spelled l.reply l.initial.out l.at l.out l.next l.octet-index
