-- `script::decimal::read_number` meets its contract. The loop's invariant: the digits left, behind the value of those passed, say the same number.
-- Assumes nothing.
use Rattle.std.proofs.Common.{◌≡◌, ◌≤◌, drop}
use Rattle.script.specs.Decimal.{number_from}
use Rattle.script.proofs.decimal.read_number.Given as goal

abbrev pub invariant-loop-octet : goal.invariant-loop-octet
invariant-loop-octet l = (l.value ≤ 18446744073709551615) × (number_from 0 l.word ≡ number_from l.value (drop l.octet-index l.word))
