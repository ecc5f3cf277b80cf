-- `script::start::read_numbers` meets its contract. The loop's invariant: the numbers left, behind those stored, make the same list.
-- Assumes nothing.
use Rattle.std.proofs.Common.{◌≡◌, ◌-◌, replicate}
use Rattle.script.specs.Starts.{numbers_from}
use Rattle.script.proofs.start.read_numbers.Given as goal

abbrev pub invariant-loop-i : goal.invariant-loop-i
invariant-loop-i l = numbers_from l.line l.at 0 l.n (replicate 64 0) ≡ numbers_from l.line l.end l.i (l.n - l.i) l.numbers
