-- `unknown::skipped_in` meets its contract. The loop's invariant: those gathered, and those from the present place on, are all.
-- Assumes nothing.
use Rattle.unknown.proofs.Front.{Gathering}
use Rattle.unknown.proofs.skipped_in.Given as goal

abbrev pub invariant-loop-count : goal.invariant-loop-count
invariant-loop-count l = Gathering l.m l.from l.identifiers l.count l.at
