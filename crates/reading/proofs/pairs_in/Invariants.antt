-- `pairs_in`: the numbers passed are in the array, and zeros behind them.
use Rattle.std.proofs.Common.{◌≡◌, ◌≤◌, take, drop}
use Rattle.pairs.specs.Pairs.{room}
use Rattle.pairs.proofs.Places.{Filled}
use Rattle.reading.specs.Reading.{fours_in}
use Rattle.reading.proofs.pairs_in.Given as goal

abbrev pub invariant-loop-k : goal.invariant-loop-k
invariant-loop-k l = (l.count ≤ room) × Filled l.numbers l.k × (take l.k l.numbers ≡ fours_in (drop l.from (drop l.at l.form)) l.k)
