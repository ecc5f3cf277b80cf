-- What an event's result says of a refusal is what `refused_with` says of its number. Assumes nothing.
use Rattle.std.proofs.Common.{◌≡◌, Err, refl}
use Rattle.refusal.specs.declared.Refusal.{Refusal}
use Rattle.refusal.specs.Refusal.{number_of}
use Rattle.table.specs.declared.Table.{Table}
use Rattle.outcome.specs.Outcome.{answer_of, refused_with}

pub refused_answer : (t : Table) (r : Refusal) → answer_of t (Err r) ≡ (refused_with t (number_of r)).answer
refused_answer t r = refl
