-- Saving a table to a lent room (document 02, R-1).
--   saved_as                the answer in numbers that the result of a save says
--   saved_of, saved_in      what is answered, and what is written
-- Assumes nothing.
use Rattle.std.specs.Prelude.{ℕ, cond, List, [], ltb, length, Result, Ok, Err}
use Rattle.refusal.specs.declared.Refusal.{Refusal}
use Rattle.refusal.specs.Refusal.{number_of}
use Rattle.table.specs.declared.Table.{Table}
use Rattle.saved.specs.Form.{form_of}
use Rattle.saved.specs.declared.Saved.{Saved}

abbrev pub saved_as : Result ℕ Refusal → Saved
saved_as (Ok n) = record { refusal = 0; length = n }
saved_as (Err r) = record { refusal = number_of r; length = 0 }

-- "The room needed is fixed by the table; a smaller one is refused with 1 and untouched, a larger one unchanged behind the form."
abbrev pub saved_of : Table → ℕ → Saved
saved_of t room = cond (ltb room (length (form_of t))) (record { refusal = 1; length = 0 }) (record { refusal = 0; length = length (form_of t) })

abbrev pub saved_in : Table → ℕ → List ℕ
saved_in t room = cond (ltb room (length (form_of t))) [] (form_of t)
