-- Lines of the table.
--   is_skipped      if nothing is printed for a line
-- Assumes nothing.
use Rattle.std.specs.Prelude.{ℕ, Bool, true, List, [], ◌∷◌, eqb}

-- an empty line and one that begins with # are skipped
abbrev pub is_skipped : List ℕ → Bool
is_skipped [] = true
is_skipped (c ∷ cs) = eqb c 0x23
