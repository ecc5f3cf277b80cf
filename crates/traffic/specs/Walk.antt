-- A walk over octets: at each place one step, which may go on from a later place.
--   walk      at most so many steps from a place
-- Assumes nothing.
use Rattle.std.specs.Prelude.{ℕ, zero, suc}

-- a step at a place is handed what the walk gives from any other place; a walk of no steps gives `stop`
module _ {A : Type 0} (step : ℕ → (ℕ → A) → A) (stop : A) where
  abbrev pub walk : ℕ → ℕ → A
  walk zero at = stop
  walk (suc n) at = step at (walk n)
