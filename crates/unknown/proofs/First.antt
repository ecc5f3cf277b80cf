-- Laws of the walk to the first unknown element.
--   Same             what is asked of the elements from one place on is what is asked of those from another
--   none_behind      behind the last octet there is no element
-- Assumes nothing.
use Prim.Native.Nat.{ℕ}
use mathlib.Core.Path.{◌≡◌, refl, sym}
use mathlib.Core.List.{List, []}
use native.Mathlib.Omega.{arith}
use lib.ListN.{length}
use Rattle.items.specs.declared.Item.{Item}
use Rattle.items.specs.declared.Item.TheVariants.{End, Overrun, Whole}
use Rattle.items.specs.Items.{item_at, items}
use Rattle.items.proofs.Items.{Moves, met, moved}
use Rattle.unknown.specs.Unknown.{first_unknown, unknown_in}

pub record Same (m : List ℕ) (from at : ℕ) : Type 0 where
  pub place : first_unknown m from (items m from) ≡ first_unknown m at (items m at)
  pub identifiers : unknown_in (items m from) ≡ unknown_in (items m at)

nothing_there : (l : ℕ) (i : Item) → Moves l l i → i ≡ End
nothing_there l End h = refl
nothing_there l (Overrun id) h = absurd (omega arith)
nothing_there l (Whole id action start end) h = absurd (omega arith)

pub none_behind : (m : List ℕ) → items m (length m) ≡ []
none_behind m = met m (length m) (sym (nothing_there (length m) (item_at m (length m)) (moved m (length m) refl)))
