-- Laws of the loops that write one element behind the other.
--   joined_at     the rest of a list of elements
--   fields_at     the rest of the slots
-- Assumes nothing.
use Prim.Native.Nat.{ℕ, ◌+◌, ◌<◌}
use native.Mathlib.Numerals.{add-one}
use mathlib.Core.Path.{◌≡◌}
use mathlib.Core.List.{List, ◌++◌}
use lib.ListN.{length, drop, get_or}
use lib.Seq.{drop-cons}
use Rattle.calls.specs.Calls.{no_slot}
use Rattle.calls.specs.declared.Slot.{Slot}
use Rattle.fields.specs.Fields.{hold_field}
use Rattle.saved.specs.Form.{joined, call_fields}

module _ {A : Type 0} (f : A → List ℕ) (xs : List A) (i : ℕ) where
  pub joined_at : (d : A) → i < length xs → joined f (drop i xs) ≡ f (get_or xs i d) ++ joined f (drop (i + 1) xs)
  joined_at d h = rw (drop-cons xs i d h, add-one)

module _ (ss : List Slot) (i : ℕ) where
  pub fields_at : i < length ss → call_fields i (drop i ss) ≡ hold_field i (get_or ss i no_slot).hold ++ call_fields (i + 1) (drop (i + 1) ss)
  fields_at h = rw (drop-cons ss i no_slot h, add-one)
