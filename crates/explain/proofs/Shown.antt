-- The loop over the slots of a line.
--   Shown                             the slots passed are written, and the others are left
--   shown_none, shown_more, shown_all   before the first, one more, and all of them
-- Assumes nothing.
use Prim.Native.Nat.{ℕ, ◌+◌, ◌≤◌, ◌<◌}
use native.Mathlib.Numerals.{add-one}
use mathlib.Core.Path.{◌≡◌}
use mathlib.Core.Bool.{Bool}
use mathlib.Core.List.{List}
use lib.ListN.{length, drop, get_or, drop_of_length-le}
use lib.Seq.{drop-cons}
use Rattle.octets.specs.Octets.{Wrote}
use Rattle.octets.proofs.Stores.{Begun, begun-none, begun_more, begun_all}
use Rattle.calls.specs.Calls.{no_slot}
use Rattle.calls.specs.declared.Slot.{Slot}
use Rattle.script.specs.declared.Request.{Request}
use Rattle.explain.specs.Line.{is_about, note_text, slots_text}

pub record Shown (request : Request) (came : List ℕ) (before after : List Slot) (old : List ℕ) (at : ℕ) (out : List ℕ) (next i : ℕ) : Type 0 where
  pub so_far : Begun (slots_text request came 0 before after) (slots_text request came i (drop i before) after) old at out next

pub shown_none : (request : Request) (came : List ℕ) (before after : List Slot) (old : List ℕ) (at : ℕ) → Shown request came before after old at old at 0
shown_none request came before after old at = record { so_far = begun-none _ _ _ }

module _ {request : Request} {came : List ℕ} {before after : List Slot} {old out : List ℕ} {at next i : ℕ} (s : Shown request came before after old at out next i) where
  pub shown_more : {about : Bool} {new : List ℕ} {end : ℕ} → i < length before → about ≡ is_about request came i (get_or before i no_slot)
      → Wrote out next (note_text i (get_or before i no_slot) (get_or after i no_slot) about) new end → Shown request came before after old at new end (i + 1)
  shown_more h e w = record { so_far = begun_more s.so_far (rw (drop-cons before i no_slot h, add-one, e)) w }

  pub shown_all : length before ≤ i → Wrote old at (slots_text request came 0 before after) out next
  shown_all h = begun_all s.so_far (rw (drop_of_length-le before {i = i} h))
