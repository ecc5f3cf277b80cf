-- Laws of the two loops that write text.
--   Spelled, spelled_none, spelled_more, spelled_all   the hex digits of the octets passed are written, and the others are left
--   Joined, joined-none, joined_on, joined_off, joined_all       the numbers of the slots passed are written, and the others are left
-- Assumes nothing.
use Prim.Native.Nat.{ℕ, ◌+◌, ◌/◌, ◌%◌, ◌≤◌, ◌<◌}
use native.Mathlib.Omega.{arith}
use native.Mathlib.Numerals.{add-one}
use mathlib.Core.Path.{◌≡◌, refl}
use mathlib.Core.Bool.{Bool, true, false}
use mathlib.Core.List.{List, [], ◌∷◌}
use lib.Dec.{eqb}
use lib.ListN.{length, drop, get_or, set, drop_of_length-le}
use lib.Seq.{drop-cons}
use borrow.Author.Tests.{eq-eqb, ne_eqb}
use Rattle.octets.specs.Octets.{Wrote}
use Rattle.octets.proofs.Stores.{Begun, begun-none, begun_more, begun_all, wrote_none}
use Rattle.answers.specs.Text.{hex_glyph, hex_text, slot_text, slots_text}

pub record Spelled (reply old : List ℕ) (at : ℕ) (out : List ℕ) (next i : ℕ) : Type 0 where
  pub so_far : Begun (hex_text reply) (hex_text (drop i reply)) old at out next

pub spelled_none : (reply old : List ℕ) (at : ℕ) → Spelled reply old at old at 0
spelled_none reply old at = record { so_far = begun-none _ _ _ }

module _ (reply old : List ℕ) (at : ℕ) (out : List ℕ) (next i : ℕ) (s : Spelled reply old at out next i) where
  pub spelled_more : i < length reply → Spelled reply old at (set (set out next (hex_glyph (get_or reply i 0 / 16))) (next + 1) (hex_glyph (get_or reply i 0 % 16))) (next + 2) (i + 1)
  spelled_more h =
      let pair = hex_glyph (get_or reply i 0 / 16) ∷ hex_glyph (get_or reply i 0 % 16) ∷ [] in
      record { so_far = begun_more {piece = pair} s.so_far (rw (drop-cons reply i 0 h, add-one)) (record { run = rw add-one; past = refl }) }

  pub spelled_all : length reply ≤ i → Wrote old at (hex_text reply) out next
  spelled_all h = begun_all s.so_far (rw (drop_of_length-le reply {i = i} h))

pub record Joined (on : List Bool) (old : List ℕ) (at : ℕ) (out : List ℕ) (next i : ℕ) : Type 0 where
  pub so_far : Begun (slots_text 0 true on) (slots_text i (eqb next at) (drop i on)) old at out next

pub joined-none : (on : List Bool) (old : List ℕ) (at : ℕ) → Joined on old at old at 0
joined-none on old at = record { so_far = rw (eq-eqb at at refl) (begun-none _ _ _) }

module _ (on : List Bool) (old : List ℕ) (at : ℕ) (out : List ℕ) (next i : ℕ) (s : Joined on old at out next i) where
  pub joined_on : (new : List ℕ) (end : ℕ) → i < length on → get_or on i false ≡ true → Wrote out next (slot_text i (eqb next at)) new end
      → next < end → Joined on old at new end (i + 1)
  joined_on new end h e w far =
      let f : eqb end at ≡ false = ne_eqb end at (λ q. absurd (omega (arith, s.so_far.wrote.past))) in
      record { so_far = begun_more s.so_far (rw (drop-cons on i false h, e, f, add-one)) w }

  pub joined_off : i < length on → get_or on i false ≡ false → Joined on old at out next (i + 1)
  joined_off h e = record { so_far = begun_more s.so_far (rw (drop-cons on i false h, e, add-one)) (wrote_none _ _) }

  pub joined_all : length on ≤ i → Wrote old at (slots_text 0 true on) out next
  joined_all h = begun_all s.so_far (rw (drop_of_length-le on {i = i} h))
