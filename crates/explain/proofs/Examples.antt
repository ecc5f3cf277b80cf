-- Lines of examples/morning.explained.txt and names, all computed.
--   setup_line       a SETUP that is accepted: P1's, in slot 0
--   clear_line_lem       a clear with cause 16, in slot 1
--   refused_line     a clock that went back
--   names-read       names from each table; refusal 10 is a line end's number too
-- Assumes nothing.
use Rattle.identifier.specs.Pair.{pair}
use Prim.Native.Nat.{ℕ}
use mathlib.Core.Path.{◌≡◌, refl}
use mathlib.Core.Bool.{false}
use mathlib.Core.List.{List, [], ◌∷◌}
use Rattle.elements.proofs.Examples.{setup}
use Rattle.ascii.specs.Ascii.{word, decimal_text}
use Rattle.calls.specs.Calls.{no_slot}
use Rattle.calls.specs.declared.State.{State}
use Rattle.calls.specs.declared.State.TheVariants.{N3, N10, N12}
use Rattle.calls.specs.declared.Hold.TheVariants.{Live}
use Rattle.calls.specs.declared.Slot.{Slot}
use Rattle.script.specs.declared.Request.TheVariants.{Tick, Message, Clear}
use Rattle.explain.specs.Names.{name_in, kind_names, cause_names, refusal_names}
use Rattle.explain.specs.Line.{line_text}

-- the first class's call
abbrev held : State → Slot
held state = record { hold = Live (record { network = false; pair = pair 0 32; reference = 1 }) state }

abbrev proceeding : List ℕ
proceeding =
    0x09 ∷ 0x03 ∷ 0x80 ∷ 0x00 ∷ 0x01 ∷ 0x02 ∷ 0x80 ∷ 0x00 ∷ 0x09 ∷ 0x5A ∷ 0x80 ∷ 0x00 ∷ 0x05 ∷ 0x88 ∷ 0x00 ∷ 0x00 ∷ 0x00 ∷ 0x20 ∷ []

abbrev release : List ℕ
release = 0x09 ∷ 0x03 ∷ 0x80 ∷ 0x00 ∷ 0x01 ∷ 0x4D ∷ 0x80 ∷ 0x00 ∷ 0x06 ∷ 0x08 ∷ 0x80 ∷ 0x00 ∷ 0x02 ∷ 0x81 ∷ 0x90 ∷ []

pub setup_line : line_text (Message 45) setup 0 proceeding (no_slot ∷ no_slot ∷ []) (held N3 ∷ no_slot ∷ [])
    ≡ word "# in SETUP flag 0 reference 1; out CALL PROCEEDING flag 1 reference 1; slot 0 empty to N3 VPCI 0 VCI 32\n"
unfolding decimal_text name_in kind_names cause_names refusal_names
setup_line = refl

abbrev clearing : State
clearing = N12 (record { second = false; cause = 16; expired = false }) 2730000

pub clear_line_lem : line_text (Clear 0 16) [] 0 release (held N10 ∷ no_slot ∷ []) (held clearing ∷ no_slot ∷ [])
    ≡ word "# in clear slot 0 cause 16 normal call clearing; out RELEASE flag 1 reference 1 cause 16 normal call clearing; slot 0 N10 VPCI 0 VCI 32 to N12 VPCI 0 VCI 32 T308 until 2730000\n"
unfolding decimal_text name_in kind_names cause_names refusal_names
clear_line_lem = refl

pub refused_line : line_text Tick [] 4 [] (held N10 ∷ no_slot ∷ []) (held N10 ∷ no_slot ∷ [])
    ≡ word "# in tick; refused: reading below the last accepted\n"
unfolding decimal_text name_in kind_names cause_names refusal_names
refused_line = refl

pub names-read :
    (name_in kind_names 0x05 ≡ word "SETUP") × (name_in cause_names 45 ≡ word " no VPCI/VCI available") × (name_in cause_names 2 ≡ [])
    × (name_in refusal_names 10 ≡ word "; refused: the body of the offer") × (name_in refusal_names 0 ≡ [])
unfolding name_in kind_names cause_names refusal_names
names-read = (refl, refl, refl, refl, refl)
