-- An answer line as text, in ASCII.
--   hex_glyph, hex_text           octets in lower-case hex
--   reply_text                   a reply, or `-`
--   slot_text, slots_text         the numbers of flagged slots, joined by commas
--   flags_text                   the same, or `-`
--   more_text                    the end of a line
--   first_text, last_text, answer_text   a whole line, in two parts
-- Assumes nothing.
use Rattle.std.specs.Prelude.{ℕ, ◌+◌, ◌/◌, ◌%◌, Bool, true, false, cond, List, [], ◌∷◌, ◌++◌, eqb, ltb, length}
use Rattle.ascii.specs.Ascii.{or_else, decimal_text}

-- a digit below 16: 0 to 9, then a to f
abbrev pub hex_glyph : ℕ → ℕ
hex_glyph n = cond (ltb n 10) (48 + n) (87 + n)

abbrev pub hex_text : List ℕ → List ℕ
hex_text [] = []
hex_text (o ∷ s) = hex_glyph (o / 16) ∷ hex_glyph (o % 16) ∷ hex_text s

-- "REPLY in lower-case hex or `-`"
abbrev pub reply_text : List ℕ → List ℕ
reply_text reply = cond (eqb (length reply) 0) (45 ∷ []) (hex_text reply)

-- a slot's number, behind a comma if it is not the first
abbrev pub slot_text : ℕ → Bool → List ℕ
slot_text i first = cond first (decimal_text i) (44 ∷ decimal_text i)

-- the numbers of the slots flagged from number i on
abbrev pub slots_text : ℕ → Bool → List Bool → List ℕ
slots_text i first [] = []
slots_text i first (on ∷ s) = cond on (slot_text i first ++ slots_text (i + 1) false s) (slots_text (i + 1) first s)

-- "FLAGS the slot numbers in ascending order joined by commas or `-`"
abbrev pub flags_text : List Bool → List ℕ
flags_text on = or_else (slots_text 0 true on) (45 ∷ [])

-- "MORE 0 or 1", and the line end
abbrev pub more_text : Bool → List ℕ
more_text more = cond more (32 ∷ 49 ∷ 10 ∷ []) (32 ∷ 48 ∷ 10 ∷ [])

abbrev pub first_text : ℕ → List ℕ → List ℕ
first_text refusal reply = ((decimal_text refusal ++ (32 ∷ [])) ++ reply_text reply) ++ (32 ∷ [])

abbrev pub last_text : ℕ → List Bool → Bool → List ℕ
last_text notice on more = ((decimal_text notice ++ (32 ∷ [])) ++ flags_text on) ++ more_text more

-- "REFUSAL REPLY NOTICE FLAGS MORE"
abbrev pub answer_text : ℕ → List ℕ → ℕ → List Bool → Bool → List ℕ
answer_text refusal reply notice on more = first_text refusal reply ++ last_text notice on more
