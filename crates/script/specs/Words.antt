-- The words of a line, separated by one blank.
--   count_to, place_of            the first place of an octet from a place on
--   end_at, word_at               the word from a place up to the next blank or the line's end
--   command_of, word_of           the word that a line begins with
--   which_of                     what `restart` names
--   field_at, on_field            the number behind a blank, and what is made of it
--   ended                        a value, if the line is at its end
-- Assumes nothing.
use Rattle.std.specs.Prelude.{ℕ, ◌+◌, cond, List, eqb, ltb, length, drop, codes, Option, Some, None}
use Rattle.std.specs.List.{position_or_len}
use Rattle.std.specs.Str.{bytes_eq}
use Rattle.octets.specs.Octets.{part}
use Rattle.script.specs.declared.words.Word.{Word}
use Rattle.script.specs.declared.words.Word.TheVariants.{Start, Event, Save, Reload}
use Rattle.script.specs.declared.words.Kind.TheVariants.{Message, Tick, Connect, Clear, Offer, Restart, PutBack}
use Rattle.script.specs.declared.words.Which.{Which}
use Rattle.script.specs.declared.words.Which.TheVariants.{All, One}
use Rattle.script.specs.Decimal.{number_of}

-- how many octets stand before the first such octet
abbrev pub count_to : ℕ → List ℕ → ℕ
count_to octet s = position_or_len (λ o. eqb o octet) s

-- the place of the first such octet from a place on, or the line's end
abbrev pub place_of : ℕ → List ℕ → ℕ → ℕ
place_of octet line at = at + count_to octet (drop at line)

-- the end of the word from a place on: the next blank, or the line's end
abbrev pub end_at : List ℕ → ℕ → ℕ
end_at line at = place_of 32 line at

abbrev pub word_at : List ℕ → ℕ → List ℕ
word_at line at = part line at (end_at line at)

abbrev pub command_of : List ℕ → Option Word
command_of w =
    cond (bytes_eq w (codes "restart")) (Some (Event Restart))
    (cond (bytes_eq w (codes "putback")) (Some (Event PutBack)) None)

-- the word of an event, `start`, `save` or `reload`, or a command
abbrev pub word_of : List ℕ → Option Word
word_of w =
    cond (bytes_eq w (codes "message")) (Some (Event Message))
    (cond (bytes_eq w (codes "tick")) (Some (Event Tick))
    (cond (bytes_eq w (codes "connect")) (Some (Event Connect))
    (cond (bytes_eq w (codes "clear")) (Some (Event Clear))
    (cond (bytes_eq w (codes "offer")) (Some (Event Offer))
    (cond (bytes_eq w (codes "start")) (Some Start)
    (cond (bytes_eq w (codes "save")) (Some Save)
    (cond (bytes_eq w (codes "reload")) (Some Reload) (command_of w))))))))

abbrev pub which_of : List ℕ → Option Which
which_of w = cond (bytes_eq w (codes "all")) (Some All) (cond (bytes_eq w (codes "one")) (Some One) None)

-- what is made of a number and the place behind it, if there is one
abbrev pub on_field : {A : Type 0} → Option (ℕ × ℕ) → (ℕ → ℕ → Option A) → Option A
on_field None made = None
on_field (Some f) made = made f.0 f.1

-- a number with the place behind it
abbrev pub placed : Option ℕ → ℕ → Option (ℕ × ℕ)
placed None end = None
placed (Some n) end = Some (n, end)

-- the number behind the blank at a place; at the line's end there is none
abbrev pub field_at : List ℕ → ℕ → Option (ℕ × ℕ)
field_at line at = cond (ltb at (length line)) (placed (number_of (word_at line (at + 1))) (end_at line (at + 1))) None

-- the value, if the line is at its end
abbrev pub ended : {A : Type 0} → List ℕ → ℕ → A → Option A
ended l at value = cond (ltb at (length l)) None (Some value)
