-- The line `shown MESSAGE RECORD`, its answer, and what is said of it for people (docs/FORMATS.md).
--   asked_of, Inside                       if a line asks whose number is shown, and where its words stand
--   numbers_text, extent_text, answer_text   the answer line
--   words_text                             the line for people
-- Assumes nothing.
use Rattle.std.specs.Prelude.{ℕ, ◌≤◌, ◌<◌, cond, List, ◌++◌, eqb, ltb, length, codes, Option, Some, None}
use Rattle.std.specs.Str.{bytes_eq}
use Rattle.ascii.specs.Ascii.{word, decimal_text}
use Rattle.script.specs.Words.{word_at, end_at}
use Rattle.answers.specs.Text.{reply_text}
use Rattle.shown.specs.declared.Extent.{Extent}
use Rattle.shown.specs.declared.Extent.TheVariants.{Message, Record}

-- "shown MESSAGE RECORD": behind the first word and its blank, MESSAGE ends at the next blank, and RECORD is the rest
abbrev pub asked_of : List ℕ → Option ℕ
asked_of l = cond (bytes_eq (word_at l 0) (codes "shown")) (cond (ltb (end_at l 6) (length l)) (Some (end_at l 6)) None) None

-- both words lie within a line of so many octets, where MESSAGE ends at that place
abbrev pub Inside : ℕ → ℕ → Type 0
Inside n second = (6 ≤ second) × (second < n)

abbrev pub numbers_text : List ℕ → ℕ → ℕ → List ℕ
numbers_text name at n = (((name ++ decimal_text at) ++ word " ") ++ decimal_text n) ++ word " "

-- "message AT LENGTH", "record AT LENGTH"
abbrev pub extent_text : Extent → List ℕ
extent_text (Message at n) = numbers_text (word "message ") at n
extent_text (Record at n) = numbers_text (word "record ") at n

-- "HEX", `-` where the part is empty, and the line end
abbrev pub answer_text : Extent → List ℕ → List ℕ
answer_text extent part = (extent_text extent ++ reply_text part) ++ word "\n"

abbrev pub words_text : Extent → List ℕ
words_text (Message at n) =
    cond (eqb n 0)
    (word "# nothing shown: presentation of the calling number is not allowed\n")
    (word "# shown: the calling number of the message\n")
words_text (Record at n) = word "# shown: the subscription record, all of it\n"
