-- A line read into one event.
--   clock_at                            label, reading and room behind a place
--   last_read, last_stored               the octets that end a line
--   message_line .. put_back_line         what follows the clock, for each event
--   event_line, event_stored             the same, by the event's word
--   save_line, reload_line               what follows `save` and `reload`
--   line_of, line_stored                 what a line says, and the octets that are stored of it
--   Asks, Within                        no more octets than a room holds
-- Assumes nothing.
use Rattle.std.specs.Prelude.{ℕ, ◌+◌, ◌≤◌, cond, List, [], ltb, length, Option, Some, None}
use Rattle.std.specs.Option.{option_map}
use Rattle.octets.specs.Octets.{part}
use Rattle.script.specs.declared.words.Word.{Word}
use Rattle.script.specs.declared.words.Word.TheVariants as word
use Rattle.script.specs.declared.words.Kind.{Kind}
use Rattle.script.specs.declared.words.Kind.TheVariants as kind
use Rattle.script.specs.declared.words.Which.{Which}
use Rattle.script.specs.declared.words.Which.TheVariants as which
use Rattle.script.specs.declared.Clock.{Clock}
use Rattle.script.specs.declared.Request.{Request}
use Rattle.script.specs.declared.Request.TheVariants.{Tick, Message, Connect, Clear, Offer, RestartAll, RestartOne, PutBack}
use Rattle.script.specs.declared.Line.{Line}
use Rattle.script.specs.declared.Line.TheVariants as line
use Rattle.script.specs.Words.{end_at, word_at, word_of, which_of, field_at, on_field, ended}
use Rattle.script.specs.Hex.{octets_read, octets_stored}

-- "LABEL READING ROOM", and the place behind them
abbrev pub clock_at : List ℕ → ℕ → Option (Clock × ℕ)
clock_at l at =
    on_field (field_at l at) (λ label second.
    on_field (field_at l second) (λ reading third.
    on_field (field_at l third) (λ room end.
    Some (record { label = label; reading = reading; room = room }, end))))

-- "HEX", behind the blank at a place, up to the line's end
abbrev pub last_read : ℕ → List ℕ → ℕ → Option ℕ
last_read room l at = cond (ltb at (length l)) (octets_read room (part l (at + 1) (length l))) None

abbrev pub last_stored : ℕ → List ℕ → ℕ → List ℕ
last_stored room l at = cond (ltb at (length l)) (octets_stored room (part l (at + 1) (length l))) []

-- "message LABEL READING ROOM HEX"
abbrev pub message_line : Option ℕ → Option Request
message_line octets = option_map Message octets

-- "tick LABEL READING ROOM"
abbrev pub tick_line : List ℕ → ℕ → Option Request
tick_line l at = ended l at Tick

-- "connect LABEL READING ROOM SLOT"
abbrev pub connect_line : List ℕ → ℕ → Option Request
connect_line l at = on_field (field_at l at) (λ slot end. ended l end (Connect slot))

-- "clear LABEL READING ROOM SLOT CAUSE"
abbrev pub clear_line : List ℕ → ℕ → Option Request
clear_line l at =
    on_field (field_at l at) (λ slot second.
    on_field (field_at l second) (λ cause end. ended l end (Clear slot cause)))

-- "offer LABEL READING ROOM HEX"
abbrev pub offer_line : Option ℕ → Option Request
offer_line octets = option_map Offer octets

-- "restart LABEL READING ROOM all"
abbrev pub restart_all_line : List ℕ → ℕ → Option Request
restart_all_line l at = ended l at RestartAll

-- "restart LABEL READING ROOM one VPCI VCI"
abbrev pub restart_one_line : List ℕ → ℕ → Option Request
restart_one_line l at =
    on_field (field_at l at) (λ vpci second.
    on_field (field_at l second) (λ vci end. ended l end (RestartOne vpci vci)))

abbrev pub which_line : List ℕ → ℕ → Option Which → Option Request
which_line l at None = None
which_line l at (Some which.All) = restart_all_line l at
which_line l at (Some which.One) = restart_one_line l at

abbrev pub restart_line : List ℕ → ℕ → Option Request
restart_line l at = cond (ltb at (length l)) (which_line l (end_at l (at + 1)) (which_of (word_at l (at + 1)))) None

-- "putback LABEL READING ROOM"
abbrev pub put_back_line : List ℕ → ℕ → Option Request
put_back_line l at = ended l at PutBack

abbrev pub event_line : ℕ → List ℕ → Kind → ℕ → Option Request
event_line room l kind.Message at = message_line (last_read room l at)
event_line room l kind.Tick at = tick_line l at
event_line room l kind.Connect at = connect_line l at
event_line room l kind.Clear at = clear_line l at
event_line room l kind.Offer at = offer_line (last_read room l at)
event_line room l kind.Restart at = restart_line l at
event_line room l kind.PutBack at = put_back_line l at

abbrev pub event_stored : ℕ → List ℕ → Kind → ℕ → List ℕ
event_stored room l kind.Message at = last_stored room l at
event_stored room l kind.Tick at = []
event_stored room l kind.Connect at = []
event_stored room l kind.Clear at = []
event_stored room l kind.Offer at = last_stored room l at
event_stored room l kind.Restart at = []
event_stored room l kind.PutBack at = []

-- a clock, and then what the event's word asks for
abbrev pub timed_line : ℕ → List ℕ → Kind → Option (Clock × ℕ) → Option Line
timed_line room l k None = None
timed_line room l k (Some c) = option_map (line.Event c.0) (event_line room l k c.1)

abbrev pub timed_stored : ℕ → List ℕ → Kind → Option (Clock × ℕ) → List ℕ
timed_stored room l k None = []
timed_stored room l k (Some c) = event_stored room l k c.1

-- "save ROOM"
abbrev pub save_line : List ℕ → ℕ → Option Line
save_line l at = on_field (field_at l at) (λ room end. ended l end (line.Save room))

-- "reload HEX"
abbrev pub reload_line : Option ℕ → Option Line
reload_line octets = option_map line.Reload octets

abbrev pub word_line : ℕ → List ℕ → Option Word → Option Line
word_line room l None = None
word_line room l (Some word.Start) = Some line.Start
word_line room l (Some (word.Event k)) = timed_line room l k (clock_at l (end_at l 0))
word_line room l (Some word.Save) = save_line l (end_at l 0)
word_line room l (Some word.Reload) = reload_line (last_read room l (end_at l 0))

abbrev pub word_stored : ℕ → List ℕ → Option Word → List ℕ
word_stored room l None = []
word_stored room l (Some word.Start) = []
word_stored room l (Some (word.Event k)) = timed_stored room l k (clock_at l (end_at l 0))
word_stored room l (Some word.Save) = []
word_stored room l (Some word.Reload) = last_stored room l (end_at l 0)

-- what a line says, where a room of that many octets is lent; a start's lists are read apart
abbrev pub line_of : ℕ → List ℕ → Option Line
line_of room l = word_line room l (word_of (word_at l 0))

-- the octets that go to the front of the room; of a line that cannot be read, those before what is bad
abbrev pub line_stored : ℕ → List ℕ → List ℕ
line_stored room l = word_stored room l (word_of (word_at l 0))

-- no more octets than the room holds
abbrev pub Asks : Request → ℕ → Type 0
Asks Tick room = Unit {0}
Asks (Message n) room = n ≤ room
Asks (Connect slot) room = Unit {0}
Asks (Clear slot cause) room = Unit {0}
Asks (Offer n) room = n ≤ room
Asks RestartAll room = Unit {0}
Asks (RestartOne vpci vci) room = Unit {0}
Asks PutBack room = Unit {0}

abbrev pub Within : Line → ℕ → Type 0
Within line.Start room = Unit {0}
Within (line.Event c r) room = Asks r room
Within (line.Save asked) room = Unit {0}
Within (line.Reload n) room = n ≤ room
