-- The line for people behind an answer (docs/FORMATS.md, "Lines for people"): what came in, why it was refused, what went out,
-- and what became of the calls.
--   kind_text, cause_text, message_text    a message: its type, flag, call reference and cause
--   request_text, reply_text              what came in, and what went out
--   timer_text, call_text, slot_text       what a slot holds
--   same_due, same_state, is_same          if two slots hold the same call in the same state
--   is_about                             if an event is about the call of a slot
--   change_text, slots_text               slots before and after
--   line_text                            the whole line
-- Assumes nothing.
use Rattle.std.specs.Prelude.{ℕ, ◌+◌, Bool, true, false, cond, not, ◌&&◌, ◌||◌, List, [], ◌∷◌, ◌++◌, eqb, ltb, length, take, get_or, Option, Some, None}
use Rattle.ascii.specs.Ascii.{word, or_else, decimal_text}
use Rattle.header.specs.declared.Header.{Header}
use Rattle.header.specs.Header.{head_of}
use Rattle.elements.specs.declared.Read.{Read}
use Rattle.elements.specs.declared.Read.TheVariants.{Absent, Unreadable, Readable}
use Rattle.elements.specs.Values.{cause_in}
use Rattle.calls.specs.declared.State.{State}
use Rattle.calls.specs.declared.State.TheVariants.{N3, N6, N9, N10, N12}
use Rattle.calls.specs.declared.Call.{Call}
use Rattle.calls.specs.declared.Hold.{Hold}
use Rattle.calls.specs.declared.Hold.TheVariants.{Empty, Live}
use Rattle.calls.specs.declared.Slot.{Slot}
use Rattle.calls.specs.Calls.{state_number, no_slot, empty_hold, refers_to, is_call}
use Rattle.calls.specs.Timers.{state_due}
use Rattle.script.specs.declared.Request.{Request}
use Rattle.script.specs.declared.Request.TheVariants.{Tick, Message, Connect, Clear, Offer, RestartAll, RestartOne, PutBack}
use Rattle.explain.specs.Names.{name_in, kind_names, cause_names, refusal_names}

-- "its type by name (`message type N` for an unknown one)"
abbrev pub kind_text : ℕ → List ℕ
kind_text kind = or_else (name_in kind_names kind) (word "message type " ++ decimal_text kind)

-- "`cause C`, and its name in source 001"
abbrev pub cause_text : ℕ → List ℕ
cause_text cause = word " cause " ++ decimal_text cause ++ name_in cause_names cause

abbrev pub flag_text : Bool → List ℕ
flag_text flag = cond flag (word " flag 1 reference ") (word " flag 0 reference ")

abbrev pub header_text : Header → List ℕ
header_text head = kind_text head.kind ++ flag_text head.flag ++ decimal_text head.reference

-- "the cause if its element 08 can be read"
abbrev pub found_text : Read ℕ → List ℕ
found_text Absent = []
found_text Unreadable = []
found_text (Readable cause) = cause_text cause

abbrev pub head_text : Option Header → Read ℕ → List ℕ
head_text None cause = word "no message of ours"
head_text (Some head) cause = header_text head ++ found_text cause

-- "A MESSAGE": its header, and the cause among the elements behind it
abbrev pub message_text : List ℕ → List ℕ
message_text m = head_text (head_of m) (cause_in m 9)

-- "A clear with a number over 127 has `no cause`."
abbrev pub clear_text : ℕ → List ℕ
clear_text cause = cond (ltb cause 128) (cause_text cause) (word " no cause")

-- "EVENT"; `came` begins with the octets that came
abbrev pub request_text : Request → List ℕ → List ℕ
request_text Tick came = word "tick"
request_text (Message n) came = message_text (take n came)
request_text (Connect slot) came = word "connect slot " ++ decimal_text slot
request_text (Clear slot cause) came = word "clear slot " ++ decimal_text slot ++ clear_text cause
request_text (Offer n) came = word "offer"
request_text RestartAll came = word "restart all pairs"
request_text (RestartOne vpci vci) came = (word "restart VPCI " ++ decimal_text vpci) ++ (word " VCI " ++ decimal_text vci)
request_text PutBack came = word "put all pairs back"

-- "out MESSAGE", if something went out
abbrev pub reply_text : List ℕ → List ℕ
reply_text reply = cond (eqb (length reply) 0) [] (word "; out " ++ message_text reply)

-- "the running timer with its deadline"
abbrev pub timer_text : State → List ℕ
timer_text N3 = []
timer_text (N6 deadline) = word " T303 until " ++ decimal_text deadline
timer_text (N9 deadline) = word " T310 until " ++ decimal_text deadline
timer_text N10 = []
timer_text (N12 clearing deadline) = word " T308 until " ++ decimal_text deadline

-- "the state, the pair and the running timer"
abbrev pub call_text : Call → State → List ℕ
call_text call state =
    (word " N" ++ decimal_text (state_number state))
    ++ (word " VPCI " ++ decimal_text call.pair.vpci)
    ++ (word " VCI " ++ decimal_text call.pair.vci)
    ++ timer_text state

abbrev pub hold_text : Hold → List ℕ
hold_text Empty = word " empty"
hold_text (Live call state) = call_text call state

abbrev pub slot_text : Slot → List ℕ
slot_text slot = hold_text slot.hold

abbrev pub same_due : Option ℕ → Option ℕ → Bool
same_due None None = true
same_due None (Some e) = false
same_due (Some d) None = false
same_due (Some d) (Some e) = eqb d e

abbrev pub same_state : State → State → Bool
same_state p q = eqb (state_number p) (state_number q) && same_due (state_due p) (state_due q)

-- "its call, its state or its deadline" did not change
abbrev pub same_call : Call → State → Hold → Bool
same_call c q Empty = false
same_call c q (Live d t) = refers_to c.network c.reference (Live d t) && same_state q t

abbrev pub same_hold : Hold → Hold → Bool
same_hold Empty h = empty_hold h
same_hold (Live c q) h = same_call c q h

abbrev pub is_same : Slot → Slot → Bool
is_same before after = same_hold before.hold after.hold

abbrev pub is_for : Option Header → Slot → Bool
is_for None slot = false
is_for (Some head) slot = is_call head.flag head.reference slot

-- "the message names its call", "connect or clear names its number"
abbrev pub is_about : Request → List ℕ → ℕ → Slot → Bool
is_about Tick came i slot = false
is_about (Message n) came i slot = is_for (head_of (take n came)) slot
is_about (Connect number) came i slot = eqb number i
is_about (Clear number cause) came i slot = eqb number i
is_about (Offer n) came i slot = false
is_about RestartAll came i slot = false
is_about (RestartOne vpci vci) came i slot = false
is_about PutBack came i slot = false

-- "slot N BEFORE to AFTER"
abbrev pub change_text : ℕ → Slot → Slot → List ℕ
change_text i before after = (word "; slot " ++ decimal_text i) ++ slot_text before ++ word " to" ++ slot_text after

-- a slot "is shown if" the event is about it "or if the event changed" it
abbrev pub note_text : ℕ → Slot → Slot → Bool → List ℕ
note_text i before after about = cond (about || not (is_same before after)) (change_text i before after) []

-- the slots before the event from number i on, each with what it is after the event
abbrev pub slots_text : Request → List ℕ → ℕ → List Slot → List Slot → List ℕ
slots_text request came i [] after = []
slots_text request came i (slot ∷ slots) after =
    note_text i slot (get_or after i no_slot) (is_about request came i slot) ++ slots_text request came (i + 1) slots after

-- "# in EVENT; refused: WHY; out MESSAGE; slot N BEFORE to AFTER .."
abbrev pub line_text : Request → List ℕ → ℕ → List ℕ → List Slot → List Slot → List ℕ
line_text request came refusal reply before after =
    word "# in "
    ++ request_text request came
    ++ name_in refusal_names refusal
    ++ reply_text reply
    ++ slots_text request came 0 before after
    ++ word "\n"
