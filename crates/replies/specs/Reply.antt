-- The messages that we send, as values: each reply's type and elements, and SETUP with an offer's body.
--   diagnostic_octets           what follows a cause number
--   in_field                    the octets of a diagnostic field
--   cause, short, call_state, connection, restart      the elements that we write
--   headed                      a message by its header and its elements
--   kind_of, elements_of, meant  a reply's type, its elements, and the message that it is
--   reply_octets                its octets: none where there is no reply
--   setup_octets                SETUP: the Connection identifier and then the body as it came
--   reply_room, body_room        no message that we send is longer, and no offer's body
--   sent_octets                 what an event sends: a reply, or SETUP
-- Assumes nothing.
use Rattle.std.specs.Prelude.{ℕ, ◌+◌, ◌%◌, Bool, true, false, cond, List, [], ◌∷◌, ◌++◌, length, take}
use Rattle.octets.specs.Octets.{high, low}
use Rattle.header.specs.MessageType.{number_of}
use Rattle.replies.specs.Message.{Element, Message, element_octets, header, message, octets}
use Rattle.replies.specs.declared.Field.{Field}
use Rattle.replies.specs.declared.Heading.{Heading}
use Rattle.replies.specs.declared.Mandatory.{Mandatory}
use Rattle.replies.specs.declared.Diagnostic.{Diagnostic}
use Rattle.replies.specs.declared.Diagnostic.TheVariants as diagnostic
use Rattle.replies.specs.declared.Cause.{Cause}
use Rattle.replies.specs.declared.Reply.{Reply}
use Rattle.replies.specs.declared.Reply.TheVariants as reply
use Rattle.replies.specs.declared.Outgoing.{Outgoing}
use Rattle.replies.specs.declared.Outgoing.TheVariants as outgoing

-- the octets of a field that a writer made
abbrev pub in_field : Field → List ℕ
in_field f = take f.size f.octets

-- an octet that is there or not
abbrev pub optional : Bool → ℕ → List ℕ
optional there octet = cond there (octet ∷ []) []

-- "96 with the missing of 59 5C 5E 70, ascending; 100 with the unreadable of these four, ascending"
abbrev pub identifiers : Mandatory Bool → List ℕ
identifiers m = optional m.traffic 0x59 ++ optional m.qos 0x5C ++ optional m.bearer 0x5E ++ optional m.called 0x70

-- none; a message type or an identifier; SETUP's identifiers; VPCI and VCI; "310"
abbrev pub diagnostic_octets : Diagnostic → List ℕ
diagnostic_octets diagnostic.None = []
diagnostic_octets (diagnostic.Octet o) = o ∷ []
diagnostic_octets (diagnostic.Elements m) = identifiers m
diagnostic_octets (diagnostic.Pair c) = high c.vpci ∷ low c.vpci ∷ high c.vci ∷ low c.vci ∷ []
diagnostic_octets diagnostic.Timer = 0x33 ∷ 0x31 ∷ 0x30 ∷ []

-- "We write Cause with octet 2 80, location 81, the cause plus 80 hex, then diagnostics" (a cause number is below 128)
abbrev pub cause : Cause → Element
cause c = record { ident = 0x08; action = 0x80; contents = 0x81 ∷ (c.number % 128 + 0x80) ∷ diagnostic_octets c.diagnostic }

-- an element that we write, with one octet of contents
abbrev pub short : ℕ → ℕ → Element
short ident octet = record { ident = ident; action = 0x80; contents = octet ∷ [] }

abbrev pub call_state : ℕ → Element
call_state s = short 0x14 s

-- "5A Connection identifier: 5; first 88, then VPCI, VCI."
abbrev pub connection : ℕ → ℕ → Element
connection p v = record { ident = 0x5A; action = 0x80; contents = 0x88 ∷ high p ∷ low p ∷ high v ∷ low v ∷ [] }

-- "79 Restart indicator: 1; 80 (indicated channel) or 82 (all)."
abbrev pub restart : ℕ → Element
restart class = short 0x79 class

-- "Types in hex: CALL PROCEEDING 02, SETUP 05, CONNECT 07, CONNECT ACKNOWLEDGE 0F, RESTART 46, RELEASE 4D,
-- RESTART ACKNOWLEDGE 4E, RELEASE COMPLETE 5A, STATUS ENQUIRY 75, STATUS 7D." (0 where there is no reply)
abbrev pub kind_of : Reply → ℕ
kind_of reply.None = 0
kind_of (reply.CallProceeding c) = 0x02
kind_of reply.Connect = 0x07
kind_of reply.ConnectAcknowledge = 0x0F
kind_of (reply.Release c) = 0x4D
kind_of reply.ReleaseComplete = 0x5A
kind_of (reply.ReleaseCompleteWith c) = 0x5A
kind_of (reply.Status s c) = 0x7D
kind_of reply.RestartAcknowledgeAll = 0x4E
kind_of (reply.RestartAcknowledge c) = 0x4E
kind_of reply.RestartAll = 0x46
kind_of (reply.Restart c) = 0x46

-- "STATUS holds Call state then Cause"; "RESTART ACKNOWLEDGE repeats 79 and, for 80, 5A, octet 2 written 80"; document 02, R-4: "We send
-- RESTART with .. 79 and for one pair 5A"
abbrev pub elements_of : Reply → List Element
elements_of reply.None = []
elements_of (reply.CallProceeding c) = connection c.vpci c.vci ∷ []
elements_of reply.Connect = []
elements_of reply.ConnectAcknowledge = []
elements_of (reply.Release c) = cause c ∷ []
elements_of reply.ReleaseComplete = []
elements_of (reply.ReleaseCompleteWith c) = cause c ∷ []
elements_of (reply.Status s c) = call_state s ∷ cause c ∷ []
elements_of reply.RestartAcknowledgeAll = restart 0x82 ∷ []
elements_of (reply.RestartAcknowledge c) = restart 0x80 ∷ connection c.vpci c.vci ∷ []
elements_of reply.RestartAll = restart 0x82 ∷ []
elements_of (reply.Restart c) = restart 0x80 ∷ connection c.vpci c.vci ∷ []

abbrev pub is_silent : Reply → Bool
is_silent reply.None = true
is_silent (reply.CallProceeding c) = false
is_silent reply.Connect = false
is_silent reply.ConnectAcknowledge = false
is_silent (reply.Release c) = false
is_silent reply.ReleaseComplete = false
is_silent (reply.ReleaseCompleteWith c) = false
is_silent (reply.Status s c) = false
is_silent reply.RestartAcknowledgeAll = false
is_silent (reply.RestartAcknowledge c) = false
is_silent reply.RestartAll = false
is_silent (reply.Restart c) = false

-- the message with this header and these elements
abbrev pub headed : Heading → List Element → Message
headed h es = message h.flag h.reference (number_of h.kind) es

-- the message that a reply with this flag and call reference is
abbrev pub meant : Bool → ℕ → Reply → Message
meant flag r a = message flag r (kind_of a) (elements_of a)

abbrev pub reply_octets : Bool → ℕ → Reply → List ℕ
reply_octets flag r a = cond (is_silent a) [] (octets (meant flag r a))

-- "SETUP with 5A and then the body"; it is about a network-originated call, so its flag is 0
abbrev pub setup_octets : ℕ → ℕ → ℕ → List ℕ → List ℕ
setup_octets r p v elements = header false r 0x05 (9 + length elements) ++ element_octets (connection p v) ++ elements

-- "1 reply room under 1,024 octets", "a body of elements of at most 512 octets"
abbrev pub reply_room : ℕ
reply_room = 1024

abbrev pub body_room : ℕ
body_room = 512

-- what an event sends; an offer's body is sent with SETUP alone
abbrev pub sent_octets : Bool → ℕ → Outgoing → List ℕ → List ℕ
sent_octets flag r (outgoing.Reply a) body = reply_octets flag r a
sent_octets flag r (outgoing.Setup c) body = setup_octets r c.vpci c.vci body
