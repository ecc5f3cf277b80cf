-- What an event sends, as a message: the one that was meant, and the one that its octets read as.
--   Sent                       nothing, a message, or octets that are none
--   read_back                   octets, read
--   outgoing_meant, effect_meant     what is meant to be said: a reply, or SETUP with an offer's body
--   meant_by                    what an event is meant to say
-- Assumes nothing.
use Rattle.std.specs.Prelude.{ℕ, Bool, cond, List, [], ◌∷◌, eqb}
use Rattle.replies.specs.Message.{Message}
use Rattle.replies.specs.declared.Outgoing.{Outgoing}
use Rattle.replies.specs.declared.Outgoing.TheVariants as outgoing
use Rattle.replies.specs.Reply.{is_silent, meant}
use Rattle.readback.specs.ReadBack.{Reading, unreadable, reads, read_message}
use Rattle.readback.specs.Replies.{setup_meant}
use Rattle.effects.specs.declared.Effect.{Effect}
use Rattle.table.specs.declared.Table.{Table}
use Rattle.control.specs.Happens.{Event, happens}
use Rattle.views.specs.Effects.{body_of, effect_of}

pub data Sent : Type 0 where
  nothing : Sent
  sent : Message → Sent
  garbled : Sent

-- octets, read by the reader of messages: header checks, length field, a whole number of elements
abbrev pub read_as : Reading → Sent
read_as unreadable = garbled
read_as (reads m) = sent m

abbrev pub read_back : List ℕ → Sent
read_back [] = nothing
read_back (o ∷ os) = read_as (read_message (o ∷ os))

-- the flag, the call reference, and the type and elements of the reply; "SETUP with 5A and then the body"
abbrev pub outgoing_meant : Bool → ℕ → Outgoing → List ℕ → Sent
outgoing_meant flag r (outgoing.Reply a) body = cond (is_silent a) nothing (sent (meant flag r a))
outgoing_meant flag r (outgoing.Setup c) body = sent (setup_meant r c.vpci c.vci body)

abbrev pub effect_meant : Effect → List ℕ → Sent
effect_meant x body = outgoing_meant x.flag x.reference x.outgoing body

-- "A refusal sends nothing"
abbrev pub meant_by : Table → Event → Sent
meant_by t e = cond (eqb (happens t e).answer.refusal 0) (effect_meant (effect_of t e) (body_of e)) nothing
