-- Messages of document 01, all computed: what is written, and what is read.
--   setup-read          P1's SETUP reads as a message value with four elements, and that value is written as P1's octets
--   replies-written     the replies of P1, P3 and P4
-- Assumes nothing.
use Rattle.identifier.specs.Pair.{pair}
use Prim.Native.Nat.{ℕ}
use mathlib.Core.Path.{◌≡◌, refl}
use mathlib.Core.Bool.{true, false}
use mathlib.Core.List.{List, [], ◌∷◌}
use Rattle.elements.proofs.Examples.{setup}
use Rattle.replies.specs.declared.Diagnostic.TheVariants as diagnostic
use Rattle.replies.specs.declared.Reply.TheVariants as reply
use Rattle.replies.specs.Message.{Element, Message, message, octets}
use Rattle.replies.specs.Reply.{reply_octets}
use Rattle.readback.specs.ReadBack.{read_message, reads}

abbrev element : ℕ → List ℕ → Element
element id contents = record { ident = id; action = 0x80; contents = contents }

-- peak cell rate 4,096 each way; QoS class 0 each way; bearer class A; the number 5551234
abbrev pub asked : Message
asked =
    message false 1 0x05
    (element 0x59 (0x84 ∷ 0x00 ∷ 0x10 ∷ 0x00 ∷ 0x85 ∷ 0x00 ∷ 0x10 ∷ 0x00 ∷ [])
    ∷ element 0x5C (0x00 ∷ 0x00 ∷ [])
    ∷ element 0x5E (0x81 ∷ 0x80 ∷ [])
    ∷ element 0x70 (0x91 ∷ 0x35 ∷ 0x35 ∷ 0x35 ∷ 0x31 ∷ 0x32 ∷ 0x33 ∷ 0x34 ∷ [])
    ∷ [])

pub setup-read : (read_message setup ≡ reads asked) × (octets asked ≡ setup)
setup-read = (refl, refl)

pub replies-written :
    (reply_octets true 1 (reply.CallProceeding (pair 0 32))
    ≡ 0x09 ∷ 0x03 ∷ 0x80 ∷ 0x00 ∷ 0x01 ∷ 0x02 ∷ 0x80 ∷ 0x00 ∷ 0x09
    ∷ 0x5A ∷ 0x80 ∷ 0x00 ∷ 0x05 ∷ 0x88 ∷ 0x00 ∷ 0x00 ∷ 0x00 ∷ 0x20 ∷ [])
    × (reply_octets true 5 (reply.Status 0 (record { number = 30; diagnostic = diagnostic.None }))
    ≡ 0x09 ∷ 0x03 ∷ 0x80 ∷ 0x00 ∷ 0x05 ∷ 0x7D ∷ 0x80 ∷ 0x00 ∷ 0x0B
    ∷ 0x14 ∷ 0x80 ∷ 0x00 ∷ 0x01 ∷ 0x00 ∷ 0x08 ∷ 0x80 ∷ 0x00 ∷ 0x02 ∷ 0x81 ∷ 0x9E ∷ [])
    × (reply_octets true 7 (reply.ReleaseCompleteWith (record { number = 81; diagnostic = diagnostic.None }))
    ≡ 0x09 ∷ 0x03 ∷ 0x80 ∷ 0x00 ∷ 0x07 ∷ 0x5A ∷ 0x80 ∷ 0x00 ∷ 0x06
    ∷ 0x08 ∷ 0x80 ∷ 0x00 ∷ 0x02 ∷ 0x81 ∷ 0xD1 ∷ [])
replies-written = (refl, refl, refl)
