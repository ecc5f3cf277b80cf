-- "The small proved table, marked P" (document 01), over the definitions that the contracts of the six events cite.
--   begun                        "from a start with VPCI 0, VCI 20 to 21 (32 to 33)"
--   setup, enquiry, release      the messages of P1, P3 and P4
--   heard, ticked, offering      a message, a tick and an offer with label 1 and a room of 1,024 octets
--   SmallTable                   P1 to P8, one statement
-- Assumes nothing.
use Rattle.std.specs.Prelude.{ℕ, ◌≡◌, List, [], ◌∷◌}
use Rattle.effects.specs.Change.{flags_at}
use Rattle.table.specs.declared.Table.{Table}
use Rattle.outcome.specs.Outcome.{Outcome}
use Rattle.control.specs.Events.{start_of, message_of, tick_of, offer_of}

abbrev pub ranges : List ℕ
ranges = 0 ∷ 32 ∷ 33 ∷ []

abbrev pub begun : Table
begun = (start_of ranges []).table

-- the elements of P1: 59, 5C, 5E, 70
abbrev pub elements : List ℕ
elements =
    0x59 ∷ 0x80 ∷ 0x00 ∷ 0x08 ∷ 0x84 ∷ 0x00 ∷ 0x10 ∷ 0x00 ∷ 0x85 ∷ 0x00 ∷ 0x10 ∷ 0x00
    ∷ 0x5C ∷ 0x80 ∷ 0x00 ∷ 0x02 ∷ 0x00 ∷ 0x00 ∷ 0x5E ∷ 0x80 ∷ 0x00 ∷ 0x02 ∷ 0x81 ∷ 0x80
    ∷ 0x70 ∷ 0x80 ∷ 0x00 ∷ 0x08 ∷ 0x91 ∷ 0x35 ∷ 0x35 ∷ 0x35 ∷ 0x31 ∷ 0x32 ∷ 0x33 ∷ 0x34 ∷ []

-- P1's SETUP, with reference r
abbrev pub setup : ℕ → List ℕ
setup r = 0x09 ∷ 0x03 ∷ 0x00 ∷ 0x00 ∷ r ∷ 0x05 ∷ 0x80 ∷ 0x00 ∷ 0x24 ∷ elements

abbrev pub enquiry : List ℕ
enquiry = 0x09 ∷ 0x03 ∷ 0x00 ∷ 0x00 ∷ 0x05 ∷ 0x75 ∷ 0x80 ∷ 0x00 ∷ 0x00 ∷ []

abbrev pub release : List ℕ
release = 0x09 ∷ 0x03 ∷ 0x00 ∷ 0x00 ∷ 0x07 ∷ 0x4D ∷ 0x80 ∷ 0x00 ∷ 0x06 ∷ 0x08 ∷ 0x80 ∷ 0x00 ∷ 0x02 ∷ 0x80 ∷ 0x90 ∷ []

abbrev pub eight : List ℕ
eight = 0x09 ∷ 0x03 ∷ 0x00 ∷ 0x00 ∷ 0x05 ∷ 0x75 ∷ 0x80 ∷ 0x00 ∷ []

abbrev pub heard : Table → List ℕ → Outcome
heard t m = message_of t 1 0 1024 m

abbrev pub ticked : Table → ℕ → Outcome
ticked t reading = tick_of t 1 reading 1024

abbrev pub offering : Table → ℕ → Outcome
offering t reading = offer_of t 1 reading 1024 elements

-- the table that an outcome gives back
abbrev pub left : Outcome → Table
left o = o.answer.table

pub record SmallTable : Type 0 where
  pub start_accepted : (start_of ranges []).refusal ≡ 0
  -- "P1 SETUP .. gets `09 03 80 00 01 02 80 00 09 5A 80 00 05 88 00 00 00 20`."
  pub P1 : (heard begun (setup 1)).reply
      ≡ 0x09 ∷ 0x03 ∷ 0x80 ∷ 0x00 ∷ 0x01 ∷ 0x02 ∷ 0x80 ∷ 0x00 ∷ 0x09 ∷ 0x5A ∷ 0x80 ∷ 0x00 ∷ 0x05 ∷ 0x88 ∷ 0x00 ∷ 0x00 ∷ 0x00 ∷ 0x20 ∷ []
  pub p1_asked : (heard begun (setup 1)).answer.notice ≡ 1
  pub p1_slot : (heard begun (setup 1)).answer.flags ≡ flags_at 0
  -- "P2 the same with reference 2, then 3: VCI 33, then cause 45."
  pub P2 : (heard (left (heard begun (setup 1))) (setup 2)).reply
      ≡ 0x09 ∷ 0x03 ∷ 0x80 ∷ 0x00 ∷ 0x02 ∷ 0x02 ∷ 0x80 ∷ 0x00 ∷ 0x09 ∷ 0x5A ∷ 0x80 ∷ 0x00 ∷ 0x05 ∷ 0x88 ∷ 0x00 ∷ 0x00 ∷ 0x00 ∷ 0x21 ∷ []
  pub p2_then : (heard (left (heard (left (heard begun (setup 1))) (setup 2))) (setup 3)).reply
      ≡ 0x09 ∷ 0x03 ∷ 0x80 ∷ 0x00 ∷ 0x03 ∷ 0x5A ∷ 0x80 ∷ 0x00 ∷ 0x06 ∷ 0x08 ∷ 0x80 ∷ 0x00 ∷ 0x02 ∷ 0x81 ∷ 0xAD ∷ []
  -- "P3 .. on no call gets `09 03 80 00 05 7D 80 00 0B 14 80 00 01 00 08 80 00 02 81 9E`."
  pub P3 : (heard begun enquiry).reply
      ≡ 0x09 ∷ 0x03 ∷ 0x80 ∷ 0x00 ∷ 0x05 ∷ 0x7D ∷ 0x80 ∷ 0x00 ∷ 0x0B ∷ 0x14 ∷ 0x80 ∷ 0x00 ∷ 0x01 ∷ 0x00 ∷ 0x08 ∷ 0x80 ∷ 0x00 ∷ 0x02 ∷ 0x81 ∷ 0x9E ∷ []
  -- "P4 .. on no call gets `09 03 80 00 07 5A 80 00 06 08 80 00 02 81 D1`."
  pub P4 : (heard begun release).reply ≡ 0x09 ∷ 0x03 ∷ 0x80 ∷ 0x00 ∷ 0x07 ∷ 0x5A ∷ 0x80 ∷ 0x00 ∷ 0x06 ∷ 0x08 ∷ 0x80 ∷ 0x00 ∷ 0x02 ∷ 0x81 ∷ 0xD1 ∷ []
  -- "P5 reading 4,000,000,000,000 accepted, one more is 3."
  pub P5 : (ticked begun 4000000000000).answer.refusal ≡ 0
  pub p5_more : (ticked begun 4000000000001).answer.refusal ≡ 3
  -- "P6 equal reading accepted, one less is 4."
  pub P6 : (ticked (left (ticked begun 1000)) 1000).answer.refusal ≡ 0
  pub p6_less : (ticked (left (ticked begun 1000)) 999).answer.refusal ≡ 4
  -- "P7 message of 8 octets ignored, 0 octets is 5."
  pub P7 : (heard begun eight).answer.refusal ≡ 0
  pub p7_ignored : (heard begun eight).reply ≡ []
  pub p7_same : left (heard begun eight) ≡ begun
  pub p7_empty : (heard begun []).answer.refusal ≡ 5
  -- "P8 deadline minus 1 not due, deadline due.": an offer at reading 1000, and T303 of 4,000 ms
  pub P8 : (ticked (left (offering begun 1000)) 4999).answer.notice ≡ 0
  pub p8_still : (left (ticked (left (offering begun 1000)) 4999)).slots ≡ (left (offering begun 1000)).slots
  pub p8_due : (ticked (left (offering begun 1000)) 5000).answer.notice ≡ 3
  pub p8_slot : (ticked (left (offering begun 1000)) 5000).answer.flags ≡ flags_at 0
  pub p8_gone : (left (ticked (left (offering begun 1000)) 5000)).slots ≡ begun.slots
