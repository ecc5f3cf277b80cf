-- What would happen without the order rule of demand 3: lists that an order may not turn round.
--   setup, release, enquiry     three messages, on any reference below 256, with label 1 and a room of 1,024 octets
--   one_pair, held               a start that permits one pair; the table after a SETUP on reference 1
--   Leans                       all that demand 3 asks of a table and of a list but the order, and an answer or the table that differs
-- Assumes nothing.
use Rattle.std.specs.Prelude.{ℕ, ◌<◌, List, [], ◌∷◌, length, get_or}
use Rattle.table.specs.declared.Table.{Table}
use Rattle.control.specs.Events.{start_of}
use Rattle.control.specs.Happens.{Event, message, after}
use Rattle.reached.specs.Reached.{Reached}
use Rattle.independence.specs.Independence.{Heard, Given, AcceptedIn, Qualifies, SameResults}

abbrev pub plain : List ℕ → Heard
plain octets = record { label = 1; room = 1024; octets = octets }

-- P1, with reference r
abbrev pub setup_octets : ℕ → List ℕ
setup_octets r =
    0x09 ∷ 0x03 ∷ 0x00 ∷ 0x00 ∷ r ∷ 0x05 ∷ 0x80 ∷ 0x00 ∷ 0x24 ∷ 0x59 ∷ 0x80 ∷ 0x00 ∷ 0x08 ∷ 0x84 ∷ 0x00 ∷ 0x10 ∷ 0x00 ∷ 0x85 ∷ 0x00 ∷ 0x10 ∷ 0x00
    ∷ 0x5C ∷ 0x80 ∷ 0x00 ∷ 0x02 ∷ 0x00 ∷ 0x00 ∷ 0x5E ∷ 0x80 ∷ 0x00 ∷ 0x02 ∷ 0x81 ∷ 0x80
    ∷ 0x70 ∷ 0x80 ∷ 0x00 ∷ 0x08 ∷ 0x91 ∷ 0x35 ∷ 0x35 ∷ 0x35 ∷ 0x31 ∷ 0x32 ∷ 0x33 ∷ 0x34 ∷ []

abbrev pub setup : ℕ → Heard
setup r = plain (setup_octets r)

-- P4, with reference r
abbrev pub release : ℕ → Heard
release r = plain (0x09 ∷ 0x03 ∷ 0x00 ∷ 0x00 ∷ r ∷ 0x4D ∷ 0x80 ∷ 0x00 ∷ 0x06 ∷ 0x08 ∷ 0x80 ∷ 0x00 ∷ 0x02 ∷ 0x80 ∷ 0x90 ∷ [])

-- P3, with reference r
abbrev pub enquiry : ℕ → Heard
enquiry r = plain (0x09 ∷ 0x03 ∷ 0x00 ∷ 0x00 ∷ r ∷ 0x75 ∷ 0x80 ∷ 0x00 ∷ 0x00 ∷ [])

-- VPCI 0, VCI 32 to 32, and no permanent pair
abbrev pub ranges : List ℕ
ranges = 0 ∷ 32 ∷ 32 ∷ []

abbrev pub one_pair : Table
one_pair = (start_of ranges []).table

abbrev pub first_call : List Event
first_call = message 1 0 1024 (setup_octets 1) ∷ []

abbrev pub held : Table
held = after one_pair first_call

pub record Leans (t : Table) (reading : ℕ) (xs : List Heard) (ps : List ℕ) (m : Heard) : Type 0 where
  pub reached : Reached t
  pub accepted : AcceptedIn t reading
  pub qualify : (i : ℕ) → i < length xs → Qualifies (get_or xs i m)
  pub differ : (a : Given) → ¬ SameResults reading t xs ps m a
