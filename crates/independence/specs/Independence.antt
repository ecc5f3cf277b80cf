-- Demand 3: "Calls don't lean on each other.", all as document 01 defines it ("The list in demand 3").
--   Heard, Given, hear      one message of the list, its answer, and the table that it gives back
--   AcceptedIn              the list's reading is accepted in a table
--   Qualifies               what every message of the list meets
--   KeepsOrder              which two messages keep their order
--   SameResults             each message gets the same answer, and the final table is the same
--   CallsDoNotLean          the demand
-- Assumes nothing.
use Rattle.std.specs.Prelude.{ℕ, ◌≤◌, ◌<◌, ◌≡◌, ◌≢◌, Bool, true, ◌||◌, List, map, eqb, length, get_or, Some}
use Rattle.reorder.specs.Reorder.{answers, final, Order, reordered}
use Rattle.slots.specs.declared.Flags.{Flags}
use Rattle.header.specs.declared.Header.{Header}
use Rattle.header.specs.Header.{header_in, head_of}
use Rattle.table.specs.declared.Table.{Table}
use Rattle.calls.specs.Timers.{largest_reading}
use Rattle.outcome.specs.Outcome.{Outcome}
use Rattle.control.specs.Events.{message_of}
use Rattle.reached.specs.Reached.{Reached}

-- "In demand 3 each message keeps its own label and room." `room` is the length of the reply room
pub record Heard : Type 0 where
  pub label : ℕ
  pub room : ℕ
  pub octets : List ℕ

-- "An answer is the refusal number, the reply's octets, notice, flags and, for a tick, whether another is due; what the room
-- holds behind a reply is no part of it."
pub record Given : Type 0 where
  pub refusal : ℕ
  pub reply : List ℕ
  pub notice : ℕ
  pub flags : Flags

abbrev pub given_by : Outcome → Given
given_by o = record { refusal = o.answer.refusal; reply = o.reply; notice = o.answer.notice; flags = o.answer.flags }

-- "any list of messages .. that all carry one accepted reading": the answer to one of them, and the table that it gives back
abbrev pub outcome_of : ℕ → Table → Heard → Outcome
outcome_of reading t m = message_of t m.label reading m.room m.octets

abbrev pub hear : ℕ → Table → Heard → Given × Table
hear reading t m = (given_by (outcome_of reading t m), (outcome_of reading t m).answer.table)

-- "The list's reading is accepted if neither 3 nor 4 applies to it in the table that the list starts from."
pub record AcceptedIn (t : Table) (reading : ℕ) : Type 0 where
  pub not_above : reading ≤ largest_reading
  pub not_below : t.last ≤ reading

-- "pass the three header checks and name non-global call references"
abbrev pub headed : Heard → Header
headed m = header_in m.octets

pub record Qualifies (m : Heard) : Type 0 where
  pub passes : head_of m.octets ≡ Some (headed m)
  pub local : (headed m).reference ≢ 0

-- "A flagged reference is the flag and the 23-bit value as received"
pub record SameReference (m n : Heard) : Type 0 where
  pub flag : (headed m).flag ≡ (headed n).flag
  pub value : (headed m).reference ≡ (headed n).reference

-- "the type octet says what kind a message is"
abbrev pub IsSetup : Heard → Type 0
IsSetup m = (headed m).kind ≡ 0x05

-- "a CALL PROCEEDING, CONNECT, CONNECT ACKNOWLEDGE or STATUS ENQUIRY"
abbrev pub easy : ℕ → Bool
easy kind = eqb kind 0x02 || (eqb kind 0x07 || (eqb kind 0x0F || eqb kind 0x75))

-- ".. on another reference"
pub record Excepted (setup n : Heard) : Type 0 where
  pub kind : easy (headed n).kind ≡ true
  pub another : ¬ SameReference setup n

-- "Reorder the list in any way that keeps the order within each flagged reference. A SETUP must also keep its order with every
-- other message, except a CALL PROCEEDING, CONNECT, CONNECT ACKNOWLEDGE or STATUS ENQUIRY on another reference."
pub data KeepsOrder (m n : Heard) : Type 0 where
  within_reference : SameReference m n → KeepsOrder m n
  setup-before : IsSetup m → ¬ Excepted m n → KeepsOrder m n
  before-setup : IsSetup n → ¬ Excepted n m → KeepsOrder m n

-- "each message gets the same answer and the final table is the same": ps is the order, m stands for a message at no position
-- and a for its answer. `each` says of one message what `all` says of the list. Equal tables are the same in every slot (an empty
-- slot is one value, and a call is "flagged reference, pair, state, running timer with its deadline, first or second T308, cause
-- and diagnostic"), and in "last reading, ranges and permanent pairs"
pub record SameResults (reading : ℕ) (t : Table) (xs : List Heard) (ps : List ℕ) (m : Heard) (a : Given) : Type 0 where
  pub all : answers (hear reading) t (reordered xs ps m) ≡ map (λ (i : ℕ). get_or (answers (hear reading) t xs) i a) ps
  pub each : (k : ℕ) → k < length ps → get_or (answers (hear reading) t (reordered xs ps m)) k a ≡ get_or (answers (hear reading) t xs) (get_or ps k 0) a
  pub table : final (hear reading) t (reordered xs ps m) ≡ final (hear reading) t xs

-- "Take any table reached from a fresh start, and any list of messages, refused ones included, that all carry one accepted
-- reading, pass the three header checks and name non-global call references. .. For every such list and every such order, each
-- message gets the same answer and the final table is the same"
abbrev pub CallsDoNotLean : Type 0
CallsDoNotLean =
    (t : Table) (reading : ℕ) (xs : List Heard) (ps : List ℕ) (m : Heard) (a : Given)
    → Reached t
    → AcceptedIn t reading
    → ((i : ℕ) → i < length xs → Qualifies (get_or xs i m))
    → Order KeepsOrder m xs ps
    → SameResults reading t xs ps m a
