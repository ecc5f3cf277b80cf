-- The outcome of an event: the answer with the table afterwards, and the reply's octets.
--   Outcome        what the host gets, and what stands at the front of its room
--   refused_with    "A refusal answers reply length 0, notice 0 and no flags; table, last reading and reply room stay unchanged."
--   answer_of       the answer in numbers that an event's result says, of a table
--   effect_octets   what an effect sends
--   sending        the outcome of an effect: the table afterwards, the answer, and what is sent
--   accepted_as     "An accepted event stores its reading"
--   unless_refused  a refusal number decides
--   fresh_table     the table that a start makes on a pool
--   started_of      the answer in numbers that the result of a start or of a reload says
-- Assumes nothing.
use Rattle.std.specs.Prelude.{ℕ, Bool, false, cond, List, [], eqb, length, replicate, Result, Ok, Err}
use Rattle.refusal.specs.declared.Refusal.{Refusal}
use Rattle.refusal.specs.Refusal.{number_of}
use Rattle.channels.specs.declared.Pool.{Pool}
use Rattle.channels.specs.Channels.{empty_pool}
use Rattle.pairs.specs.Pairs.{no_pairs}
use Rattle.service.specs.declared.GlobalState.TheVariants.{Null}
use Rattle.service.specs.Service.{none_out}
use Rattle.calls.specs.Calls.{no_slot}
use Rattle.slots.specs.Slots.{slot_count}
use Rattle.replies.specs.Reply.{sent_octets}
use Rattle.verdicts.specs.Verdict.{notice_number}
use Rattle.effects.specs.declared.Effect.{Effect}
use Rattle.effects.specs.Change.{no_flags, flags_of, notice_of}
use Rattle.table.specs.declared.Table.{Table}
use Rattle.table.specs.Effects.{table_after}
use Rattle.outcome.specs.declared.Answer.{Answer}
use Rattle.outcome.specs.declared.Answered.{Answered}
use Rattle.outcome.specs.declared.Started.{Started}

-- "An answer is the refusal number, the reply's octets, notice, flags and, for a tick, whether another is due"; with the table afterwards
pub record Outcome : Type 0 where
  pub answer : Answered
  pub reply : List ℕ

abbrev pub refused_with : Table → ℕ → Outcome
refused_with t n = record {
  answer = record { table = t; refusal = n; length = 0; notice = 0; flags = no_flags; more = false };
  reply = [];
}

-- a refusal leaves the table as it was given, and answers nothing but its number
abbrev pub answer_of : Table → Result Answer Refusal → Answered
answer_of t (Ok a) = record { table = a.table; refusal = 0; length = a.length; notice = notice_number a.notice; flags = a.flags; more = a.more }
answer_of t (Err r) = (refused_with t (number_of r)).answer

-- what an effect sends; an offer's body goes with SETUP
abbrev pub effect_octets : Effect → List ℕ → List ℕ
effect_octets x body = sent_octets x.flag x.reference x.outgoing body

-- an accepted event: the change is performed on the table, and the notice and the flags say what it did
abbrev pub sending : Table → ℕ → Effect → Bool → List ℕ → Outcome
sending t reading x more body = record {
  answer = record {
    table = table_after t reading x.change;
    refusal = 0;
    length = length (effect_octets x body);
    notice = notice_of x.change (flags_of x.change t.slots);
    flags = flags_of x.change t.slots;
    more = more;
  };
  reply = effect_octets x body;
}

abbrev pub accepted_as : Table → ℕ → Effect → Outcome
accepted_as t reading x = sending t reading x false []

abbrev pub unless_refused : Table → ℕ → Outcome → Outcome
unless_refused t n o = cond (eqb n 0) o (refused_with t n)

-- "The table has the 32 slots of calls, .. and the last accepted reading, 0 at start."
abbrev pub fresh_table : Pool → Table
fresh_table pool = record {
  slots = record { all = replicate slot_count no_slot };
  last = 0;
  doubts = no_pairs;
  global = record { state = Null };
  out = none_out;
  pool = pool;
}

-- "A refused start gives no table to use.": one that no pair is permitted in stands for none
abbrev pub started_of : Result Table Refusal → Started
started_of (Ok t) = record { refusal = 0; table = t }
started_of (Err r) = record { refusal = number_of r; table = fresh_table empty_pool }
