-- What octets say as a saved form (docs/FORMATS.md, "Saved tables"), read with no question asked: past the end stand zeros, and
-- what is not a form reads as some table, whose form is another.
--   two_at, four_at, eight_at    numbers at a place
--   rest                      the octets behind the first field
--   numbers_in, least, list_in  numbers of two octets; those of the first field, at most so many
--   range_numbers, pair_numbers the two lists, as start takes them
--   fours_in, pairs_in          numbers of four octets; pairs of the first field
--   doubts_in, out_in           the first field's pairs in doubt, and out of service
--   named_in, request_in        our RESTART of the first field
--   clearing_in, state_in, reference_in, call_in     the live call of the first field
--   begins, slot_in, behind_slot    a slot holds a call if the first field is its own
--   slots_in                   the slots
--   table_with, table_in        the table, of so many slots: with a pool, and with its own
-- Assumes nothing.
use Rattle.identifier.specs.Pair.{pair}
use Rattle.std.specs.Prelude.{ℕ, zero, suc, ◌+◌, ◌*◌, ◌/◌, ◌%◌, Bool, cond, ◌&&◌, List, [], ◌∷◌, eqb, leb, ltb, length, get_or, drop}
use Rattle.octets.specs.Octets.{number}
use Rattle.channels.specs.declared.Named.{Named}
use Rattle.channels.specs.declared.Named.TheVariants.{All, One}
use Rattle.channels.specs.declared.Pool.{Pool}
use Rattle.pairs.specs.declared.Pairs.{Pairs}
use Rattle.pairs.specs.Pairs.{room, packed}
use Rattle.service.specs.declared.GlobalState.{GlobalState}
use Rattle.service.specs.declared.GlobalState.TheVariants.{Null, RestartRequest}
use Rattle.service.specs.declared.OutOfService.{OutOfService}
use Rattle.calls.specs.declared.Clearing.{Clearing}
use Rattle.calls.specs.declared.State.{State}
use Rattle.calls.specs.declared.State.TheVariants.{N3, N6, N9, N10, N12}
use Rattle.calls.specs.declared.Call.{Call}
use Rattle.calls.specs.declared.Slot.{Slot}
use Rattle.calls.specs.Calls.{no_slot, live_slot}
use Rattle.slots.specs.Slots.{slots_of}
use Rattle.provisioning.specs.Provisioning.{provision}
use Rattle.table.specs.declared.Table.{Table}

abbrev pub two_at : List ℕ → ℕ → ℕ
two_at f k = number (get_or f k 0) (get_or f (k + 1) 0)

abbrev pub four_at : List ℕ → ℕ → ℕ
four_at f k = two_at f k * 65536 + two_at f (k + 2)

abbrev pub eight_at : List ℕ → ℕ → ℕ
eight_at f k = two_at f k * 281474976710656 + two_at f (k + 2) * 4294967296 + two_at f (k + 4) * 65536 + two_at f (k + 6)

-- a field is a tag of one octet, the length of the contents in two, and the contents
abbrev pub rest : List ℕ → List ℕ
rest f = drop (3 + two_at f 1) f

abbrev pub numbers_in : List ℕ → ℕ → List ℕ
numbers_in f zero = []
numbers_in f (suc n) = two_at f 0 ∷ numbers_in (drop 2 f) n

-- as many numbers as the contents have room for, but no more than the list can have
abbrev pub least : ℕ → ℕ → ℕ
least a b = cond (ltb a b) a b

abbrev pub list_in : ℕ → List ℕ → List ℕ
list_in most f = numbers_in (drop 3 f) (least most (two_at f 1 / 2))

-- "1 to 4 ranges, 0 to 8 pairs"
abbrev pub range_numbers : List ℕ → List ℕ
range_numbers f = list_in 12 f

abbrev pub pair_numbers : List ℕ → List ℕ
pair_numbers f = list_in 16 (rest f)

-- "At most 64 pairs are in doubt"; "single pairs number at most 64": each is one number of four octets
abbrev pub fours_in : List ℕ → ℕ → List ℕ
fours_in f zero = []
fours_in f (suc n) = four_at f 0 ∷ fours_in (drop 4 f) n

-- from an octet of the field on
abbrev pub pairs_in : ℕ → List ℕ → Pairs
pairs_in from f = packed (fours_in (drop from f) (least room (two_at f 1 / 4)))

abbrev pub doubts_in : List ℕ → Pairs
doubts_in f = pairs_in 3 f

-- behind tag and length: 3 the mark "all", then the single pairs
abbrev pub out_in : List ℕ → OutOfService
out_in f = record { all = eqb (get_or f 3 0) 1; pairs = pairs_in 4 f }

-- behind tag and length: 3 first or second T316, 4 the deadline, and for one pair 12 VPCI, 14 VCI
abbrev pub named_in : List ℕ → Named
named_in f = cond (eqb (two_at f 1) 13) (One (pair (two_at f 12) (two_at f 14))) All

abbrev pub request_in : List ℕ → GlobalState
request_in f = cond (eqb (two_at f 1) 0) Null (RestartRequest (named_in f) (eqb (get_or f 3 0) 2) (eight_at f 4))

-- behind tag and length: 3 the slot, 4 to 6 the flagged reference, 7 VPCI, 9 VCI, 11 the state, 12 the deadline, 20 first or second
-- T308, 21 the cause. Cause 102 has the diagnostic "310", every other cause none
abbrev pub clearing_in : List ℕ → Clearing
clearing_in f = record { second = eqb (get_or f 20 0) 2; cause = get_or f 21 0; expired = eqb (get_or f 21 0) 102 }

abbrev pub state_in : List ℕ → State
state_in f =
    cond (eqb (get_or f 11 0) 6) (N6 (eight_at f 12))
    (cond (eqb (get_or f 11 0) 9) (N9 (eight_at f 12)) (cond (eqb (get_or f 11 0) 10) N10 (cond (eqb (get_or f 11 0) 12) (N12 (clearing_in f) (eight_at f 12)) N3)))

abbrev pub reference_in : List ℕ → ℕ
reference_in f = get_or f 4 0 % 128 * 65536 + get_or f 5 0 * 256 + get_or f 6 0

abbrev pub call_in : List ℕ → Call
call_in f = record {
  network = leb 128 (get_or f 4 0);
  pair = pair (two_at f 7) (two_at f 9);
  reference = reference_in f;
}

abbrev pub begins : ℕ → List ℕ → Bool
begins slot f = ltb 0 (length f) && eqb (get_or f 3 0) slot

abbrev pub slot_in : ℕ → List ℕ → Slot
slot_in slot f = cond (begins slot f) (live_slot (call_in f) (state_in f)) no_slot

abbrev pub behind_slot : ℕ → List ℕ → List ℕ
behind_slot slot f = cond (begins slot f) (rest f) f

-- n slots from a slot number on
unfoldable pub slots_in : ℕ → List ℕ → ℕ → List Slot
slots_in slot f zero = []
slots_in slot f (suc n) = slot_in slot f ∷ slots_in (slot + 1) (behind_slot slot f) n

-- the calls, the last reading, the pairs in doubt, our RESTART, the pairs out of service, beside a pool; over the number of slots
abbrev pub table_with : Pool → ℕ → List ℕ → Table
table_with pool count f = record {
  slots = slots_of (slots_in 0 (rest (rest (rest (rest (rest (rest f)))))) count);
  last = eight_at (rest (rest f)) 3;
  doubts = doubts_in (rest (rest (rest f)));
  global = record { state = request_in (rest (rest (rest (rest (rest f))))) };
  out = out_in (rest (rest (rest (rest f))));
  pool = pool;
}

-- .. and the pool that start makes of the ranges and the permanent pairs
abbrev pub table_in : ℕ → List ℕ → Table
table_in count f = table_with (provision (range_numbers f) (pair_numbers f)).pool count f
