-- Demand 1: "Any octets, any clock reading and any host command get a fixed answer. A reading with the wrong label, too large, or
-- earlier than the last accepted one is refused by its number. A refusal sends nothing and changes neither the call table nor
-- one octet of the lent reply room."
--   Applies                        the table of refusal numbers: number n applies to an event
--   Unchanged, Stored              what a refused event answers and leaves; what an accepted one stores
--   FixedAnswer                    the demand, of an event on a table
--   RangeRules, PairRules          the rules of start's two lists
--   FixedStart                     the demand, of start
-- Every event has an answer: `happens` and `start_of` are functions of all their arguments. Assumes nothing.
use Rattle.std.specs.Prelude.{ℕ, suc, ◌/◌, ◌%◌, ◌≤◌, ◌<◌, ◌≡◌, ◌⊎◌, ◌≢◌, Bool, false, List, [], length, replicate}
use Rattle.octets.specs.Octets.{front}
use Rattle.traffic.specs.Traffic.{member}
use Rattle.channels.specs.declared.Named.{Named}
use Rattle.channels.specs.declared.Range.{Range}
use Rattle.channels.specs.Channels.{permitted}
use Rattle.provisioning.specs.Provisioning.{range_at, single_at, pool_of}
use Rattle.calls.specs.declared.Clearing.{Clearing}
use Rattle.calls.specs.declared.State.{State}
use Rattle.calls.specs.declared.State.TheVariants.{N3, N12}
use Rattle.calls.specs.declared.Call.{Call}
use Rattle.calls.specs.Calls.{no_slot}
use Rattle.calls.specs.Timers.{largest_reading}
use Rattle.slots.specs.Slots.{slot_count}
use Rattle.replies.specs.Reply.{reply_room, body_room}
use Rattle.setup.specs.Offer.{offer_fits}
use Rattle.service.specs.declared.GlobalState.TheVariants.{RestartRequest}
use Rattle.restarts.specs.declared.Target.{Target}
use Rattle.restarts.specs.declared.Target.TheVariants.{One}
use Rattle.table.specs.declared.Table.{Table}
use Rattle.refusals.specs.Refusals.{host_causes}
use Rattle.outcome.specs.Outcome.{Outcome}
use Rattle.control.specs.Events.{start_of}
use Rattle.control.specs.Happens.{Event, message, connect, clear, offer, restart, happens}
use Rattle.views.specs.Tables.{slot_at, HasCall, NoneEmpty, NoneFree}
use Rattle.views.specs.Effects.{label_of, reading_of, room_of}

-- | No | When |
pub data Applies (t : Table) : Event → ℕ → Type 0 where
  -- "1 reply room under 1,024 octets"
  small_room : (e : Event) → room_of e < reply_room → Applies t e 1
  -- "2 clock label not 1"
  wrong_label : (e : Event) → label_of e ≢ 1 → Applies t e 2
  -- "3 reading above 4,000,000,000,000"
  too_large : (e : Event) → largest_reading < reading_of e → Applies t e 3
  -- "4 reading below the last accepted"
  too_early : (e : Event) → reading_of e < t.last → Applies t e 4
  -- "5 message empty or over 1,024 octets"
  empty_message : (label reading room : ℕ) (octets : List ℕ) → octets ≡ [] → Applies t (message label reading room octets) 5
  long_message : (label reading room : ℕ) (octets : List ℕ) → 1024 < length octets → Applies t (message label reading room octets) 5
  -- "6 slot over 31 or empty (connect, clear)"
  connect_no_slot : (label reading room slot : ℕ) → slot_count ≤ slot → Applies t (connect label reading room slot) 6
  connect_empty : (label reading room slot : ℕ) → slot_at t slot ≡ no_slot → Applies t (connect label reading room slot) 6
  clear_no_slot : (label reading room slot cause : ℕ) → slot_count ≤ slot → Applies t (clear label reading room slot cause) 6
  clear_empty : (label reading room slot cause : ℕ) → slot_at t slot ≡ no_slot → Applies t (clear label reading room slot cause) 6
  -- "7 wrong state (connect: not N3; clear: N12)"
  not_in_N3 : (label reading room slot : ℕ) (c : Call) (q : State) → HasCall t slot c q → q ≢ N3 → Applies t (connect label reading room slot) 7
  in_N12 : (label reading room slot cause : ℕ) (c : Call) (k : Clearing) (d : ℕ) → HasCall t slot c (N12 k d)
      → Applies t (clear label reading room slot cause) 7
  -- "8 cause not in the host's list"
  foreign_cause : (label reading room slot cause : ℕ) → member cause host_causes ≡ false → Applies t (clear label reading room slot cause) 8
  -- "10 offer body over 512 octets or not as below"
  long_body : (label reading room : ℕ) (body : List ℕ) → body_room < length body → Applies t (offer label reading room body) 10
  unfit_body : (label reading room : ℕ) (body : List ℕ) → offer_fits body ≡ false → Applies t (offer label reading room body) 10
  -- "11 offer, no empty slot"
  no_empty_slot : (label reading room : ℕ) (body : List ℕ) → NoneEmpty t → Applies t (offer label reading room body) 11
  -- "12 offer, no permitted pair free"
  no_free_pair : (label reading room : ℕ) (body : List ℕ) → NoneFree t → Applies t (offer label reading room body) 12
  -- document 02, R-4: "refusal 13, after 12, is for a second command or a pair not permitted"; VPCI and VCI have 16 bits
  second_command : (label reading room : ℕ) (target : Target) (which : Named) (second : Bool) (deadline : ℕ)
      → t.global.state ≡ RestartRequest which second deadline → Applies t (restart label reading room target) 13
  not_permitted : (label reading room p v : ℕ) → permitted t.pool p v ≡ false → Applies t (restart label reading room (One p v)) 13
  wide_vpci : (label reading room p v : ℕ) → 65535 < p → Applies t (restart label reading room (One p v)) 13
  wide_vci : (label reading room p v : ℕ) → 65535 < v → Applies t (restart label reading room (One p v)) 13

-- "A refusal answers reply length 0, notice 0 and no flags; table, last reading and reply room stay unchanged." "(refused: no)"
pub record Unchanged (t : Table) (o : Outcome) : Type 0 where
  pub table : o.answer.table ≡ t
  pub size : o.answer.length ≡ 0
  pub notice : o.answer.notice ≡ 0
  pub flags : o.answer.flags.on ≡ replicate slot_count false
  pub more : o.answer.more ≡ false
  pub reply : o.reply ≡ []
  pub room : (room : List ℕ) → front o.reply room ≡ room

-- "An accepted event stores its reading"; it leaves what start permits
pub record Stored (t : Table) (reading : ℕ) (o : Outcome) : Type 0 where
  pub last : o.answer.table.last ≡ reading
  pub pool : o.answer.table.pool ≡ t.pool
  pub size : o.answer.length ≡ length o.reply

-- "The lowest number that applies is given, and none otherwise."
pub record FixedAnswer (t : Table) (e : Event) : Type 0 where
  pub applies : (happens t e).answer.refusal ≢ 0 → Applies t e (happens t e).answer.refusal
  pub lowest : (n : ℕ) → n < (happens t e).answer.refusal → ¬ Applies t e n
  pub accepted : (happens t e).answer.refusal ≡ 0 → (n : ℕ) → ¬ Applies t e n
  pub none_otherwise : ((n : ℕ) → ¬ Applies t e n) → (happens t e).answer.refusal ≡ 0
  pub unchanged : (happens t e).answer.refusal ≢ 0 → Unchanged t (happens t e)
  pub stored : (happens t e).answer.refusal ≡ 0 → Stored t (reading_of e) (happens t e)

-- "VPCI 0 to 255; VCI 32 to 65535; first at most last."
pub record Limits (r : Range) : Type 0 where
  pub vpci : r.vpci ≤ 255
  pub first : 32 ≤ r.first
  pub last : r.last ≤ 65535
  pub order : r.first ≤ r.last

-- "by (VPCI, VCI)": all of a comes before all of b
abbrev pub Apart : Range → Range → Type 0
Apart a b = (a.vpci < b.vpci) ⊎ ((a.vpci ≡ b.vpci) × (a.last < b.first))

-- "1 to 4 ranges ..; VPCI 0 to 255; VCI 32 to 65535; first at most last. Ranges ascend and are disjoint by (VPCI, VCI)"
pub record RangeRules (s : List ℕ) : Type 0 where
  pub whole : length s % 3 ≡ 0
  pub least : 1 ≤ length s / 3
  pub most : length s / 3 ≤ 4
  pub limits : (k : ℕ) → k < length s / 3 → Limits (range_at s k)
  pub ascend : (k : ℕ) → suc k < length s / 3 → Apart (range_at s k) (range_at s (suc k))

-- "0 to 8 pairs; ..; pairs strictly ascend": a pair is the range of its one VCI
pub record PairRules (s : List ℕ) : Type 0 where
  pub whole : length s % 2 ≡ 0
  pub most : length s / 2 ≤ 8
  pub limits : (k : ℕ) → k < length s / 2 → Limits (single_at s k)
  pub ascend : (k : ℕ) → suc k < length s / 2 → Apart (single_at s k) (single_at s (suc k))

-- "9 start lists break a rule above, a length not a multiple included"; "the last accepted reading, 0 at start"
pub record FixedStart (ranges pairs : List ℕ) : Type 0 where
  pub accepted : RangeRules ranges → PairRules pairs → (start_of ranges pairs).refusal ≡ 0
  pub refused : ¬ (RangeRules ranges × PairRules pairs) → (start_of ranges pairs).refusal ≡ 9
  pub lists : (start_of ranges pairs).refusal ≡ 0 → RangeRules ranges × PairRules pairs
  pub slots : (start_of ranges pairs).table.slots.all ≡ replicate slot_count no_slot
  pub last : (start_of ranges pairs).table.last ≡ 0
  pub pool : (start_of ranges pairs).refusal ≡ 0 → (start_of ranges pairs).table.pool ≡ pool_of ranges pairs
