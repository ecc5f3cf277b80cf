-- What must be certain: the owner's three demands, each under its words, and the slips of document 01.
--   DemandOne        fixed answers
--   DemandTwo        what is sent, and the channels
--   DemandThree      calls do not lean on each other
--   SlipsShutOut     "Slips we have seen"
-- "The small proved table, marked P" is `SmallTable` of crate safety. `happens t e` is what event e does on table t: the code's
-- contracts say that each of the events answers this. Assumes nothing.
use Rattle.std.specs.Prelude.{ℕ, ◌≤◌, ◌<◌, ◌≡◌, ◌≢◌, true, List, [], ◌∷◌, length}
use Rattle.channels.specs.Channels.{permitted}
use Rattle.calls.specs.declared.State.{State}
use Rattle.calls.specs.declared.Call.{Call}
use Rattle.calls.specs.Timers.{largest_reading}
use Rattle.replies.specs.Reply.{reply_room}
use Rattle.readback.specs.ReadBack.{Octets}
use Rattle.table.specs.declared.Table.{Table}
use Rattle.control.specs.Happens.{Event, happens}
use Rattle.reached.specs.Reached.{Reached}
use Rattle.independence.specs.Independence.{CallsDoNotLean}
use Rattle.independence.specs.Leaning.{setup, release, enquiry, one_pair, held, Leans}
use Rattle.views.specs.Tables.{HasCall}
use Rattle.views.specs.Effects.{label_of, reading_of, room_of}
use Rattle.safety.specs.FixedAnswers.{FixedAnswer, FixedStart}
use Rattle.safety.specs.Sound.{Sound, InOctets, CarriedOctets}
use Rattle.safety.specs.Flags.{FlagsExact}
use Rattle.safety.specs.NoPair.{NoPairExactly, SentExactly}
use Rattle.safety.specs.Slips.{HeldUntilGone, ReleaseFreesNone, NotHandedOut, ReleasedHolds, OneSide, SetupIsNew, BothOnes, DuplicateIgnored, NoStatusForStatus, PermanentStays}
use Rattle.demands.specs.Sent.{read_back, meant_by}

-- "A reading with the wrong label, too large, or earlier than the last accepted one is refused by its number.": "The lowest number
-- that applies is given"
pub record RefusedByNumber (t : Table) (e : Event) : Type 0 where
  pub wrong_label : reply_room ≤ room_of e → label_of e ≢ 1 → (happens t e).answer.refusal ≡ 2
  pub too_large : reply_room ≤ room_of e → label_of e ≡ 1 → largest_reading < reading_of e → (happens t e).answer.refusal ≡ 3
  pub too_early : reply_room ≤ room_of e → label_of e ≡ 1 → reading_of e ≤ largest_reading → reading_of e < t.last → (happens t e).answer.refusal ≡ 4

-- 1. "Any octets, any clock reading and any host command get a fixed answer. A reading with the wrong label, too large, or earlier
-- than the last accepted one is refused by its number. A refusal sends nothing and changes neither the call table nor one octet
-- of the lent reply room."
pub record DemandOne : Type 0 where
  pub fixed_answer : (t : Table) → Reached t → (e : Event) → FixedAnswer t e
  pub fixed_start : (ranges pairs : List ℕ) → FixedStart ranges pairs
  pub refused_by_number : (t : Table) (e : Event) → RefusedByNumber t e

-- 2. "Each reply, state, timer and channel is what UNI 3.1 says as document 01 fixes it. What we write reads back as the same
-- message. No two live calls hold one VPCI/VCI pair, every assigned VCI lies in 32 to 65535, and "no VPCI/VCI available" is sent
-- exactly when a SETUP has passed all earlier checks and no permitted pair is free."
pub record DemandTwo : Type 0 where
  -- each state with its timer and cause, and each channel
  pub sound : (t : Table) → Reached t → Sound t
  -- each notice with its flags: "naming exactly the slots meant"
  pub flags_exact : (t : Table) → Reached t → (e : Event) → FlagsExact t e
  -- "What we write reads back as the same message.": where the messages, the offers' bodies and a saved form were octets
  pub reads_back : (t : Table) (r : Reached t) → CarriedOctets t r → (e : Event) → InOctets e → read_back (happens t e).reply ≡ meant_by t e
  pub writes_octets : (t : Table) (r : Reached t) → CarriedOctets t r → (e : Event) → InOctets e → Octets (happens t e).reply
  pub writes_few : (t : Table) (e : Event) → length (happens t e).reply ≤ reply_room
  -- "No two live calls hold one VPCI/VCI pair"
  pub never_shared : (t : Table) → Reached t → (i j : ℕ) (c d : Call) (q r : State) → HasCall t i c q → HasCall t j d r → c.pair.vpci ≡ d.pair.vpci → c.pair.vci ≡ d.pair.vci → i ≡ j
  -- "every assigned VCI lies in 32 to 65535"
  pub always_in_limits : (t : Table) → Reached t → (i : ℕ) (c : Call) (q : State) → HasCall t i c q → (32 ≤ c.pair.vci) × (c.pair.vci ≤ 65535)
  pub always_permitted : (t : Table) → Reached t → (i : ℕ) (c : Call) (q : State) → HasCall t i c q → permitted t.pool c.pair.vpci c.pair.vci ≡ true
  -- ""no VPCI/VCI available" is sent exactly when a SETUP has passed all earlier checks and no permitted pair is free."
  pub sent_exactly : (t : Table) → Reached t → (e : Event) → SentExactly t e
  pub no_pair_exactly : (t : Table) (label reading room : ℕ) (m : List ℕ) → NoPairExactly t label reading room m

-- 3. "Calls don't lean on each other. Take any table reached from a fresh start, and any list of messages, refused ones included,
-- that all carry one accepted reading, pass the three header checks and name non-global call references. .. Reorder the list in any
-- way that keeps the order within each flagged reference. A SETUP must also keep its order with every other message, except a CALL
-- PROCEEDING, CONNECT, CONNECT ACKNOWLEDGE or STATUS ENQUIRY on another reference. For every such list and every such order, each
-- message gets the same answer and the final table is the same, all as document 01 defines them."
pub record DemandThree : Type 0 where
  pub calls_do_not_lean : CallsDoNotLean
  -- lists of two messages that may not change places: two SETUPs; a RELEASE, and a SETUP on another reference; a STATUS ENQUIRY
  -- and a RELEASE on one reference
  pub setups_lean : Leans one_pair 0 (setup 1 ∷ setup 2 ∷ []) (1 ∷ 0 ∷ []) (setup 1)
  pub setup_release_lean : Leans held 0 (release 1 ∷ setup 2 ∷ []) (1 ∷ 0 ∷ []) (setup 2)
  pub one_reference_leans : Leans held 0 (enquiry 1 ∷ release 1 ∷ []) (1 ∷ 0 ∷ []) (enquiry 1)

pub record SlipsShutOut : Type 0 where
  -- "A pair freed when RELEASE is sent, not when the call is gone."
  pub held_until_gone : (t : Table) → Reached t → (e : Event) → HeldUntilGone t e
  pub release_frees_none : (t : Table) → Reached t → (e : Event) → ReleaseFreesNone t e
  pub not_handed_out : (t : Table) → NotHandedOut t
  pub released_holds : (t : Table) → ReleasedHolds t
  -- "Flag forgotten, so user reference 1 and network reference 1 become one call."
  pub one_side : OneSide
  pub setup_is_new : (t : Table) → SetupIsNew t
  pub both_ones : BothOnes
  -- "An ignored duplicate SETUP that takes a second pair."
  pub duplicate_ignored : (t : Table) → DuplicateIgnored t
  -- "STATUS answered with STATUS."
  pub no_status_for_status : (t : Table) → NoStatusForStatus t
  -- "A permanent pair cleared by "all"."
  pub permanent_stays : (t : Table) → Reached t → PermanentStays t
