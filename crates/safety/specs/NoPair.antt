-- Demand 2: ""no VPCI/VCI available" is sent exactly when a SETUP has passed all earlier checks and no permitted pair is free."
--   NoSuchCall         no live call has a flagged reference
--   PassedAllChecks    a SETUP passed every check before the one for a free pair, in document 01's order
--   WantsPair          an event is such a SETUP
--   Says45             a message of ours whose Cause is 45, by its octets
--   no_pair             the reply
--   NoPairExactly      the demand, of a message on any table
--   SentExactly        the demand, of every event on a table that is reached
-- Assumes nothing.
use Rattle.std.specs.Prelude.{ℕ, ◌≤◌, ◌<◌, ◌≡◌, ◌≢◌, Bool, true, false, List, length, get_or, Ok}
use Rattle.calls.specs.declared.State.{State}
use Rattle.calls.specs.declared.Call.{Call}
use Rattle.calls.specs.Calls.{no_slot}
use Rattle.header.specs.Header.{header_in, head_of}
use Rattle.replies.specs.declared.Reply.{Reply}
use Rattle.replies.specs.declared.Reply.TheVariants.{ReleaseCompleteWith}
use Rattle.replies.specs.declared.Outgoing.TheVariants as outgoing
use Rattle.replies.specs.Reply.{reply_octets}
use Rattle.setup.specs.Setup.{admission}
use Rattle.verdicts.specs.Verdict.{plain_cause}
use Rattle.table.specs.declared.Table.{Table}
use Rattle.control.specs.Events.{heard_by, message_of}
use Rattle.control.specs.Happens.{Event, message, happens}
use Rattle.views.specs.Tables.{slot_at, HasCall, NoneFree}

-- "Flag 0 received names a user-originated call, flag 1 a network-originated one."
abbrev pub NoSuchCall : Table → Bool → ℕ → Type 0
NoSuchCall t network r = (i : ℕ) (c : Call) (q : State) → HasCall t i c q → c.network ≡ network → c.reference ≢ r

pub record PassedAllChecks (t : Table) (label reading room : ℕ) (m : List ℕ) : Type 0 where
  -- no refusal number applies
  pub accepted : (message_of t label reading room m).answer.refusal ≡ 0
  -- "1. First octet not 09, or under 9 octets: ignored. 2. Octet 2 not 03: ignored."
  pub long_enough : 9 ≤ length m
  pub first_octet : get_or m 0 0 ≡ 0x09
  pub second_octet : get_or m 1 0 ≡ 0x03
  -- "3. Reference.": SETUP with flag 0, on no live call and not on the global reference
  pub setup : (header_in m).kind ≡ 0x05
  pub flag : (header_in m).flag ≡ false
  pub not_global : (header_in m).reference ≢ 0
  pub no_such_call : NoSuchCall t false (header_in m).reference
  -- "5. Length field not equal to the octets after octet 9: ignored (house)."
  pub whole : (header_in m).whole ≡ true
  -- "6. Contents.": not 96, 100, 65 or 73
  pub elements : admission m 9 ≡ Ok tt
  -- not "47 no empty slot"
  pub empty_slot : (i : ℕ) × ((i < length t.slots.all) × (slot_at t i ≡ no_slot))

-- a SETUP that passed all earlier checks, and no permitted pair is free
pub data WantsPair (t : Table) : Event → Type 0 where
  wants : (label reading room : ℕ) (m : List ℕ) → PassedAllChecks t label reading room m → NoneFree t → WantsPair t (message label reading room m)

-- the cause octet is AD, 45 plus 80 hex: RELEASE and RELEASE COMPLETE hold Cause first, and STATUS holds Call state before it
pub data Says45 (octets : List ℕ) : Type 0 where
  in_release : get_or octets 5 0 ≡ 0x4D → get_or octets 14 0 ≡ 0xAD → Says45 octets
  in_release_complete : get_or octets 5 0 ≡ 0x5A → get_or octets 14 0 ≡ 0xAD → Says45 octets
  in_status : get_or octets 5 0 ≡ 0x7D → get_or octets 19 0 ≡ 0xAD → Says45 octets

-- RELEASE COMPLETE cause 45, about a user-originated call
abbrev pub no_pair : Reply
no_pair = ReleaseCompleteWith (plain_cause 45)

abbrev pub no_pair_octets : ℕ → List ℕ
no_pair_octets r = reply_octets true r no_pair

-- of a message on any table: the decision, and the octets
pub record NoPairExactly (t : Table) (label reading room : ℕ) (m : List ℕ) : Type 0 where
  pub decided : PassedAllChecks t label reading room m → NoneFree t → (heard_by t reading m (head_of m)).outgoing ≡ outgoing.Reply no_pair
  pub decided_only : (message_of t label reading room m).answer.refusal ≡ 0 → (heard_by t reading m (head_of m)).outgoing ≡ outgoing.Reply no_pair
      → PassedAllChecks t label reading room m × NoneFree t
  pub sent : PassedAllChecks t label reading room m → NoneFree t → (message_of t label reading room m).reply ≡ no_pair_octets (header_in m).reference
  pub sent_only : Says45 (message_of t label reading room m).reply → PassedAllChecks t label reading room m × NoneFree t

-- of every event on a reached table
pub record SentExactly (t : Table) (e : Event) : Type 0 where
  pub when : WantsPair t e → Says45 (happens t e).reply
  pub only : Says45 (happens t e).reply → WantsPair t e
