-- "Slips we have seen" (document 01), each shut out by a statement.
--   HeldUntilGone, ReleaseFreesNone, NotHandedOut, ReleasedHolds      "A pair freed when RELEASE is sent, not when the call is gone."
--   OneSide, SetupIsNew, BothOnes                                     "Flag forgotten, so user reference 1 and network reference 1 become one call."
--   DuplicateIgnored                                                  "An ignored duplicate SETUP that takes a second pair."
--   NoStatusForStatus                                                 "STATUS answered with STATUS."
--   PermanentStays                                                    "A permanent pair cleared by "all"."
-- Assumes nothing.
use Rattle.std.specs.Prelude.{ℕ, ◌≡◌, ◌⊎◌, ◌≢◌, true, false, List, [], ◌∷◌, get_or, Some}
use Rattle.identifier.specs.Pair.{pair}
use Rattle.channels.specs.Channels.{permanent}
use Rattle.calls.specs.declared.State.{State}
use Rattle.calls.specs.declared.State.TheVariants.{N3, N6}
use Rattle.calls.specs.declared.Call.{Call}
use Rattle.calls.specs.declared.Slot.{Slot}
use Rattle.calls.specs.Calls.{no_slot, is_call}
use Rattle.calls.specs.Timers.{t303}
use Rattle.header.specs.declared.Header.{Header}
use Rattle.header.specs.Header.{header_in, head_of}
use Rattle.setup.specs.Setup.{admission}
use Rattle.verdicts.specs.Expiry.{clearing}
use Rattle.table.specs.declared.Table.{Table}
use Rattle.table.specs.Effects.{free_pair, user_call, setup_effect, message_effect}
use Rattle.outcome.specs.Outcome.{Outcome}
use Rattle.commands.specs.Commands.{network_call}
use Rattle.control.specs.Events.{message_of, clear_of}
use Rattle.control.specs.Happens.{Event, happens}
use Rattle.views.specs.Tables.{slot_at, HasCall, InDoubt, IsOut, UnderRestart}
use Rattle.safety.specs.NoPair.{NoSuchCall}
use Rattle.safety.specs.SmallTable.{begun, setup, heard, offering, left}

-- "A pair freed when RELEASE is sent, not when the call is gone."

-- c is still in slot i, in some state
pub record StillThere (u : Table) (i : ℕ) (c : Call) : Type 0 where
  pub state : State
  pub live : HasCall u i c state

-- ""Gone" empties slot and pair, notice 3."
pub record Went (o : Outcome) (i : ℕ) : Type 0 where
  pub empty : slot_at o.answer.table i ≡ no_slot
  pub notice : o.answer.notice ≡ 3
  pub flag : get_or o.answer.flags.on i false ≡ true

-- by every event a live call keeps slot, reference and pair, or it is gone and the host is told
abbrev pub HeldUntilGone : Table → Event → Type 0
HeldUntilGone t e = (i : ℕ) (c : Call) (q : State) → HasCall t i c q → StillThere (happens t e).answer.table i c ⊎ Went (happens t e) i

-- by an event that sends RELEASE (clear, T310, a first T308) every live call keeps slot, reference and pair: octet 6 is the type
abbrev pub ReleaseFreesNone : Table → Event → Type 0
ReleaseFreesNone t e = get_or (happens t e).reply 5 0 ≡ 0x4D → (i : ℕ) (c : Call) (q : State) → HasCall t i c q → StillThere (happens t e).answer.table i c

-- the pair of a live call, in N12 as in every other state, is not the one that a new call gets; nor is a pair in doubt, or, by document 02, R-4,
-- one out of service or named by our RESTART: "Named pairs while T316 runs, and out-of-service pairs, are not free."
pub record NotHandedOut (t : Table) : Type 0 where
  pub held : (i : ℕ) (c : Call) (q : State) → HasCall t i c q → free_pair t ≢ Some c.pair
  pub in_doubt : (p v : ℕ) → InDoubt t p v → free_pair t ≢ Some (pair p v)
  pub none_out_of_service : (p v : ℕ) → IsOut t p v → free_pair t ≢ Some (pair p v)
  pub none_under_restart : (p v : ℕ) → UnderRestart t p v → free_pair t ≢ Some (pair p v)

-- after an accepted clear the call is in N12 in its slot, with its pair
abbrev pub ReleasedHolds : Table → Type 0
ReleasedHolds t = (label reading room slot cause : ℕ) (c : Call) (q : State) → HasCall t slot c q → (clear_of t label reading room slot cause).answer.refusal ≡ 0
    → HasCall (clear_of t label reading room slot cause).answer.table slot c (clearing reading false cause false)

-- "Flag forgotten, so user reference 1 and network reference 1 become one call."

-- no call is both
abbrev pub OneSide : Type 0
OneSide = (r : ℕ) (s : Slot) → is_call false r s ≡ true → is_call true r s ≡ false

-- a whole SETUP with flag 0 on no live user-originated call is a new call, whatever network-originated calls have its value
abbrev pub SetupIsNew : Table → Type 0
SetupIsNew t = (m : List ℕ) (h : Header) (reading : ℕ) → h.kind ≡ 0x05 → h.flag ≡ false → h.whole ≡ true → h.reference ≢ 0
    → NoSuchCall t false h.reference → message_effect t m h reading ≡ setup_effect t h.reference (admission m 9)

-- an offer, which has network reference 1, and then P1's SETUP, with user reference 1
pub record BothOnes : Type 0 where
  pub network_one : HasCall (left (heard (left (offering begun 0)) (setup 1))) 0 (network_call 1 0 32) (N6 t303)
  pub user_one : HasCall (left (heard (left (offering begun 0)) (setup 1))) 1 (user_call 1 0 33) N3
  pub reply : (heard (left (offering begun 0)) (setup 1)).reply
      ≡ 0x09 ∷ 0x03 ∷ 0x80 ∷ 0x00 ∷ 0x01 ∷ 0x02 ∷ 0x80 ∷ 0x00 ∷ 0x09 ∷ 0x5A ∷ 0x80 ∷ 0x00 ∷ 0x05 ∷ 0x88 ∷ 0x00 ∷ 0x00 ∷ 0x00 ∷ 0x21 ∷ []

-- "An ignored duplicate SETUP that takes a second pair."

-- slot i holds the live call that a header names
pub record Names (t : Table) (h : Header) (i : ℕ) (c : Call) (q : State) : Type 0 where
  pub live : HasCall t i c q
  pub side : c.network ≡ h.flag
  pub value : c.reference ≡ h.reference
  pub not_global : h.reference ≢ 0

-- a SETUP on a live call leaves the slots, and gets no reply and no notice
pub record Untouched (t : Table) (o : Outcome) : Type 0 where
  pub slots : o.answer.table.slots.all ≡ t.slots.all
  pub reply : o.reply ≡ []
  pub notice : o.answer.notice ≡ 0

abbrev pub DuplicateIgnored : Table → Type 0
DuplicateIgnored t = (label reading room : ℕ) (m : List ℕ) (i : ℕ) (c : Call) (q : State) → head_of m ≡ Some (header_in m) → (header_in m).kind ≡ 0x05
    → Names t (header_in m) i c q → Untouched t (message_of t label reading room m)

-- "STATUS answered with STATUS.": octet 6 of a message is its type
abbrev pub NoStatusForStatus : Table → Type 0
NoStatusForStatus t = (label reading room : ℕ) (m : List ℕ) → get_or m 5 0 ≡ 0x7D → get_or (message_of t label reading room m).reply 5 0 ≢ 0x7D

-- "A permanent pair cleared by "all".": no live call ever holds one, and no event changes what start permits
pub record PermanentStays (t : Table) : Type 0 where
  pub held_by_none : (i : ℕ) (c : Call) (q : State) → HasCall t i c q → permanent t.pool c.pair.vpci c.pair.vci ≡ false
  pub pool_stays : (e : Event) → (happens t e).answer.table.pool ≡ t.pool
