-- Calls: the state of a call, and what one slot holds.
--   state_number                       the number of a state
--   no_slot, live_slot                  the empty slot, and the slot of a call in a state
--   is_empty, is_live, is_call           if a slot is empty, holds a call, holds a certain call
--   holds_pair, entry_of                if its call holds a pair, and which one it holds
--   is_named                           if it holds a call on a pair that a RESTART names
--   emptied                           a slot emptied if it passes a test
-- Assumes nothing.
use Rattle.std.specs.Prelude.{ℕ, Bool, true, false, cond, not, ◌&&◌, eqb, Option, Some, None}
use Rattle.std.specs.Bool.{beq}
use Rattle.identifier.specs.declared.Pair.{Pair}
use Rattle.channels.specs.declared.Named.{Named}
use Rattle.channels.specs.declared.Named.TheVariants as named
use Rattle.calls.specs.declared.State.{State}
use Rattle.calls.specs.declared.State.TheVariants.{N3, N6, N9, N10, N12}
use Rattle.calls.specs.declared.Call.{Call}
use Rattle.calls.specs.declared.Hold.{Hold}
use Rattle.calls.specs.declared.Hold.TheVariants.{Empty, Live}
use Rattle.calls.specs.declared.Slot.{Slot}

-- the states by their names
abbrev pub state_number : State → ℕ
state_number N3 = 3
state_number (N6 d) = 6
state_number (N9 d) = 9
state_number N10 = 10
state_number (N12 k d) = 12

abbrev pub no_slot : Slot
no_slot = record { hold = Empty }

-- "Each state change stops the old timer": a timer is part of the state
abbrev pub live_slot : Call → State → Slot
live_slot c q = record { hold = Live c q }

abbrev pub empty_hold : Hold → Bool
empty_hold Empty = true
empty_hold (Live c q) = false

abbrev pub is_empty : Slot → Bool
is_empty s = empty_hold s.hold

abbrev pub is_live : Slot → Bool
is_live s = not (is_empty s)

-- "Flag 0 received names a user-originated call, flag 1 a network-originated one."
abbrev pub refers_to : Bool → ℕ → Hold → Bool
refers_to n r Empty = false
refers_to n r (Live c q) = beq c.network n && eqb c.reference r

abbrev pub is_call : Bool → ℕ → Slot → Bool
is_call n r s = refers_to n r s.hold

abbrev pub pair_held : ℕ → ℕ → Hold → Bool
pair_held p v Empty = false
pair_held p v (Live c q) = eqb c.pair.vpci p && eqb c.pair.vci v

abbrev pub holds_pair : ℕ → ℕ → Slot → Bool
holds_pair p v s = pair_held p v s.hold

abbrev pub pair_of : Hold → Option Pair
pair_of Empty = None
pair_of (Live c q) = Some c.pair

abbrev pub entry_of : Slot → Option Pair
entry_of s = pair_of s.hold

-- "calls on the pair, or all calls for 82"
abbrev pub is_named : Named → Slot → Bool
is_named named.All s = is_live s
is_named (named.One pv) s = holds_pair pv.vpci pv.vci s

-- ""Gone" empties slot and pair"
abbrev pub emptied : (Slot → Bool) → Slot → Slot
emptied p s = cond (p s) no_slot s
