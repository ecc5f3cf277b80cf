-- What is said of a table.
--   HasSlots        it has its slots
--   slot_at          one slot, empty where the table has none
--   HasCall         slot i holds the live call c in state q
--   NoneEmpty       no slot is empty
--   OnPair, Holds, InDoubt     a call holds a pair; some live call does; a pair is in doubt
--   IsOut, UnderRestart, NoneFree      a pair is out of service; our RESTART names it; no permitted pair is free
-- Assumes nothing.
use Rattle.std.specs.Prelude.{ℕ, ◌<◌, ◌≡◌, ◌⊎◌, true, length, get_or}
use Rattle.channels.specs.Channels.{permitted}
use Rattle.pairs.specs.Pairs.{in_pairs}
use Rattle.calls.specs.declared.State.{State}
use Rattle.calls.specs.declared.Call.{Call}
use Rattle.calls.specs.declared.Hold.TheVariants.{Live}
use Rattle.calls.specs.declared.Slot.{Slot}
use Rattle.calls.specs.Calls.{no_slot}
use Rattle.service.specs.Service.{under_restart, is_out}
use Rattle.slots.specs.Slots.{slot_count}
use Rattle.table.specs.declared.Table.{Table}

-- "The table has the 32 slots of calls"
abbrev pub HasSlots : Table → Type 0
HasSlots t = length t.slots.all ≡ slot_count

abbrev pub slot_at : Table → ℕ → Slot
slot_at t i = get_or t.slots.all i no_slot

abbrev pub HasCall : Table → ℕ → Call → State → Type 0
HasCall t i c q = (slot_at t i).hold ≡ Live c q

-- "no empty slot"
abbrev pub NoneEmpty : Table → Type 0
NoneEmpty t = (i : ℕ) → i < slot_count → (c : Call) × ((q : State) × HasCall t i c q)

-- the live call c holds the pair of VPCI p and VCI v
pub record OnPair (p v : ℕ) (c : Call) : Type 0 where
  pub vpci : c.pair.vpci ≡ p
  pub vci : c.pair.vci ≡ v

-- some live call holds the pair
pub record Holds (t : Table) (p v : ℕ) : Type 0 where
  pub slot : ℕ
  pub call : Call
  pub state : State
  pub live : HasCall t slot call state
  pub pair : OnPair p v call

-- document 02, R-2: the pair is in doubt
abbrev pub InDoubt : Table → ℕ → ℕ → Type 0
InDoubt t p v = in_pairs t.doubts p v ≡ true

-- document 02, R-4: the pair is out of service, by a mark of its own or by "all"
abbrev pub IsOut : Table → ℕ → ℕ → Type 0
IsOut t p v = is_out t.out p v ≡ true

-- document 02, R-4: "Named pairs while T316 runs"
abbrev pub UnderRestart : Table → ℕ → ℕ → Type 0
UnderRestart t p v = under_restart t.global.state p v ≡ true

-- "no permitted pair free": ""free" now means neither held nor in doubt"; R-4: "Named pairs while T316 runs, and out-of-service pairs, are not
-- free."
abbrev pub NoneFree : Table → Type 0
NoneFree t = (p v : ℕ) → permitted t.pool p v ≡ true → Holds t p v ⊎ (InDoubt t p v ⊎ (IsOut t p v ⊎ UnderRestart t p v))
