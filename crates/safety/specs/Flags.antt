-- "With 1 to 3 go thirty-two flags, one for each slot, naming exactly the slots meant; with 0 none is set." (document 01)
--   flag_of                               the flag of a slot
--   CallAsked, CallAnswered, CallGone    what a flag says of its slot: "1 call asked, 2 call answered, 3 calls gone"
--   OneFlag                              one flag alone is set, that of the one slot meant
--   NamesExactly                         a notice and flags say what became of the slots
--   NoNotice                             the events for which no notice is named
--   TellsAll                             the other way round: what became of a slot has its notice
--   FlagsExact                           both, of an event on a table
-- Assumes nothing.
use Rattle.std.specs.Prelude.{ℕ, ◌≤◌, ◌≡◌, ◌≢◌, Bool, true, false, length, get_or}
use Rattle.calls.specs.declared.State.{State}
use Rattle.calls.specs.declared.State.TheVariants.{N10}
use Rattle.calls.specs.declared.Call.{Call}
use Rattle.calls.specs.Calls.{no_slot}
use Rattle.slots.specs.declared.Flags.{Flags}
use Rattle.slots.specs.Slots.{slot_count}
use Rattle.table.specs.declared.Table.{Table}
use Rattle.control.specs.Happens.{Event, message, tick, connect, clear, offer, restart, put_marks_back, happens}
use Rattle.views.specs.Tables.{slot_at, HasCall}

abbrev pub flag_of : Flags → ℕ → Bool
flag_of f i = get_or f.on i false

-- t is the table before, u the one after

-- a call was put into the empty slot i
pub record CallAsked (t u : Table) (i : ℕ) : Type 0 where
  pub call : Call
  pub state : State
  pub before : slot_at t i ≡ no_slot
  pub after : HasCall u i call state

-- the call of slot i went to N10
pub record CallAnswered (t u : Table) (i : ℕ) : Type 0 where
  pub call : Call
  pub state : State
  pub before : HasCall t i call state
  pub waiting : state ≢ N10
  pub after : HasCall u i call N10

-- slot i held a call and is empty
pub record CallGone (t u : Table) (i : ℕ) : Type 0 where
  pub call : Call
  pub state : State
  pub before : HasCall t i call state
  pub after : slot_at u i ≡ no_slot

pub record OneFlag (f : Flags) (Meant : ℕ → Type 0) : Type 0 where
  pub slot : ℕ
  pub meant : Meant slot
  pub no_other : (j : ℕ) → Meant j → j ≡ slot
  pub raised : flag_of f slot ≡ true
  pub none_else : (j : ℕ) → j ≢ slot → flag_of f j ≡ false

pub record NamesExactly (t u : Table) (notice : ℕ) (f : Flags) : Type 0 where
  pub thirty_two : length f.on ≡ slot_count
  pub most : notice ≤ 3
  pub with_0 : notice ≡ 0 → (i : ℕ) → flag_of f i ≡ false
  pub with_1 : notice ≡ 1 → OneFlag f (CallAsked t u)
  pub with_2 : notice ≡ 2 → OneFlag f (CallAnswered t u)
  pub with_3 : notice ≡ 3 → (i : ℕ) → flag_of f i ≡ true → CallGone t u i
  pub with_3_all : notice ≡ 3 → (i : ℕ) → CallGone t u i → flag_of f i ≡ true
  pub with_3_some : notice ≡ 3 → (i : ℕ) × (flag_of f i ≡ true)

-- "Where no notice is named it is 0.": for connect and clear none is named, nor for the two commands of document 02, R-4
abbrev pub NoNotice : Event → Type 0
NoNotice (message label reading room octets) = ⊥
NoNotice (tick label reading room) = ⊥
NoNotice (connect label reading room slot) = Unit {0}
NoNotice (clear label reading room slot cause) = Unit {0}
NoNotice (offer label reading room body) = ⊥
NoNotice (restart label reading room target) = Unit {0}
NoNotice (put_marks_back label reading room) = Unit {0}

-- "1 call asked, 2 call answered, 3 calls gone": by connect a call goes to N10 too, but there the host answers it and is told nothing
pub record TellsAll (t u : Table) (e : Event) (notice : ℕ) : Type 0 where
  pub asked : (i : ℕ) → CallAsked t u i → notice ≡ 1
  pub answered : ¬ NoNotice e → (i : ℕ) → CallAnswered t u i → notice ≡ 2
  pub gone : (i : ℕ) → CallGone t u i → notice ≡ 3
  pub unnamed : NoNotice e → notice ≡ 0

pub record FlagsExact (t : Table) (e : Event) : Type 0 where
  pub names : NamesExactly t (happens t e).answer.table (happens t e).answer.notice (happens t e).answer.flags
  pub tells : TellsAll t (happens t e).answer.table e (happens t e).answer.notice
