-- Our RESTART and the pairs out of service (document 02, R-4): what the host's commands, RESTART ACKNOWLEDGE and T316 do to calls, doubts,
-- marks, the RESTART under way, the reply and the notice.
--   restart_octets, status101         the message that we send; the answer to an acknowledge of nothing
--   Unsaid                           no notice
--   Sends, Ends, Discards            what becomes of a table: our RESTART is sent; it ends, with the named calls and doubts; nothing happens
--   Answers101                       nothing but the answer to an acknowledge of nothing
--   Acknowledged, Withdrawn, PutBack it ends by an acknowledge, and by a second expiry; all marked pairs are put back
--   IsAcknowledge, Same              RESTART ACKNOWLEDGE with flag 1; one with the elements of our RESTART
--   T316Next                         a tick fires T316
--   Elsewhere                        events that have no part in it
--   OwnRestarts                      the whole, of a controller on a table; `happens` is the one that there is
-- Assumes nothing.
use Rattle.identifier.specs.Pair.{pair}
use Rattle.std.specs.Prelude.{ℕ, ◌+◌, ◌≤◌, ◌<◌, ◌≡◌, ◌⊎◌, Bool, true, false, cond, not, ◌&&◌, ◌||◌, List, [], ◌∷◌, map, get_or, replicate, Some}
use Rattle.std.specs.List.{list_any}
use Rattle.channels.specs.declared.Named.{Named}
use Rattle.channels.specs.declared.Named.TheVariants.{All, One}
use Rattle.pairs.specs.Pairs.{in_pairs, names}
use Rattle.calls.specs.declared.State.{State}
use Rattle.calls.specs.declared.Call.{Call}
use Rattle.calls.specs.Calls.{no_slot, is_named}
use Rattle.calls.specs.Timers.{state_due, due_by}
use Rattle.slots.specs.Slots.{slot_count}
use Rattle.slots.specs.Timers.{some_due}
use Rattle.header.specs.Header.{header_in, head_of}
use Rattle.elements.specs.declared.Read.TheVariants as elem
use Rattle.elements.specs.Values.{connection_in, restart_in, pair_read}
use Rattle.octets.specs.Octets.{high, low}
use Rattle.service.specs.declared.GlobalState.TheVariants.{Null, RestartRequest}
use Rattle.service.specs.Service.{t316, global_due, is_waiting, none_out, is_out, has_room}
use Rattle.restarts.specs.declared.Target.{Target}
use Rattle.restarts.specs.Own.{named_by}
use Rattle.table.specs.declared.Table.{Table}
use Rattle.table.specs.Effects.{read_at}
use Rattle.outcome.specs.Outcome.{Outcome}
use Rattle.control.specs.Happens.{Event, message, tick, connect, clear, offer, restart, put_marks_back}
use Rattle.views.specs.Tables.{slot_at, HasCall, Holds, IsOut, UnderRestart}

-- "We send RESTART with global reference and flag 0, 79 and for one pair 5A"
abbrev pub restart_octets : Named → List ℕ
restart_octets All = 0x09 ∷ 0x03 ∷ 0x00 ∷ 0x00 ∷ 0x00 ∷ 0x46 ∷ 0x80 ∷ 0x00 ∷ 0x05 ∷ 0x79 ∷ 0x80 ∷ 0x00 ∷ 0x01 ∷ 0x82 ∷ []
restart_octets (One pv) =
    0x09 ∷ 0x03 ∷ 0x00 ∷ 0x00 ∷ 0x00 ∷ 0x46 ∷ 0x80 ∷ 0x00 ∷ 0x0E ∷ 0x79 ∷ 0x80 ∷ 0x00 ∷ 0x01 ∷ 0x80
    ∷ 0x5A ∷ 0x80 ∷ 0x00 ∷ 0x05 ∷ 0x88 ∷ high pv.vpci ∷ low pv.vpci ∷ high pv.vci ∷ low pv.vci ∷ []

-- "the old STATUS 101": state 0, and the type as its diagnostic
abbrev pub status101 : List ℕ
status101 =
    0x09 ∷ 0x03 ∷ 0x00 ∷ 0x00 ∷ 0x00 ∷ 0x7D ∷ 0x80 ∷ 0x00 ∷ 0x0C ∷ 0x14 ∷ 0x80 ∷ 0x00 ∷ 0x01 ∷ 0x00
    ∷ 0x08 ∷ 0x80 ∷ 0x00 ∷ 0x03 ∷ 0x81 ∷ 0xE5 ∷ 0x4E ∷ []

-- "Where no notice is named it is 0."; "with 0 none is set"
pub record Unsaid (o : Outcome) : Type 0 where
  pub notice : o.answer.notice ≡ 0
  pub flags : o.answer.flags.on ≡ replicate slot_count false

-- t is the table before, and o what came of the event; u is the table afterwards
module _ (t : Table) (o : Outcome) where
  abbrev u : Table
  u = o.answer.table

  -- "We send RESTART .., start T316 of 120,000 ms": calls, doubts and marks stay
  pub record Sends (reading : ℕ) (which : Named) (second : Bool) : Type 0 where
    pub calls : u.slots ≡ t.slots
    pub doubts : u.doubts ≡ t.doubts
    pub marks : u.out ≡ t.out
    pub under_way : u.global.state ≡ RestartRequest which second (reading + t316)
    pub reply : o.reply ≡ restart_octets which
    pub unsaid : Unsaid o

  -- "ends the RESTART, empties the named calls, notice 3 if any went, and ends the named doubts"
  pub record Ends (which : Named) : Type 0 where
    pub ended : u.global.state ≡ Null
    pub calls : (i : ℕ) → slot_at u i ≡ cond (is_named which (slot_at t i)) no_slot (slot_at t i)
    pub notice : o.answer.notice ≡ cond (list_any (is_named which) t.slots.all) 3 0
    pub flags : o.answer.flags.on ≡ map (is_named which) t.slots.all
    pub doubts : (p v : ℕ) → in_pairs u.doubts p v ≡ (not (names which p v) && in_pairs t.doubts p v)
    pub no_reply : o.reply ≡ []

  -- nothing but put-back takes a mark away
  pub record Acknowledged (which : Named) : Type 0 where
    pub ends : Ends which
    pub marks_stay : u.out ≡ t.out

  -- "a second does the same to calls and doubts, ends the RESTART and marks the named pairs out of service": ""All" is one mark"
  pub record Withdrawn (which : Named) : Type 0 where
    pub ends : Ends which
    pub marks : (p v : ℕ) → is_out u.out p v ≡ (names which p v || is_out t.out p v)
    pub all : which ≡ All → u.out ≡ record { all = true; pairs = t.out.pairs }
    pub one : (p v : ℕ) → which ≡ One (pair p v) → u.out.all ≡ t.out.all
    -- a single pair gets a mark of its own, beside "all" too
    pub single : (p v : ℕ) → which ≡ One (pair p v) → (q w : ℕ) → in_pairs u.out.pairs q w ≡ (names which q w || in_pairs t.out.pairs q w)

  -- "Any other is discarded": its reading is stored
  pub record Discards (reading : ℕ) : Type 0 where
    pub table : u ≡ read_at t reading
    pub no_reply : o.reply ≡ []
    pub unsaid : Unsaid o

  -- "with none outstanding the old STATUS 101 stands": its reading is stored, and nothing else happens
  pub record Answers101 (reading : ℕ) : Type 0 where
    pub table : u ≡ read_at t reading
    pub reply : o.reply ≡ status101
    pub unsaid : Unsaid o

  -- "the host puts all marked pairs back at once"
  pub record PutBack : Type 0 where
    pub calls : u.slots ≡ t.slots
    pub doubts : u.doubts ≡ t.doubts
    pub under_way : u.global ≡ t.global
    pub marks : u.out ≡ none_out
    pub no_reply : o.reply ≡ []
    pub unsaid : Unsaid o

  -- our RESTART and the marks stay
  pub record Leaves : Type 0 where
    pub under_way : u.global ≡ t.global
    pub marks : u.out ≡ t.out

-- RESTART ACKNOWLEDGE with flag 1 on the global reference, past the header checks
pub record IsAcknowledge (m : List ℕ) : Type 0 where
  pub head : head_of m ≡ Some (header_in m)
  pub kind : (header_in m).kind ≡ 0x4E
  pub flag : (header_in m).flag ≡ true
  pub global : (header_in m).reference ≡ 0

-- "RESTART ACKNOWLEDGE with flag 1 then goes on to step 5. One with 79, and for one pair 5A, readable and the same"
pub data Same (m : List ℕ) : Named → Type 0 where
  all : (header_in m).whole ≡ true → restart_in m 9 ≡ elem.Readable 0x82 → Same m All
  one : (p v : ℕ) → (header_in m).whole ≡ true → restart_in m 9 ≡ elem.Readable 0x80 → connection_in m 9 ≡ pair_read p v → Same m (One (pair p v))

-- "Due: reading at least the deadline."; "In a tick T316 comes after slots of equal deadline.": those of slots are later
pub record T316Next (t : Table) (reading deadline : ℕ) : Type 0 where
  pub due : deadline ≤ reading
  pub slots_later : (i : ℕ) (c : Call) (q : State) (d : ℕ) → HasCall t i c q → state_due q ≡ Some d → deadline < d

-- every message but RESTART ACKNOWLEDGE with flag 1 on the global reference, a user's RESTART too, and the host's other commands
pub data Elsewhere : Event → Type 0 where
  heard : (label reading room : ℕ) (m : List ℕ) → ¬ IsAcknowledge m → Elsewhere (message label reading room m)
  connecting : (label reading room slot : ℕ) → Elsewhere (connect label reading room slot)
  clearing : (label reading room slot cause : ℕ) → Elsewhere (clear label reading room slot cause)
  offering : (label reading room : ℕ) (body : List ℕ) → Elsewhere (offer label reading room body)

-- a controller, on a table
pub record OwnRestarts (controller : Table → Event → Outcome) (t : Table) : Type 0 where
  -- "The host may restart one pair or all." (refusal 13 is in FixedAnswers)
  pub command : (label reading room : ℕ) (target : Target) → (controller t (restart label reading room target)).answer.refusal ≡ 0
      → Sends t (controller t (restart label reading room target)) reading (named_by target) false
  -- "One with 79, and for one pair 5A, readable and the same ends the RESTART"
  pub acknowledge : (label reading room : ℕ) (m : List ℕ) (which : Named) (second : Bool) (deadline : ℕ) → t.global.state ≡ RestartRequest which second deadline
      → (controller t (message label reading room m)).answer.refusal ≡ 0 → IsAcknowledge m → Same m which
      → Acknowledged t (controller t (message label reading room m)) which
  -- "Any other is discarded"
  pub any_other_acknowledge : (label reading room : ℕ) (m : List ℕ) (which : Named) (second : Bool) (deadline : ℕ) → t.global.state ≡ RestartRequest which second deadline
      → (controller t (message label reading room m)).answer.refusal ≡ 0 → IsAcknowledge m → ¬ Same m which
      → Discards t (controller t (message label reading room m)) reading
  -- "with none outstanding the old STATUS 101 stands"
  pub none_outstanding : (label reading room : ℕ) (m : List ℕ) → t.global.state ≡ Null → (controller t (message label reading room m)).answer.refusal ≡ 0
      → IsAcknowledge m → Answers101 t (controller t (message label reading room m)) reading
  -- "Expiry resends once"
  pub first_expiry : (label reading room : ℕ) (which : Named) (deadline : ℕ) → t.global.state ≡ RestartRequest which false deadline
      → (controller t (tick label reading room)).answer.refusal ≡ 0 → T316Next t reading deadline
      → Sends t (controller t (tick label reading room)) reading which true
  -- "a second .. ends the RESTART"
  pub second_t316_expiry : (label reading room : ℕ) (which : Named) (deadline : ℕ) → t.global.state ≡ RestartRequest which true deadline
      → (controller t (tick label reading room)).answer.refusal ≡ 0 → T316Next t reading deadline → has_room t.out which ≡ true
      → Withdrawn t (controller t (tick label reading room)) which
  -- "with 64 a single pair's second expiry resends again": it stays a second one
  pub without_room : (label reading room : ℕ) (which : Named) (deadline : ℕ) → t.global.state ≡ RestartRequest which true deadline
      → (controller t (tick label reading room)).answer.refusal ≡ 0 → T316Next t reading deadline → has_room t.out which ≡ false
      → Sends t (controller t (tick label reading room)) reading which true
  -- "T316 comes after slots of equal deadline"
  pub slots_first : (label reading room : ℕ) (which : Named) (second : Bool) (deadline : ℕ) → t.global.state ≡ RestartRequest which second deadline
      → ¬ T316Next t reading deadline → Leaves t (controller t (tick label reading room))
  -- with none outstanding no tick begins one
  pub none_fires : (label reading room : ℕ) → t.global.state ≡ Null → Leaves t (controller t (tick label reading room))
  -- "until the host puts all marked pairs back at once"
  pub puts_marks_back : (label reading room : ℕ) → (controller t (put_marks_back label reading room)).answer.refusal ≡ 0
      → PutBack t (controller t (put_marks_back label reading room))
  -- "says if another is due afterwards": T316 counts
  pub another_due : (label reading room : ℕ) → (controller t (tick label reading room)).answer.refusal ≡ 0
      → let o = controller t (tick label reading room) in
      o.answer.more ≡ (some_due reading o.answer.table.slots.all || due_by reading (global_due o.answer.table.global.state))
  -- "Global STATUS now shows Restart Request, 61, while waiting.": STATUS is of type 7D, and Call state comes first
  pub status_shows : (label reading room : ℕ) (m : List ℕ) → head_of m ≡ Some (header_in m) → (header_in m).reference ≡ 0
      → let o = controller t (message label reading room m) in
      get_or o.reply 5 0 ≡ 0x7D → get_or o.reply 13 0 ≡ cond (is_waiting t.global.state) 61 0
  -- nothing else has a part in it
  pub elsewhere : (e : Event) → Elsewhere e → Leaves t (controller t e)
  -- "Named pairs while T316 runs, and out-of-service pairs, are not free.": no event gives one to a call
  pub given_to_none : (e : Event) (p v : ℕ) → IsOut t p v ⊎ UnderRestart t p v → Holds (controller t e).answer.table p v → Holds t p v
