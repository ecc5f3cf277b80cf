-- Document 02, R-2: "Prove from the history since a start or reload: each permitted pair is held from assignment until its call ends,
-- in doubt from such an expiry until a RESTART ends it, free otherwise, never two ways; reloaded pairs go on as they were." R-4: "R-2's
-- statement gains "out of service" as a fourth way, counted as if no RESTART ran."
--   Way                        free, held by a certain call, in doubt, out of service
--   held_in, out_in, way_in       how a pair stands in a table: by one slot, by the marks, by all of it
--   asked, assignment          an answer says that a call was asked in a slot; that call has the pair
--   gone                       an answer says that the call of a slot is gone
--   second_expiry               an event is a tick, and in a slot the second T308 runs
--   is_restart, names, restarts a message is a user's RESTART; it names a pair, or all; an event is one that does
--   is_acknowledge, acknowledges  a message is RESTART ACKNOWLEDGE; an event is one of our RESTART, which names a pair
--   ends_doubt                  one of these, and it was not refused
--   second_t316, marks          our RESTART, sent a second time, names a pair; and a tick ends it
--   is_put_back, puts_back        an event puts the marked pairs back, and was not refused
--   next_way, way_after          how the pair stands after an event, and after a list of them, told from events, answers and tables
--   Expiry                     what a second T308 expiry does
--   unmarked, Restarting       free, unless out of service; what a user's RESTART does
--   without_restart             a table, as if no RESTART ran
--   SameCall, History          the statement
-- Assumes nothing.
use Rattle.header.specs.declared.Header.{Header}
use Rattle.std.specs.Prelude.{ℕ, ◌≡◌, ◌⊎◌, Bool, true, false, not, cond, ◌&&◌, ◌||◌, List, [], ◌∷◌, eqb, Option, Some, None}
use Rattle.identifier.specs.Pair.{pair}
use Rattle.channels.specs.Channels.{permitted}
use Rattle.channels.specs.declared.Named.{Named}
use Rattle.pairs.specs.Pairs as by_us
use Rattle.pairs.specs.Pairs.{is_full, in_pairs}
use Rattle.calls.specs.declared.State.{State}
use Rattle.calls.specs.declared.State.TheVariants.{N3, N6, N9, N10, N12}
use Rattle.calls.specs.declared.Call.{Call}
use Rattle.calls.specs.declared.Hold.{Hold}
use Rattle.calls.specs.declared.Hold.TheVariants.{Empty, Live}
use Rattle.calls.specs.Calls.{no_slot, live_slot, holds_pair}
use Rattle.first.specs.First.{place}
use Rattle.slots.specs.Slots.{is_set}
use Rattle.slots.specs.Timers.{next_due}
use Rattle.header.specs.Header.{head_of}
use Rattle.elements.specs.declared.Read.{Read}
use Rattle.identifier.specs.declared.Pair.{Pair}
use Rattle.elements.specs.declared.Read.TheVariants as elem
use Rattle.elements.specs.Values.{connection_in, restart_in, pair_read}
use Rattle.service.specs.declared.GlobalState.{GlobalState}
use Rattle.service.specs.declared.GlobalState.TheVariants.{Null, RestartRequest}
use Rattle.service.specs.Service.{is_waiting, is_out}
use Rattle.restarts.specs.Own.{is_same}
use Rattle.replies.specs.declared.Reply.TheVariants.{RestartAcknowledge, RestartAcknowledgeAll}
use Rattle.replies.specs.Reply.{reply_octets}
use Rattle.verdicts.specs.Expiry.{clearing, last_t308}
use Rattle.table.specs.declared.Table.{Table}
use Rattle.table.specs.Effects.{free_pair}
use Rattle.outcome.specs.Outcome.{Outcome}
use Rattle.control.specs.Events.{start_of}
use Rattle.control.specs.Happens.{Event, message, tick, connect, clear, offer, restart, put_marks_back, happens, after}
use Rattle.reached.specs.Reached.{Beginning, begun, Reached}
use Rattle.views.specs.Tables.{slot_at, HasCall, OnPair, Holds, InDoubt, IsOut}
use Rattle.safety.specs.Slips.{HeldUntilGone}
use Rattle.safety.specs.Flags.{flag_of}
use Rattle.safety.specs.Restarts.{T316Next}

-- "held": by a certain live call, that is its slot, its side and its call reference
pub data Way : Type 0 where
  free : Way
  held : (slot : ℕ) (network : Bool) (reference : ℕ) → Way
  doubtful : Way
  out_of_service : Way

-- by what slot i holds: a call that has the pair, or not
abbrev pub held_by : ℕ → ℕ → ℕ → Hold → Way
held_by p v i Empty = free
held_by p v i (Live c q) = cond (eqb c.pair.vpci p && eqb c.pair.vci v) (held i c.network c.reference) free

abbrev pub held_in : Table → ℕ → ℕ → ℕ → Way
held_in t p v i = held_by p v i (slot_at t i).hold

-- out of service: ""All" is one mark", of every permitted pair
abbrev pub out_in : Table → ℕ → ℕ → Bool
out_in t p v = is_out t.out p v && permitted t.pool p v

-- by the table: a live call holds the pair; it is in doubt; it is out of service; none of these
abbrev pub standing : Table → ℕ → ℕ → Option ℕ → Way
standing t p v (Some i) = held_in t p v i
standing t p v None = cond (in_pairs t.doubts p v) doubtful (cond (out_in t p v) out_of_service free)

abbrev pub way_in : Table → ℕ → ℕ → Way
way_in t p v = standing t p v (place (holds_pair p v) t.slots.all)

-- "1 call asked": the flagged slot
abbrev pub asked : Outcome → Option ℕ
asked o = cond (eqb o.answer.notice 1) (place is_set o.answer.flags.on) None

-- "from assignment": the call that was asked has the pair afterwards
abbrev pub assignment : Table → ℕ → ℕ → Option ℕ → Way
assignment u p v None = free
assignment u p v (Some i) = held_in u p v i

-- "until its call ends": "3 calls gone", and its slot is flagged
abbrev pub gone : Outcome → ℕ → Bool
gone o i = eqb o.answer.notice 3 && flag_of o.answer.flags i

-- "on the second T308 expiry": the second T308 runs in slot i, and a tick comes
abbrev pub last_hold : Hold → Bool
last_hold Empty = false
last_hold (Live c q) = last_t308 q

abbrev pub second_expiry : Table → Event → ℕ → Bool
second_expiry t (message label reading room octets) i = false
second_expiry t (tick label reading room) i = last_hold (slot_at t i).hold
second_expiry t (connect label reading room slot) i = false
second_expiry t (clear label reading room slot cause) i = false
second_expiry t (offer label reading room body) i = false
second_expiry t (restart label reading room target) i = false
second_expiry t (put_marks_back label reading room) i = false

-- "A user's RESTART": "RESTART 46", "RESTART with flag 0" on the global reference, and its length is right (document 01, steps 1 to 3 and 5)
abbrev pub restart_head : Option Header → Bool
restart_head None = false
restart_head (Some h) = (eqb h.kind 0x46 && not h.flag) && (eqb h.reference 0 && h.whole)

abbrev pub is_restart : List ℕ → Bool
is_restart m = restart_head (head_of m)

-- ".. that names it, or all": 79, "80 (indicated channel) or 82 (all)" where it is readable, is 82, or else 5A is the pair
abbrev pub names_pair : Read Pair → ℕ → ℕ → Bool
names_pair elem.Absent p v = false
names_pair elem.Unreadable p v = false
names_pair (elem.Readable c) p v = eqb c.vpci p && eqb c.vci v

abbrev pub names : Read ℕ → Read Pair → ℕ → ℕ → Bool
names elem.Absent connection p v = false
names elem.Unreadable connection p v = false
names (elem.Readable c) connection p v = eqb c 0x82 || names_pair connection p v

abbrev pub restarts : Event → ℕ → ℕ → Bool
restarts (message label reading room octets) p v = is_restart octets && names (restart_in octets 9) (connection_in octets 9) p v
restarts (tick label reading room) p v = false
restarts (connect label reading room slot) p v = false
restarts (clear label reading room slot cause) p v = false
restarts (offer label reading room body) p v = false
restarts (restart label reading room target) p v = false
restarts (put_marks_back label reading room) p v = false

-- R-4: "RESTART ACKNOWLEDGE with flag 1 then goes on to step 5": "RESTART ACKNOWLEDGE 4E", on the global reference, and its length is right
abbrev pub acknowledge_head : Option Header → Bool
acknowledge_head None = false
acknowledge_head (Some h) = (eqb h.kind 0x4E && h.flag) && (eqb h.reference 0 && h.whole)

abbrev pub is_acknowledge : List ℕ → Bool
is_acknowledge m = acknowledge_head (head_of m)

-- "One with 79, and for one pair 5A, readable and the same .. ends the named doubts": of our RESTART under way, if it names the pair
abbrev pub answers : GlobalState → Read ℕ → Read Pair → ℕ → ℕ → Bool
answers Null r c p v = false
answers (RestartRequest which second d) r c p v = is_same which r c && by_us.names which p v

abbrev pub acknowledges : Table → Event → ℕ → ℕ → Bool
acknowledges t (message label reading room octets) p v = is_acknowledge octets && answers t.global.state (restart_in octets 9) (connection_in octets 9) p v
acknowledges t (tick label reading room) p v = false
acknowledges t (connect label reading room slot) p v = false
acknowledges t (clear label reading room slot cause) p v = false
acknowledges t (offer label reading room body) p v = false
acknowledges t (restart label reading room target) p v = false
acknowledges t (put_marks_back label reading room) p v = false

-- "A user's RESTART that names it, or all, ends the doubt", and so does an acknowledge of ours: one that was not refused
abbrev pub ends_doubt : Table → Event → Outcome → ℕ → ℕ → Bool
ends_doubt t e o p v = eqb o.answer.refusal 0 && (restarts e p v || acknowledges t e p v)

-- R-4: "a second .. ends the RESTART and marks the named pairs out of service": T316 of the RESTART under way runs a second time, it names the
-- pair, a tick comes, and no RESTART is under way any more
abbrev pub second_t316 : GlobalState → ℕ → ℕ → Bool
second_t316 Null p v = false
second_t316 (RestartRequest which second d) p v = second && by_us.names which p v

abbrev pub marks : Table → Event → Table → ℕ → ℕ → Bool
marks t (message label reading room octets) u p v = false
marks t (tick label reading room) u p v = second_t316 t.global.state p v && not (is_waiting u.global.state)
marks t (connect label reading room slot) u p v = false
marks t (clear label reading room slot cause) u p v = false
marks t (offer label reading room body) u p v = false
marks t (restart label reading room target) u p v = false
marks t (put_marks_back label reading room) u p v = false

-- ".. until the host puts all marked pairs back at once": a put-back that was not refused
abbrev pub is_put_back : Event → Bool
is_put_back (message label reading room octets) = false
is_put_back (tick label reading room) = false
is_put_back (connect label reading room slot) = false
is_put_back (clear label reading room slot cause) = false
is_put_back (offer label reading room body) = false
is_put_back (restart label reading room target) = false
is_put_back (put_marks_back label reading room) = true

abbrev pub puts_back : Event → Outcome → Bool
puts_back e o = eqb o.answer.refusal 0 && is_put_back e

-- "held from assignment until its call ends, in doubt from such an expiry until a RESTART ends it, free otherwise"; R-4: out of service from a
-- second expiry of T316, which ends calls and doubts, until the host puts the pair back
abbrev pub next_way : Table → Event → Outcome → ℕ → ℕ → Way → Way
next_way t e o p v free = cond (marks t e o.answer.table p v) out_of_service (assignment o.answer.table p v (asked o))
next_way t e o p v (held i network r) =
    cond (gone o i) (cond (marks t e o.answer.table p v) out_of_service (cond (second_expiry t e i) doubtful free)) (held i network r)
next_way t e o p v doubtful = cond (marks t e o.answer.table p v) out_of_service (cond (ends_doubt t e o p v) free doubtful)
next_way t e o p v out_of_service = cond (puts_back e o) free out_of_service

abbrev pub way_after : Table → List Event → ℕ → ℕ → Way → Way
way_after t [] p v w = w
way_after t (e ∷ es) p v w = way_after (happens t e).answer.table es p v (next_way t e (happens t e) p v w)

-- "on the second T308 expiry": an accepted tick fires the timer of slot i, whose call's second T308 runs; T316 does not come first
pub record Fires (t : Table) (label reading room i : ℕ) (c : Call) (q : State) : Type 0 where
  pub accepted : (happens t (tick label reading room)).answer.refusal ≡ 0
  pub due : next_due reading t.slots.all ≡ Some i
  pub no_T316 : (which : Named) (second : Bool) (d : ℕ) → t.global.state ≡ RestartRequest which second d → ¬ T316Next t reading d
  pub live : HasCall t i c q
  pub last : last_t308 q ≡ true

-- T308 runs again
abbrev pub again : ℕ → State → State
again reading N3 = N3
again reading (N6 d) = N6 d
again reading (N9 d) = N9 d
again reading N10 = N10
again reading (N12 k d) = clearing reading true k.cause k.expired

pub record Expiry (t : Table) : Type 0 where
  -- "Now the pair is in doubt, not free; the slot is empty, notice 3."
  pub begins_doubt : (label reading room i : ℕ) (c : Call) (q : State) → Fires t label reading room i c q → is_full t.doubts ≡ false
      → let o = happens t (tick label reading room) in
      (slot_at o.answer.table i ≡ no_slot) × (InDoubt o.answer.table c.pair.vpci c.pair.vci) × (o.answer.notice ≡ 3) × (o.reply ≡ [])
  -- "with 64, a second expiry keeps the call in N12 and starts T308 again, sending nothing"
  pub waits : (label reading room i : ℕ) (c : Call) (q : State) → Fires t label reading room i c q → is_full t.doubts ≡ true
      → let o = happens t (tick label reading room) in
      (slot_at o.answer.table i ≡ live_slot c (again reading q)) × (o.answer.table.doubts ≡ t.doubts)
      × (o.answer.notice ≡ 0) × (o.reply ≡ [])

-- "A user's RESTART": an accepted message that is one
pub record Restarts (t : Table) (label reading room : ℕ) (m : List ℕ) : Type 0 where
  pub accepted : (happens t (message label reading room m)).answer.refusal ≡ 0
  pub restart : is_restart m ≡ true

-- R-4: nothing but a put-back takes a mark away
abbrev pub unmarked : Table → ℕ → ℕ → Way
unmarked t p v = cond (out_in t p v) out_of_service free

pub record Restarting (t : Table) : Type 0 where
  -- "or all, ends the doubt": no pair at all is in doubt, nor held
  pub ends_all : (label reading room : ℕ) (m : List ℕ) → Restarts t label reading room m → restart_in m 9 ≡ elem.Readable 0x82
      → let o = happens t (message label reading room m) in
      ((p v : ℕ) → way_in o.answer.table p v ≡ unmarked t p v) × (o.reply ≡ reply_octets true 0 RestartAcknowledgeAll)
  -- "that names it, .. ends the doubt": "80 (indicated channel)", and 5A is a permitted pair
  pub ends_named : (label reading room : ℕ) (m : List ℕ) → Restarts t label reading room m → restart_in m 9 ≡ elem.Readable 0x80
      → (p v : ℕ) → connection_in m 9 ≡ pair_read p v → permitted t.pool p v ≡ true
      → let o = happens t (message label reading room m) in
      (way_in o.answer.table p v ≡ unmarked t p v) × (o.reply ≡ reply_octets true 0 (RestartAcknowledge (pair p v)))

-- the table, with no RESTART of ours under way
abbrev pub without_restart : Table → Table
without_restart t = record { slots = t.slots; last = t.last; doubts = t.doubts; global = record { state = Null }; out = t.out; pool = t.pool }

-- two calls are one: their slot, side and call reference
pub record SameCall (i j : ℕ) (c d : Call) : Type 0 where
  pub slot : i ≡ j
  pub network : c.network ≡ d.network
  pub reference : c.reference ≡ d.reference

pub record History : Type 0 where
  -- from how it stood at the beginning, the events and their answers tell how each permitted pair stands; "reloaded pairs go on as they were"
  pub told : (b : Beginning) → (begun b).refusal ≡ 0 → (es : List Event) (p v : ℕ) → permitted (begun b).table.pool p v ≡ true
      → way_in (after (begun b).table es) p v ≡ way_after (begun b).table es p v (way_in (begun b).table p v)
  -- "until its call ends": by every event a live call keeps slot, side, reference and pair, or it is gone and the host is told
  pub until_gone : (t : Table) → Reached t → (e : Event) → HeldUntilGone t e
  -- "its call": a held pair stands the same way only while the same call holds it, so two live calls never exchange their pairs
  pub its_call : (t u : Table) → Reached t → Reached u → (p v : ℕ) → way_in t p v ≡ way_in u p v
      → (i j : ℕ) (c d : Call) (q r : State) → HasCall t i c q → OnPair p v c → HasCall u j d r → OnPair p v d → SameCall i j c d
  -- a pair in doubt, or out of service, is given to no call
  pub not_given : (t : Table) (p v : ℕ) → InDoubt t p v ⊎ IsOut t p v → free_pair t ≡ Some (pair p v) → ⊥
  -- every second expiry, of a reached table
  pub expiry : (t : Table) → Reached t → Expiry t
  -- every RESTART of a user, of a reached table
  pub restarting : (t : Table) → Reached t → Restarting t
  -- at a start every pair is free
  pub fresh : (ranges pairs : List ℕ) (p v : ℕ) → way_in (start_of ranges pairs).table p v ≡ free
  -- "never two ways"
  pub never_two : (t : Table) → Reached t → (p v : ℕ) → Holds t p v → InDoubt t p v → ⊥
  pub out_not_held : (t : Table) → Reached t → (p v : ℕ) → IsOut t p v → Holds t p v → ⊥
  pub out_not_doubtful : (t : Table) → Reached t → (p v : ℕ) → IsOut t p v → InDoubt t p v → ⊥
  -- "counted as if no RESTART ran"
  pub as_if_none : (t : Table) (p v : ℕ) → way_in t p v ≡ way_in (without_restart t) p v
  -- a pair that is not permitted is neither held nor in doubt nor out of service
  pub only_permitted : (t : Table) → Reached t → (p v : ℕ) → permitted t.pool p v ≡ false → way_in t p v ≡ free
