-- The rules that the table of a saved form keeps (document 02, R-1, R-2 and R-4): what the reader refuses of a table.
--   cause_kept, state_kept, is_at, call_kept, hold_kept, slot_kept     what document 01 puts together in a slot
--   is_lost, pairs_kept         pairs in doubt, or out of service
--   doubts_kept                the pairs in doubt
--   all_kept, marks_kept        the pairs out of service
--   named_kept, wait_kept, request_kept     our RESTART
--   table_kept                 all of them, over the number of slots
-- Assumes nothing.
use Rattle.std.specs.Prelude.{ℕ, ◌+◌, ◌/◌, ◌%◌, Bool, true, false, cond, not, ◌&&◌, ◌||◌, eqb, leb, Option, Some, None}
use Rattle.traffic.specs.Traffic.{member}
use Rattle.std.specs.List.{list_any}
use Rattle.channels.specs.Channels.{permitted}
use Rattle.channels.specs.declared.Named.{Named}
use Rattle.channels.specs.declared.Named.TheVariants.{All, One}
use Rattle.channels.specs.declared.Pool.{Pool}
use Rattle.pairs.specs.declared.Pairs.{Pairs}
use Rattle.pairs.specs.Pairs.{listed, in_pairs, ascending}
use Rattle.provisioning.specs.Provisioning.{all_below}
use Rattle.calls.specs.declared.Clearing.{Clearing}
use Rattle.calls.specs.declared.State.{State}
use Rattle.calls.specs.declared.State.TheVariants.{N3, N6, N9, N10, N12}
use Rattle.calls.specs.declared.Call.{Call}
use Rattle.calls.specs.declared.Hold.{Hold}
use Rattle.calls.specs.declared.Hold.TheVariants.{Empty, Live}
use Rattle.calls.specs.Calls.{is_live, is_call, holds_pair}
use Rattle.calls.specs.Timers.{t303, t308, t310}
use Rattle.first.specs.First.{place}
use Rattle.slots.specs.Slots.{hold_at}
use Rattle.service.specs.declared.GlobalState.{GlobalState}
use Rattle.service.specs.declared.GlobalState.TheVariants.{Null, RestartRequest}
use Rattle.service.specs.Service.{t316}
use Rattle.table.specs.declared.Table.{Table}
use Rattle.refusals.specs.Refusals.{host_causes}

-- "a state, timer, side or cause that document 01 never puts together, and a deadline further past the last reading than its timer
-- is long": N3 is the user's call, N6 and N9 are the network's; N12 has a cause of the host, or the network's call has 102 with "310"
abbrev pub cause_kept : Bool → Clearing → Bool
cause_kept network k = cond k.expired (network && eqb k.cause 102) (member k.cause host_causes)

abbrev pub state_kept : ℕ → Bool → State → Bool
state_kept last network N3 = not network
state_kept last network (N6 d) = network && leb d (last + t303)
state_kept last network (N9 d) = network && leb d (last + t310)
state_kept last network N10 = true
state_kept last network (N12 k d) = leb d (last + t308) && cause_kept network k

abbrev pub is_at : ℕ → Option ℕ → Bool
is_at slot None = false
is_at slot (Some i) = eqb i slot

-- "reference 0, two calls on one pair or flagged reference, a pair not permitted": no slot before this one has its pair or reference
abbrev pub call_kept : Table → ℕ → Call → State → Bool
call_kept t slot c q =
    not (eqb c.reference 0)
    && (is_at slot (place (holds_pair c.pair.vpci c.pair.vci) t.slots.all)
    && (is_at slot (place (is_call c.network c.reference) t.slots.all)
    && (permitted t.pool c.pair.vpci c.pair.vci && state_kept t.last c.network q)))

abbrev pub hold_kept : Table → ℕ → Hold → Bool
hold_kept t slot Empty = true
hold_kept t slot (Live c q) = call_kept t slot c q

abbrev pub slot_kept : Table → ℕ → Bool
slot_kept t slot = hold_kept t slot (hold_at t.slots.all slot)

-- document 02, R-2: "refused if one is held or not permitted"; R-4: "one where a pair stands in two ways is refused". Of the number of
-- a pair in doubt, or of a single one out of service: the others are those of the other list
abbrev pub is_lost : Table → Pairs → ℕ → Bool
is_lost t others n =
    not (permitted t.pool (n / 65536) (n % 65536))
    || (list_any (holds_pair (n / 65536) (n % 65536)) t.slots.all || in_pairs others (n / 65536) (n % 65536))

-- "pairs ascending"
abbrev pub pairs_kept : Table → Pairs → Pairs → Bool
pairs_kept t others ps = ascending (listed ps) && not (list_any (is_lost t others) (listed ps))

abbrev pub doubts_kept : Table → Bool
doubts_kept t = pairs_kept t t.out.pairs t.doubts

-- where all pairs are out of service, none is in doubt and none is held
abbrev pub all_kept : Table → Bool
all_kept t = cond t.out.all (eqb t.doubts.count 0 && not (list_any is_live t.slots.all)) true

abbrev pub marks_kept : Table → Bool
marks_kept t = pairs_kept t t.doubts t.out.pairs && all_kept t

-- "refusal 13 .. is for a second command or a pair not permitted": no RESTART of such a pair is under way; and no "deadline further past
-- the last reading than its timer is long"
abbrev pub named_kept : Pool → Named → Bool
named_kept pool All = true
named_kept pool (One pv) = permitted pool pv.vpci pv.vci

abbrev pub wait_kept : ℕ → Pool → GlobalState → Bool
wait_kept last pool Null = true
wait_kept last pool (RestartRequest n second d) = leb d (last + t316) && named_kept pool n

abbrev pub request_kept : Table → Bool
request_kept t = wait_kept t.last t.pool t.global.state

abbrev pub table_kept : ℕ → Table → Bool
table_kept count t = doubts_kept t && (marks_kept t && (request_kept t && all_below (slot_kept t) count))
