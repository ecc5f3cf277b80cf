-- The refusal numbers (document 01, "Refusal numbers"): "The lowest number that applies is given, and none otherwise."
--   or_else                                  a refusal, or else the next one
--   common_refusal                           1 to 4, of every event but start
--   size_refusal, message_refusal             5
--   IsCall                                  what a slot holds is a call
--   unless_n3, unconnectable, connect_refusal    6 and 7 of connect
--   when_n12, unclearable, host_causes, cause_refusal, clear_refusal      6 to 8 of clear
--   body_refusal, slot_refusal, pair_refusal, offer_refusal             10 to 12
--   may_restart, target_refusal, restart_refusal                       13
-- 0 says that nothing is refused. Assumes nothing.
use Rattle.std.specs.Prelude.{ℕ, Bool, true, false, cond, List, [], ◌∷◌, eqb, ltb, length, Option, Some, None}
use Rattle.traffic.specs.Traffic.{member}
use Rattle.identifier.specs.declared.Pair.{Pair}
use Rattle.channels.specs.declared.Pool.{Pool}
use Rattle.channels.specs.Channels.{permitted}
use Rattle.calls.specs.declared.State.{State}
use Rattle.calls.specs.declared.State.TheVariants.{N3, N6, N9, N10, N12}
use Rattle.calls.specs.declared.Hold.{Hold}
use Rattle.calls.specs.declared.Hold.TheVariants.{Empty, Live}
use Rattle.calls.specs.Calls.{is_empty}
use Rattle.calls.specs.Timers.{largest_reading}
use Rattle.first.specs.First.{place}
use Rattle.replies.specs.Reply.{reply_room, body_room}
use Rattle.setup.specs.Offer.{offer_fits}
use Rattle.service.specs.declared.GlobalState.{GlobalState}
use Rattle.service.specs.Service.{is_waiting}
use Rattle.restarts.specs.declared.Target.{Target}
use Rattle.restarts.specs.declared.Target.TheVariants as target
use Rattle.table.specs.declared.Table.{Table}
use Rattle.table.specs.Effects.{free_pair}

abbrev pub or_else : ℕ → ℕ → ℕ
or_else n next = cond (eqb n 0) next n

-- "1 reply room under 1,024 octets; 2 clock label not 1; 3 reading above ..; 4 reading below the last accepted"
abbrev pub common_refusal : ℕ → ℕ → ℕ → ℕ → ℕ
common_refusal last label reading room =
    cond (ltb room reply_room) 1 (cond (eqb label 1) (cond (ltb largest_reading reading) 3 (cond (ltb reading last) 4 0)) 2)

-- "5 message empty or over 1,024 octets"
abbrev pub size_refusal : List ℕ → ℕ
size_refusal m = cond (eqb (length m) 0) 5 (cond (ltb 1024 (length m)) 5 0)

abbrev pub message_refusal : ℕ → ℕ → ℕ → ℕ → List ℕ → ℕ
message_refusal last label reading room m = or_else (common_refusal last label reading room) (size_refusal m)

-- a call, and no empty slot
abbrev pub IsCall : Hold → Type 0
IsCall Empty = ⊥
IsCall (Live c q) = Unit {0}

-- "6 slot over 31 or empty (connect, clear); 7 wrong state (connect: not N3; clear: N12)"
abbrev pub unless_n3 : State → ℕ
unless_n3 N3 = 0
unless_n3 (N6 d) = 7
unless_n3 (N9 d) = 7
unless_n3 N10 = 7
unless_n3 (N12 k d) = 7

abbrev pub unconnectable : Hold → ℕ
unconnectable Empty = 6
unconnectable (Live c q) = unless_n3 q

abbrev pub connect_refusal : ℕ → ℕ → ℕ → ℕ → Hold → ℕ
connect_refusal last label reading room hold = or_else (common_refusal last label reading room) (unconnectable hold)

abbrev pub when_n12 : State → ℕ
when_n12 N3 = 0
when_n12 (N6 d) = 0
when_n12 (N9 d) = 0
when_n12 N10 = 0
when_n12 (N12 k d) = 7

abbrev pub unclearable : Hold → ℕ
unclearable Empty = 6
unclearable (Live c q) = when_n12 q

-- "Cause numbers the host may use: 1, 3, 16, 17, 18, 21, 22, 27, 28, 31, 41, 47, 49, 57, 58, 63, 88."
abbrev pub host_causes : List ℕ
host_causes = 1 ∷ 3 ∷ 16 ∷ 17 ∷ 18 ∷ 21 ∷ 22 ∷ 27 ∷ 28 ∷ 31 ∷ 41 ∷ 47 ∷ 49 ∷ 57 ∷ 58 ∷ 63 ∷ 88 ∷ []

-- "8 cause not in the host's list"
abbrev pub cause_refusal : ℕ → ℕ
cause_refusal cause = cond (member cause host_causes) 0 8

abbrev pub clear_refusal : ℕ → ℕ → ℕ → ℕ → Hold → ℕ → ℕ
clear_refusal last label reading room hold cause =
    or_else (common_refusal last label reading room) (or_else (unclearable hold) (cause_refusal cause))

-- "10 offer body over 512 octets or not as below; 11 offer, no empty slot; 12 offer, no permitted pair free"
abbrev pub body_refusal : List ℕ → ℕ
body_refusal body = cond (ltb body_room (length body)) 10 (cond (offer_fits body) 0 10)

abbrev pub slot_refusal : Option ℕ → ℕ
slot_refusal None = 11
slot_refusal (Some i) = 0

abbrev pub pair_refusal : Option Pair → ℕ
pair_refusal None = 12
pair_refusal (Some pv) = 0

abbrev pub offer_refusal : Table → ℕ → ℕ → ℕ → List ℕ → ℕ
offer_refusal t label reading room body =
    or_else (common_refusal t.last label reading room)
    (or_else (body_refusal body) (or_else (slot_refusal (place is_empty t.slots.all)) (pair_refusal (free_pair t))))

-- document 02, R-4: "refusal 13, after 12, is for a second command or a pair not permitted"; a number of more than 16 bits is no VPCI and no VCI
abbrev pub may_restart : Pool → Target → Bool
may_restart pool target.All = true
may_restart pool (target.One p v) = cond (ltb 65535 p) false (cond (ltb 65535 v) false (permitted pool p v))

abbrev pub target_refusal : GlobalState → Pool → Target → ℕ
target_refusal g pool target = cond (is_waiting g) 13 (cond (may_restart pool target) 0 13)

abbrev pub restart_refusal : ℕ → ℕ → ℕ → ℕ → GlobalState → Pool → Target → ℕ
restart_refusal last label reading room g pool target = or_else (common_refusal last label reading room) (target_refusal g pool target)
