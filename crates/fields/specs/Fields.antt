-- The fields of a saved form (docs/FORMATS.md, "Saved tables"): document 02, R-1, "fields with one-byte tag and two-byte length".
--   two, four, eight              a number in two octets, in four and in eight, high octet first
--   field                         a tag, the length of the contents, the contents
--   range_octets                   a permitted range
--   pair_octets, channel_octets     a pair; a permanent pair, or none
--   reference_octets, state_octets, call_octets     a live call
--   hold_field                     the field of a slot, none for an empty one
--   named_octets, request_octets    our RESTART
-- Assumes nothing.
use Rattle.std.specs.Prelude.{ℕ, ◌+◌, ◌/◌, ◌%◌, Bool, cond, List, [], ◌∷◌, ◌++◌, leb, length, Option, Some, None}
use Rattle.octets.specs.Octets.{high, low}
use Rattle.identifier.specs.declared.Pair.{Pair}
use Rattle.channels.specs.declared.Named.{Named}
use Rattle.channels.specs.declared.Named.TheVariants as named
use Rattle.channels.specs.declared.Range.{Range}
use Rattle.calls.specs.declared.State.{State}
use Rattle.calls.specs.declared.State.TheVariants.{N3, N6, N9, N10, N12}
use Rattle.calls.specs.declared.Call.{Call}
use Rattle.calls.specs.declared.Hold.{Hold}
use Rattle.calls.specs.declared.Hold.TheVariants.{Empty, Live}
use Rattle.service.specs.declared.GlobalState.{GlobalState}
use Rattle.service.specs.declared.GlobalState.TheVariants.{Null, RestartRequest}

abbrev pub two : ℕ → List ℕ
two n = high n ∷ low n ∷ []

-- the number of a pair in doubt (document 02, R-2), or out of service (R-4), in four octets: these are its VPCI and its VCI
abbrev pub four : ℕ → List ℕ
four n = two (n / 65536) ++ two n

abbrev pub eight : ℕ → List ℕ
eight n = two (n / 281474976710656) ++ (two (n / 4294967296) ++ (two (n / 65536) ++ two n))

abbrev pub field : ℕ → List ℕ → List ℕ
field tag contents = tag ∷ (two (length contents) ++ contents)

-- "one field for the ranges": VPCI, first VCI, last VCI; a range without a VCI is none
abbrev pub range_octets : Range → List ℕ
range_octets r = cond (leb r.first r.last) (two r.vpci ++ (two r.first ++ two r.last)) []

-- VPCI, VCI
abbrev pub pair_octets : Pair → List ℕ
pair_octets c = two c.vpci ++ two c.vci

-- "one for permanent pairs": VPCI, VCI
abbrev pub channel_octets : Option Pair → List ℕ
channel_octets None = []
channel_octets (Some c) = pair_octets c

-- a flagged reference: the top bit is set for a network-originated call, the other 23 bits are the value
abbrev pub reference_octets : Bool → ℕ → List ℕ
reference_octets network r = (cond network 0x80 0 + r / 65536 % 128) ∷ high r ∷ low r ∷ []

-- the state, then its timer's deadline; in N12 also if the first or the second T308 runs, and the cause, which says the diagnostic
abbrev pub state_octets : State → List ℕ
state_octets N3 = 3 ∷ []
state_octets (N6 d) = 6 ∷ eight d
state_octets (N9 d) = 9 ∷ eight d
state_octets N10 = 10 ∷ []
state_octets (N12 k d) = 12 ∷ (eight d ++ (cond k.second 2 1 ∷ k.cause ∷ []))

abbrev pub call_octets : ℕ → Call → State → List ℕ
call_octets slot c q = slot ∷ (reference_octets c.network c.reference ++ (pair_octets c.pair ++ state_octets q))

-- a live call's field
abbrev pub hold_field : ℕ → Hold → List ℕ
hold_field slot Empty = []
hold_field slot (Live c q) = field 4 (call_octets slot c q)

-- our RESTART (document 02, R-4): if the first or the second T316 runs, its deadline, and for one pair VPCI and VCI
abbrev pub named_octets : Named → List ℕ
named_octets named.All = []
named_octets (named.One c) = pair_octets c

abbrev pub request_octets : GlobalState → List ℕ
request_octets Null = []
request_octets (RestartRequest n second d) = cond second 2 1 ∷ (eight d ++ named_octets n)
