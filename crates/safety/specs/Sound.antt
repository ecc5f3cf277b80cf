-- Demand 2: "No two live calls hold one VPCI/VCI pair, every assigned VCI lies in 32 to 65535", and what else is so of every table
-- that is reached.
--   StateSound      a state with the side that began the call: its deadline, its cause
--   CallSound       a live call: its pair is permitted, its reference is not the global one
--   GlobalSound     the state of the global reference: the pair that our RESTART names, T316's deadline
--   Sound           a table
--   InOctets, AllInOctets, CarriedOctets     events, and a beginning, that carry octets, for the width of what is sent again
-- Assumes nothing.
use Rattle.std.specs.Prelude.{ℕ, ◌+◌, ◌≤◌, ◌<◌, ◌≡◌, ◌≢◌, Bool, true, false, List, [], ◌∷◌, get_or}
use Rattle.traffic.specs.Traffic.{member}
use Rattle.channels.specs.declared.Named.TheVariants.{All, One}
use Rattle.channels.specs.declared.Pool.{Pool}
use Rattle.identifier.specs.Pair.{pair}
use Rattle.channels.specs.Channels.{permitted}
use Rattle.pairs.specs.Pairs.{in_pairs, Tidy}
use Rattle.calls.specs.declared.Clearing.{Clearing}
use Rattle.calls.specs.declared.State.{State}
use Rattle.calls.specs.declared.State.TheVariants.{N3, N6, N9, N10, N12}
use Rattle.calls.specs.declared.Call.{Call}
use Rattle.calls.specs.Timers.{largest_reading, t303, t308, t310}
use Rattle.service.specs.declared.GlobalState.{GlobalState}
use Rattle.service.specs.declared.GlobalState.TheVariants.{Null, RestartRequest}
use Rattle.service.specs.Service.{t316}
use Rattle.table.specs.declared.Table.{Table}
use Rattle.refusals.specs.Refusals.{host_causes}
use Rattle.control.specs.Happens.{Event, message, tick, connect, clear, offer, restart, put_marks_back}
use Rattle.reached.specs.Reached.{Reached, BegunInOctets}
use Rattle.views.specs.Tables.{HasSlots, HasCall, Holds, InDoubt, IsOut}

-- N3 is the user's call, N6 and N9 are the network's. A deadline is not further past the last reading than its timer is long:
-- "T303 4,000 ms", "T310 10,000", "T308 30,000". N12 has a cause of the host, or the network's call has "102, diagnostic "310""
pub data StateSound (last : ℕ) : Bool → State → Type 0 where
  in_N3 : StateSound last false N3
  in_N6 : (deadline : ℕ) → deadline ≤ last + t303 → StateSound last true (N6 deadline)
  in_N9 : (deadline : ℕ) → deadline ≤ last + t310 → StateSound last true (N9 deadline)
  in_N10 : (network : Bool) → StateSound last network N10
  by_host : (network : Bool) (k : Clearing) (deadline : ℕ) → deadline ≤ last + t308 → member k.cause host_causes ≡ true → k.expired ≡ false
      → StateSound last network (N12 k deadline)
  by_timer : (k : Clearing) (deadline : ℕ) → deadline ≤ last + t308 → k.cause ≡ 102 → k.expired ≡ true → StateSound last true (N12 k deadline)

pub record CallSound (t : Table) (c : Call) (q : State) : Type 0 where
  -- "A pair is permitted if it is in a range and not permanent."
  pub pair_permitted : permitted t.pool c.pair.vpci c.pair.vci ≡ true
  -- "VPCI 0 to 255; VCI 32 to 65535"
  pub vpci_high : c.pair.vpci ≤ 255
  pub vci_low : 32 ≤ c.pair.vci
  pub vci_high : c.pair.vci ≤ 65535
  -- "Value 0 is global."
  pub not_global : c.reference ≢ 0
  pub state_sound : StateSound t.last c.network q

-- document 02, R-4: a RESTART of ours names "one pair or all", no "pair not permitted"; "T316 of 120,000 ms" ends no later than that
pub data GlobalSound (last : ℕ) (pool : Pool) : GlobalState → Type 0 where
  none_sent : GlobalSound last pool Null
  one_sent : (p v : ℕ) (second : Bool) (deadline : ℕ) → permitted pool p v ≡ true → deadline ≤ last + t316
      → GlobalSound last pool (RestartRequest (One (pair p v)) second deadline)
  all_sent : (second : Bool) (deadline : ℕ) → deadline ≤ last + t316 → GlobalSound last pool (RestartRequest All second deadline)

pub record Sound (t : Table) : Type 0 where
  pub has_slots : HasSlots t
  pub last_high : t.last ≤ largest_reading
  -- each permitted pair keeps the limits
  pub numbers : (p v : ℕ) → permitted t.pool p v ≡ true → (p ≤ 255) × (32 ≤ v) × (v ≤ 65535)
  pub calls_sound : (i : ℕ) (c : Call) (q : State) → HasCall t i c q → CallSound t c q
  -- "No two live calls hold one VPCI/VCI pair"
  pub pair_once : (i j : ℕ) (c d : Call) (q r : State) → HasCall t i c q → HasCall t j d r → c.pair.vpci ≡ d.pair.vpci → c.pair.vci ≡ d.pair.vci → i ≡ j
  -- document 02, R-2: "At most 64 pairs are in doubt", ascending; each is permitted, and no live call holds it
  pub doubts_tidy : Tidy t.doubts
  pub doubt_permitted : (p v : ℕ) → InDoubt t p v → permitted t.pool p v ≡ true
  pub doubt_not_held : (p v : ℕ) → InDoubt t p v → Holds t p v → ⊥
  -- document 02, R-4: "single pairs number at most 64", ascending; each is permitted
  pub marks_tidy : Tidy t.out.pairs
  pub mark_permitted : (p v : ℕ) → in_pairs t.out.pairs p v ≡ true → permitted t.pool p v ≡ true
  -- a pair out of service, by a mark of its own or by "all", is held by no live call and is not in doubt: by "all" there is no call and no doubt
  pub out_not_held : (p v : ℕ) → IsOut t p v → Holds t p v → ⊥
  pub out_not_doubtful : (p v : ℕ) → IsOut t p v → InDoubt t p v → ⊥
  -- our RESTART
  pub global_sound : GlobalSound t.last t.pool t.global.state
  -- no two live calls have one flagged reference
  pub reference_once : (i j : ℕ) (c d : Call) (q r : State) → HasCall t i c q → HasCall t j d r → c.network ≡ d.network → c.reference ≡ d.reference → i ≡ j

-- the numbers of a message, and of an offer's body, are octets
abbrev pub InOctets : Event → Type 0
InOctets (message label reading room octets) = (k : ℕ) → get_or octets k 0 < 256
InOctets (tick label reading room) = Unit {0}
InOctets (connect label reading room slot) = Unit {0}
InOctets (clear label reading room slot cause) = Unit {0}
InOctets (offer label reading room body) = (k : ℕ) → get_or body k 0 < 256
InOctets (restart label reading room target) = Unit {0}
InOctets (put_marks_back label reading room) = Unit {0}

abbrev pub AllInOctets : List Event → Type 0
AllInOctets [] = Unit {0}
AllInOctets (e ∷ es) = InOctets e × AllInOctets es

-- a reached table: the form that was reloaded too
abbrev pub CarriedOctets : (t : Table) → Reached t → Type 0
CarriedOctets t r = BegunInOctets r.beginning × AllInOctets r.events

-- "23-bit reference": each live call's
abbrev pub ReferencesFit : Table → Type 0
ReferencesFit t = (i : ℕ) (c : Call) (q : State) → HasCall t i c q → c.reference < 8388608
