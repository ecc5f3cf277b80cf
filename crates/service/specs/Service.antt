-- Our own RESTART, and the pairs out of service (document 02, R-4).
--   t316                          how long its timer runs
--   global_number, global_due       the number of the global reference's state, and T316's deadline
--   is_waiting, under_restart       if a RESTART of ours is under way; if it names a pair
--   none_out, is_out                no pair is out of service; if one is
--   has_room, with_out              if the pairs that are named can be marked; they are marked too
--   is_all_taken, one_pair           if no pair at all is free; the one pair that our RESTART names
-- Assumes nothing.
use Rattle.std.specs.Prelude.{ℕ, Bool, true, false, cond, not, ◌||◌, Option, Some, None}
use Rattle.identifier.specs.declared.Pair.{Pair}
use Rattle.channels.specs.declared.Named.{Named}
use Rattle.channels.specs.declared.Named.TheVariants.{All, One}
use Rattle.pairs.specs.Pairs.{no_pairs, is_full, in_pairs, with_pair, names}
use Rattle.service.specs.declared.GlobalState.{GlobalState}
use Rattle.service.specs.declared.GlobalState.TheVariants.{Null, RestartRequest}
use Rattle.service.specs.declared.OutOfService.{OutOfService}

-- "start T316 of 120,000 ms"
abbrev pub t316 : ℕ
t316 = 120000

-- "Global STATUS shows state 0."; "Global STATUS now shows Restart Request, 61, while waiting."
abbrev pub global_number : GlobalState → ℕ
global_number Null = 0
global_number (RestartRequest n second d) = 61

abbrev pub global_due : GlobalState → Option ℕ
global_due Null = None
global_due (RestartRequest n second d) = Some d

abbrev pub is_waiting : GlobalState → Bool
is_waiting Null = false
is_waiting (RestartRequest n second d) = true

-- "Named pairs while T316 runs"
abbrev pub under_restart : GlobalState → ℕ → ℕ → Bool
under_restart Null p v = false
under_restart (RestartRequest n second d) p v = names n p v

abbrev pub none_out : OutOfService
none_out = record { all = false; pairs = no_pairs }

-- ""All" is one mark; single pairs number at most 64"
abbrev pub is_out : OutOfService → ℕ → ℕ → Bool
is_out o p v = o.all || in_pairs o.pairs p v

-- "with 64 a single pair's second expiry resends again"
abbrev pub has_room : OutOfService → Named → Bool
has_room o All = true
has_room o (One pv) = not (is_full o.pairs)

-- "marks the named pairs out of service": a pair that is marked already stays so
abbrev pub with_out : OutOfService → Named → OutOfService
with_out o All = record { all = true; pairs = o.pairs }
with_out o (One pv) = cond (in_pairs o.pairs pv.vpci pv.vci) o (record { all = o.all; pairs = with_pair o.pairs pv.vpci pv.vci })

abbrev pub names_all : GlobalState → Bool
names_all Null = false
names_all (RestartRequest All second d) = true
names_all (RestartRequest (One pv) second d) = false

-- all pairs are out of service, or a RESTART of all is under way
abbrev pub is_all_taken : OutOfService → GlobalState → Bool
is_all_taken o g = o.all || names_all g

abbrev pub one_pair : GlobalState → Option Pair
one_pair Null = None
one_pair (RestartRequest All second d) = None
one_pair (RestartRequest (One pv) second d) = Some pv
