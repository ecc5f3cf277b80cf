-- What is free, and what one search reads and finds (document 02, R-2, R-3 and R-4).
--   taken_singly, taken      a pair that is taken by itself; a pair that is not to be assigned, by itself or with all
--   how_many                 how many elements of a list pass a test
--   has_pair, there          if an entry is a pair; how many pairs a channel is
--   pairs_there              how many pairs are held, in doubt, out of service by themselves, named by our RESTART, or permanent
--   spans, spanning         if a range has a VCI, and how many of a list have one
--   searched                the pair that is found, and the count of pairs read to find it
--   AtMostOnce              what is proved of the count
-- Lists are of any length. Assumes nothing.
use Rattle.std.specs.Prelude.{ℕ, ◌+◌, ◌*◌, ◌≤◌, Bool, cond, not, ◌||◌, List, [], ◌∷◌, eqb, leb, Option, Some, None}
use Rattle.std.specs.List.{list_any}
use Rattle.std.specs.Option.{is_none}
use Rattle.identifier.specs.Pair.{is_pair}
use Rattle.channels.specs.Channels.{among, lowest}
use Rattle.identifier.specs.declared.Pair.{Pair}
use Rattle.channels.specs.declared.Range.{Range}
use Rattle.channels.specs.declared.Pool.{Pool}
use Rattle.pairs.specs.Pairs.{in_pairs, size}
use Rattle.pairs.specs.declared.Pairs.{Pairs}
use Rattle.calls.specs.Calls.{is_live, holds_pair}
use Rattle.calls.specs.declared.Slot.{Slot}
use Rattle.service.specs.Service.{under_restart, is_out, is_all_taken, one_pair}
use Rattle.service.specs.declared.GlobalState.{GlobalState}
use Rattle.service.specs.declared.OutOfService.{OutOfService}
use Rattle.search.specs.declared.Finding.{Finding}

-- by itself: a pair that a live call holds, that is in doubt, out of service by a mark of its own, named alone by our RESTART, or permanent
abbrev pub taken_singly : List Slot → Pairs → OutOfService → GlobalState → List (Option Pair) → ℕ → ℕ → Bool
taken_singly ss ds out g permanents p v =
    list_any (holds_pair p v) ss || (in_pairs ds p v || (in_pairs out.pairs p v || (is_pair p v (one_pair g) || among p v permanents)))

-- "Named pairs while T316 runs, and out-of-service pairs, are not free."; "Demand 2's "free" now means neither held nor in doubt" (R-2), of
-- permitted pairs
abbrev pub taken : List Slot → Pairs → OutOfService → GlobalState → List (Option Pair) → ℕ → ℕ → Bool
taken ss ds out g permanents p v =
    list_any (holds_pair p v) ss || (in_pairs ds p v || (is_out out p v || (under_restart g p v || among p v permanents)))

abbrev pub how_many : {A : Type 0} → (A → Bool) → List A → ℕ
how_many p [] = 0
how_many p (x ∷ xs) = cond (p x) 1 0 + how_many p xs

-- "each held, doubtful or permanent pair": those that there are; R-4: those out of service and under RESTART too
abbrev pub has_pair : Option Pair → Bool
has_pair e = not (is_none e)

abbrev pub there : Option Pair → ℕ
there None = 0
there (Some pv) = 1

abbrev pub pairs_there : List Slot → Pairs → OutOfService → GlobalState → List (Option Pair) → ℕ
pairs_there ss ds out g permanents = how_many is_live ss + (size ds + (size out.pairs + (there (one_pair g) + how_many has_pair permanents)))

-- a range that is in no use has no VCI
abbrev pub spans : Range → Bool
spans r = leb r.first r.last

abbrev pub spanning : List Range → ℕ
spanning rs = how_many spans rs

-- "lowest free permitted pair by VPCI and then VCI", and "a count, beside the answer, stepped at each read": each pair that there is is read once, and
-- none where no range has a VCI, or where all pairs are out of service or named by our RESTART
abbrev pub searched : List Slot → Pairs → OutOfService → GlobalState → Pool → Finding
searched ss ds out g pool =
    record {
      found = lowest (taken ss ds out g pool.permanents) pool.ranges;
      reads = cond (eqb (spanning pool.ranges) 0 || is_all_taken out g) 0 (pairs_there ss ds out g pool.permanents);
    }

-- "let one search read each held, doubtful or permanent pair at most once for each range": for every table, the count is at most one for each pair
-- that there is, those out of service and under RESTART too, and at most one for each pair and each range that has a VCI
abbrev pub AtMostOnce : Type 0
AtMostOnce = (ss : List Slot) (ds : Pairs) (out : OutOfService) (g : GlobalState) (pool : Pool)
    → ((searched ss ds out g pool).reads ≤ pairs_there ss ds out g pool.permanents)
    × ((searched ss ds out g pool).reads ≤ spanning pool.ranges * pairs_there ss ds out g pool.permanents)
