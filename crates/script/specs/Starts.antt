-- The two lists of a start.
--   numbers_from         numbers one after the other
--   list_at              how many numbers follow, and they
--   pairs_behind, lists_behind, lists_of   both lists, up to the line's end
-- Assumes nothing.
use Rattle.std.specs.Prelude.{ℕ, zero, suc, ◌+◌, cond, List, ltb, set, replicate, Option, Some, None}
use Rattle.script.specs.declared.start.List as list
use Rattle.script.specs.declared.start.Lists.{Lists}
use Rattle.script.specs.Words.{field_at, on_field, ended}

-- k numbers behind a place, after i that are stored, and the place behind them; "start's numbers over 65,535" are none
abbrev pub numbers_from : List ℕ → ℕ → ℕ → ℕ → List ℕ → Option (list.List × ℕ)
numbers_from l end i zero ns = Some (record { n = i; numbers = ns }, end)
numbers_from l end i (suc k) ns =
    on_field (field_at l end) (λ v next. cond (ltb 65535 v) None (numbers_from l next (i + 1) k (set ns i v)))

-- how many numbers follow, at most 64, and they
abbrev pub list_at : List ℕ → ℕ → Option (list.List × ℕ)
list_at l at = on_field (field_at l at) (λ n end. cond (ltb 64 n) None (numbers_from l end 0 n (replicate 64 0)))

-- a second list behind the first, and nothing behind them
abbrev pub pairs_behind : List ℕ → list.List → Option (list.List × ℕ) → Option Lists
pairs_behind l ranges None = None
pairs_behind l ranges (Some p) = ended l p.1 (record { ranges = ranges; pairs = p.0 })

abbrev pub lists_behind : List ℕ → Option (list.List × ℕ) → Option Lists
lists_behind l None = None
lists_behind l (Some r) = pairs_behind l r.0 (list_at l r.1)

-- "start R n .. P n .."; `start` has five letters
abbrev pub lists_of : List ℕ → Option Lists
lists_of l = lists_behind l (list_at l 5)
