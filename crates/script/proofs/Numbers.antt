-- A law of the reading of a list's numbers, one after the other: a number that is taken is stored, and the others are left.
-- Assumes nothing.
use Rattle.std.proofs.Common.{◌≡◌, ℕ, suc, ◌+◌, ◌-◌, ◌≤◌, ◌<◌, List, set, Some, arith}
use borrow.Author.Tests.{le-ltb}
use Rattle.script.specs.Words.{field_at}
use Rattle.script.specs.Starts.{numbers_from}

pub numbers_more : (l : List ℕ) (end i n : ℕ) (ns : List ℕ) (v next : ℕ) → i < n → field_at l end ≡ Some (v, next) → v ≤ 65535
    → numbers_from l end i (n - i) ns ≡ numbers_from l next (i + 1) (n - (i + 1)) (set ns i v)
numbers_more l end i n ns v next h e o =
    let s : n - i ≡ suc (n - (i + 1)) = omega arith in
    rw (s, e, le-ltb 65535 v o)
