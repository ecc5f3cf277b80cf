-- "Let one search read each held, doubtful or permanent pair at most once for each range" (document 02, R-3), of the count beside the answer.
--   once            the count is at most one for each pair, and at most one for each pair and range, for every table
-- Assumes nothing.
use Prim.Native.Nat.{ℕ, ◌+◌, ◌-◌, ◌*◌, ◌≤◌, zero-le}
use mathlib.Core.Path.{◌≡◌, ap, ◌∙◌}
use mathlib.Core.Bool.{Bool, true, false, cond, ◌||◌, or-true}
use native.Mathlib.Omega.{arith}
use native.Mathlib.Nat.{add-mul, le_refl}
use lib.Dec.{eqb}
use borrow.Author.Tests.{eqb-false}
use Rattle.channels.proofs.Cases.{by_test}
use Rattle.service.specs.Service.{is_all_taken}
use Rattle.search.specs.Search.{spanning, pairs_there, AtMostOnce}

-- none where there is no range, or all are taken at once, and n elsewhere
none_most : (k n : ℕ) (all : Bool) → (cond (eqb k 0 || all) 0 n ≤ n) × (cond (eqb k 0 || all) 0 n ≤ k * n)
none_most k n true = rw (or-true (eqb k 0)) (zero-le, zero-le)
none_most k n false =
    by_test (eqb k 0)
    (λ e. rw e (zero-le, zero-le))
    (λ e.
    let some = eqb-false k 0 e in
    let one : k ≡ 1 + (k - 1) = omega arith in
    let sum : k * n ≡ 1 * n + (k - 1) * n = ap (λ (j : ℕ). j * n) one ∙ add-mul 1 (k - 1) n in
    rw e (le_refl n, omega arith))

pub once : AtMostOnce
once ss ds out g pool = none_most (spanning pool.ranges) (pairs_there ss ds out g pool.permanents) (is_all_taken out g)
