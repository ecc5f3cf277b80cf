-- Which octets are there.
--   there            an octet with its top bit set is one of the octets
--   reaches          readable contents reach to their address
--   address_inside   the address of readable contents begins within them
-- Assumes nothing.
use Prim.Native.Nat.{ℕ, ◌+◌, ◌-◌, ◌≤◌, ◌<◌}
use mathlib.Core.Path.{◌≡◌, sym}
use mathlib.Core.Bool.{true, and-eq-true_iff, true≢false}
use mathlib.Core.List.{List}
use native.Mathlib.Omega.{arith}
use lib.Dec.{ltb}
use lib.ListN.{length, get_or, drop, length-take, get_or-eq_default}
use borrow.Author.Tests.{ltb-true, ltb-false}
use Rattle.octets.specs.Octets.{top_bit, part}
use Rattle.octets.proofs.Cases.{by_test}
use Rattle.shown.specs.Calling.{calling_fits, address_at}

pub there : (c : List ℕ) (i : ℕ) → top_bit (get_or c i 0) ≡ true → i < length c
there c i h =
    by_test (ltb i (length c)) (λ e. ltb-true i (length c) e)
    (λ e. absurd (true≢false (sym (rw (get_or-eq_default c 0 {n = i} (ltb-false i (length c) e)) at h))))

pub reaches : (c : List ℕ) → calling_fits c ≡ true → address_at c ≤ length c
reaches c h =
    by_test (top_bit (get_or c 0 0)) (λ e. rw e (there c 0 e))
    (λ e. rw e (there c 1 ((and-eq-true_iff _ _).0 (rw e at h)).0))

-- the address of readable contents begins within them
pub address_inside : (m : List ℕ) (start end : ℕ) → start ≤ end → calling_fits (part m start end) ≡ true → start + address_at (part m start end) ≤ end
address_inside m start end h fits =
    let r = reaches (part m start end) fits in
    let l = length-take (end - start) (drop start m) in
    omega (arith, r, l)
