-- Numbers that are octets, one list after the other.
--   no_octets, octets_cons, octets-append     made of others
--   octets-take, octets-drop                  a part of others
-- Assumes nothing.
use Prim.Native.Nat.{ℕ, zero, suc, ◌+◌, ◌<◌}
use mathlib.Core.List.{List, [], ◌∷◌, ◌++◌}
use native.Mathlib.Omega.{arith}
use lib.Dec.{ltb}
use borrow.Author.Tests.{ltb-true, ltb-false}
use lib.ListN.{get_or, take, drop, length-take, get_or-eq_default}
use lib.Seq.{get_or-take, get_or-drop}
use Rattle.octets.proofs.Cases.{by_test}
use Rattle.readback.specs.ReadBack.{Octets}

pub no_octets : Octets []
no_octets = record { at = λ i. omega arith }

cons_at : (o : ℕ) (os : List ℕ) → o < 256 → Octets os → (i : ℕ) → get_or (o ∷ os) i 0 < 256
cons_at o os h hs zero = h
cons_at o os h hs (suc i) = hs.at i

pub octets_cons : {o : ℕ} {os : List ℕ} → o < 256 → Octets os → Octets (o ∷ os)
octets_cons {o} {os} h hs = record { at = cons_at o os h hs }

append_at : (a b : List ℕ) → Octets a → Octets b → (i : ℕ) → get_or (a ++ b) i 0 < 256
append_at [] b ha hb i = hb.at i
append_at (o ∷ os) b ha hb zero = ha.at 0
append_at (o ∷ os) b ha hb (suc i) = append_at os b (record { at = λ k. ha.at (suc k) }) hb i

pub octets-append : {a b : List ℕ} → Octets a → Octets b → Octets (a ++ b)
octets-append {a} {b} ha hb = record { at = append_at a b ha hb }

pub octets-drop : (n : ℕ) {m : List ℕ} → Octets m → Octets (drop n m)
octets-drop n {m} h = record { at = λ i. rw (get_or-drop n m i 0) (h.at (n + i)) }

take_at_place : (n : ℕ) (m : List ℕ) → Octets m → (i : ℕ) → get_or (take n m) i 0 < 256
take_at_place n m h i =
    by_test (ltb i n)
    (λ e. rw (get_or-take n m i 0 (ltb-true i n e)) (h.at i))
    (λ e. rw (get_or-eq_default (take n m) 0 {n = i} (rw (length-take n m) (omega (arith, ltb-false i n e)))) (omega arith))

pub octets-take : (n : ℕ) {m : List ℕ} → Octets m → Octets (take n m)
octets-take n {m} h = record { at = take_at_place n m h }
