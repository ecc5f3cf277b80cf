-- Laws of the walk over elements.
--   moves, moved           an element ends behind its place and within the octets
--   items_on, met          the elements from a place are the one there and then those behind it
--   first_within           the contents of the first element of an identifier lie within the octets
-- Assumes nothing.
use Prim.Native.Nat.{ℕ, zero, suc, ◌+◌, ◌-◌, ◌≤◌, ◌<◌}
use mathlib.Core.Path.{◌≡◌, refl, ap}
use mathlib.Core.Bool.{Bool, true, false, cond}
use mathlib.Core.List.{List, [], ◌∷◌}
use native.Mathlib.Omega.{arith}
use lib.Dec.{eqb, ltb}
use borrow.Author.Tests.{lt-ltb, ltb-false}
use lib.ListN.{length}
use Rattle.traffic.specs.Walk.{walk}
use Rattle.octets.proofs.Cases.{by_test}
use Rattle.traffic.proofs.Walk.{walk_on}
use Rattle.items.specs.declared.Item.{Item}
use Rattle.items.specs.declared.Item.TheVariants.{End, Overrun, Whole}
use Rattle.items.specs.Items.{content_length, item_at, and_then, item_step, items, Inside, first_of}

-- an element at place at, among l octets, ends where it may
abbrev pub Moves : ℕ → ℕ → Item → Type 0
Moves at l End = Unit {0}
Moves at l (Overrun id) = at < l
Moves at l (Whole id action start end) = (at < start) × (start ≤ end) × (end ≤ l)

pub moves : (m : List ℕ) (at : ℕ) → Moves at (length m) (item_at m at)
moves m at =
    by_test (ltb (length m) 4) (λ short. rw short tt)
    (λ four. by_test (ltb (length m - 4) at) (λ past. rw (four, past) tt)
    (λ here. let f = ltb-false (length m) 4 four in
    let h = ltb-false (length m - 4) at here in
    by_test (ltb (length m - (at + 4)) (content_length m at)) (λ over. rw (four, here, over) (omega arith))
    (λ whole. let w = ltb-false (length m - (at + 4)) (content_length m at) whole in
    rw (four, here, whole) (omega arith, omega arith, omega arith))))

then_same : (i : Item) (at l : ℕ) (f g : ℕ → List Item) → Moves at l i → ((next : ℕ) → at < next → f next ≡ g next) → and_then i f ≡ and_then i g
then_same End at l f g h e = refl
then_same (Overrun id) at l f g h e = refl
then_same (Whole id action start end) at l f g h e = ap (λ is. Whole id action start end ∷ is) (e end (omega arith))

past_end : (m : List ℕ) (at : ℕ) (f : ℕ → List Item) → length m ≤ at → item_step m at f ≡ []
past_end m at f h =
    by_test (ltb (length m) 4) (λ short. rw short)
    (λ four. let q = ltb-false (length m) 4 four in rw (four, lt-ltb (length m - 4) at (omega arith)))

pub items_on : (m : List ℕ) (at : ℕ) → items m at ≡ and_then (item_at m at) (items m)
items_on m =
    walk_on (item_step m) [] (length m) (λ at f g. then_same (item_at m at) at (length m) f g (moves m at)) (past_end m)

pub met : (m : List ℕ) (at : ℕ) {i : Item} → i ≡ item_at m at → items m at ≡ and_then i (items m)
met m at e = rw e (items_on m at)

pub moved : (m : List ℕ) (at : ℕ) {i : Item} → i ≡ item_at m at → Moves at (length m) i
moved m at e = rw e (moves m at)

inside_cond : (l : ℕ) (t : Bool) (i j : Item) → Inside l i → Inside l j → Inside l (cond t i j)
inside_cond l true i j a b = a
inside_cond l false i j a b = b

first_then : (id at l : ℕ) (i : Item) (rest : ℕ → List Item) → Moves at l i → ((next : ℕ) → Inside l (first_of id (rest next))) → Inside l (first_of id (and_then i rest))
first_then id at l End rest h r = tt
first_then id at l (Overrun met) rest h r = inside_cond l (eqb met id) (Overrun met) End tt tt
first_then id at l (Whole met action start end) rest h r = inside_cond l (eqb met id) (Whole met action start end) (first_of id (rest end)) (h.1, h.2) (r end)

first_in_walk : (m : List ℕ) (id n at : ℕ) → Inside (length m) (first_of id (walk (item_step m) [] n at))
first_in_walk m id zero at = tt
first_in_walk m id (suc n) at = first_then id at (length m) (item_at m at) (walk (item_step m) [] n) (moves m at) (first_in_walk m id n)

pub first_within : (m : List ℕ) (from id : ℕ) {i : Item} → i ≡ first_of id (items m from) → Inside (length m) i
first_within m from id e = rw e (first_in_walk m id (length m) from)
