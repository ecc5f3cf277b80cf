-- Laws of the walk over subfields.
--   subfields_on     the subfields from a place are the one there and then those behind it
--   met              the same, where the subfield there is known
--   moves, moved     a whole subfield ends behind its place and within the contents
--   repeated         what holds a subfield twice does not fit
-- Assumes nothing.
use Prim.Native.Nat.{ℕ, ◌-◌, ◌≤◌, ◌<◌}
use mathlib.Core.Path.{◌≡◌, refl, sym, ap}
use mathlib.Core.Bool.{true, false, and-false}
use mathlib.Core.List.{List, [], ◌∷◌}
use native.Mathlib.Omega.{arith}
use lib.Dec.{eqb, leb, ltb}
use borrow.Author.Tests.{le-leb, leb-false, eqb-false, ltb-false}
use lib.ListN.{length, get_or}
use Rattle.traffic.specs.declared.Subfield.{Subfield}
use Rattle.traffic.specs.declared.Subfield.TheVariants.{End, Broken, Whole}
use Rattle.traffic.specs.Traffic.{span, subfield_at, and_then, subfield_step, subfields, identifiers, member, uncut, fitting}
use Rattle.octets.proofs.Cases.{by_test}
use Rattle.traffic.proofs.Walk.{walk_on}

-- a whole subfield at place at, among l octets, ends where it may
abbrev pub Moves : ℕ → ℕ → Subfield → Type 0
Moves at l End = Unit {0}
Moves at l Broken = Unit {0}
Moves at l (Whole id next) = (at < next) × (next ≤ l)

pub moves : (c : List ℕ) (at : ℕ) → Moves at (length c) (subfield_at c at)
moves c at =
    by_test (leb (length c) at) (λ past. rw past tt)
    (λ inside. by_test (eqb (span (get_or c at 0)) 0) (λ unlisted. rw (inside, unlisted) tt)
    (λ known. by_test (ltb (length c - at) (span (get_or c at 0))) (λ cut. rw (inside, known, cut) tt)
    (λ whole. rw (inside, known, whole)
    (let k = eqb-false (span (get_or c at 0)) 0 known in
    let i = leb-false (length c) at inside in
    let w = ltb-false (length c - at) (span (get_or c at 0)) whole in (omega arith, omega arith)))))

then_same : (s : Subfield) (at l : ℕ) (f g : ℕ → List Subfield) → Moves at l s → ((next : ℕ) → at < next → f next ≡ g next) → and_then s f ≡ and_then s g
then_same End at l f g m e = refl
then_same Broken at l f g m e = refl
then_same (Whole id next) at l f g m e = ap (λ ss. Whole id next ∷ ss) (e next m.0)

pub subfields_on : (c : List ℕ) (at : ℕ) → subfields c at ≡ and_then (subfield_at c at) (subfields c)
subfields_on c =
    walk_on (subfield_step c) [] (length c)
    (λ at f g. then_same (subfield_at c at) at (length c) f g (moves c at))
    (λ at f h. rw (le-leb _ _ h))

pub met : (c : List ℕ) (at : ℕ) {s : Subfield} → s ≡ subfield_at c at → subfields c at ≡ and_then s (subfields c)
met c at e = rw e (subfields_on c at)

pub moved : (c : List ℕ) (at : ℕ) {id next : ℕ} → Whole id next ≡ subfield_at c at → (at < next) × (next ≤ length c)
moved c at e = rw (sym e) at (moves c at)

pub repeated : (c : List ℕ) (at : ℕ) {id next : ℕ} → Whole id next ≡ subfield_at c at → member id (identifiers (subfields c next)) ≡ true → fitting (subfields c at) ≡ false
repeated c at {id} {next} e again = rw (met c at e, again) (and-false (uncut (subfields c next)))
