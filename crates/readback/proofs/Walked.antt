-- The walk over elements that were written one after the other, behind any octets.
--   whole_at        an element that does not overrun
--   Walked, walked  the octets are a whole number of elements, and these are the ones that were written
-- Assumes nothing.
use Prim.Native.Nat.{ℕ, ◌+◌, ◌-◌, ◌≤◌, ◌<◌}
use mathlib.Core.Path.{◌≡◌, refl, sym, ◌∙◌}
use mathlib.Core.Bool.{true}
use mathlib.Core.List.{List, [], ◌∷◌, ◌++◌, append_assoc}
use native.Mathlib.Omega.{arith}
use lib.Dec.{ltb}
use borrow.Author.Tests.{lt-ltb, le-ltb, eq-eqb, ltb-false}
use lib.ListN.{length, get_or, length-append}
use lib.Seq.{get_or-append-add, drop-append-add, take_at}
use Rattle.octets.specs.Octets.{part}
use Rattle.octets.proofs.Cases.{by_test}
use Rattle.octets.proofs.Numbers.{number_back}
use Rattle.items.specs.declared.Item.TheVariants.{Whole}
use Rattle.items.specs.Items.{content_length, item_at, items, whole_from}
use Rattle.items.proofs.Items.{items_on}
use Rattle.replies.specs.Message.{Element, element_octets, body}
use Rattle.readback.specs.ReadBack.{elements_in, EachFits, none, more}

pub whole_at : (m : List ℕ) (at n : ℕ) → content_length m at ≡ n → at + 4 + n ≤ length m
    → item_at m at ≡ Whole (get_or m at 0) (get_or m (at + 1) 0) (at + 4) (at + 4 + n)
whole_at m at n e h =
    rw (le-ltb (length m) 4 (omega arith), le-ltb (length m - 4) at (omega arith), e, le-ltb (length m - (at + 4)) n (omega arith))

-- at the end of the octets there is no element
ended : (m : List ℕ) (at : ℕ) → length m ≡ at → items m at ≡ []
ended m at e =
    items_on m at
    ∙ by_test (ltb (length m) 4) (λ short. rw short)
    (λ four. rw (four, lt-ltb (length m - 4) at (omega (arith, ltb-false (length m) 4 four))))

pub record Walked (m : List ℕ) (at : ℕ) (es : List Element) : Type 0 where
  pub whole : whole_from m at ≡ true
  pub same : elements_in m at ≡ es

-- m is octets, an element, and then octets
module _ (m before rest : List ℕ) (e : Element) (same : m ≡ before ++ (element_octets e ++ rest)) (small : length e.contents < 65536) where
  octet : (i : ℕ) → get_or m (length before + i) 0 ≡ get_or (element_octets e ++ rest) i 0
  octet i = rw same (get_or-append-add before (element_octets e ++ rest) i 0)

  first : get_or m (length before) 0 ≡ e.ident
  first = let z : length before + 0 ≡ length before = omega arith in rw z at (octet 0)

  long : length m ≡ length before + 4 + length e.contents + length rest
  long = rw same (omega (arith, length-append before (element_octets e ++ rest), length-append e.contents rest))

  met_next : items m (length before)
      ≡ Whole e.ident e.action (length before + 4) (length before + 4 + length e.contents) ∷ items m (length before + 4 + length e.contents)
  met_next =
      let n = length e.contents in
      let c : content_length m (length before) ≡ n = rw (octet 2, octet 3) (number_back n small) in
      items_on m (length before) ∙ rw (whole_at m (length before) n c (omega (arith, long)), first, octet 1)

  contents_back : part m (length before + 4) (length before + 4 + length e.contents) ≡ e.contents
  contents_back =
      let z : length before + 4 + length e.contents - (length before + 4) ≡ length e.contents = omega arith in
      rw (z, same, drop-append-add before (element_octets e ++ rest) 4) (take_at e.contents rest (length e.contents) refl)

  walked_on : (es : List Element) → Walked m (length before + 4 + length e.contents) es → Walked m (length before) (e ∷ es)
  walked_on es w = record { whole = rw met_next w.whole; same = rw (met_next, contents_back, w.same) }

pub walked : (es : List Element) (m before : List ℕ) → m ≡ before ++ body es → EachFits es → Walked m (length before) es
walked [] m before same none =
    let e : length m ≡ length before = rw same (omega (arith, length-append before [])) in
    record { whole = rw (ended m (length before) e) (eq-eqb _ _ (sym e)); same = rw (ended m (length before) e) }
walked (e ∷ es) m before same (more f fs) =
    let w = walked es m (before ++ element_octets e) (same ∙ sym (append_assoc before (element_octets e) (body es))) fs in
    let n : length (before ++ element_octets e) ≡ length before + 4 + length e.contents = omega (arith, length-append before (element_octets e)) in
    walked_on m before (body es) e same f.size es (rw n at w)
