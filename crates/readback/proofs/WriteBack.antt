-- The elements read from octets, written again.
--   Shown, shows            what a whole element at a place says of the octets there
--   one_more, four_more     the next octets
--   element_writes_back     it writes back as the octets from its place on
--   elements_write_back     a whole number of elements write back as the octets that they were read from
--   elements_fit            elements read from octets fit their octets
-- Assumes nothing.
use Prim.Native.Nat.{ℕ, zero, suc, ◌+◌, ◌-◌, ◌≤◌, ◌<◌}
use mathlib.Core.Path.{◌≡◌, refl, sym}
use mathlib.Core.Bool.{true, true≢false}
use mathlib.Core.List.{List, [], ◌∷◌, ◌++◌}
use native.Mathlib.Omega.{arith}
use native.Mathlib.Numerals.{add-one}
use lib.Dec.{ltb}
use borrow.Author.Tests.{ltb-false, eqb-true}
use lib.ListN.{length, get_or, drop, length-take, length-drop, take-append-drop, drop_of_length-le}
use lib.Seq.{drop-cons, drop-drop}
use Rattle.octets.specs.Octets.{high, low, part}
use Rattle.traffic.specs.Walk.{walk}
use Rattle.octets.proofs.Cases.{by_test}
use Rattle.items.specs.declared.Item.{Item}
use Rattle.items.specs.declared.Item.TheVariants.{End, Overrun, Whole}
use Rattle.items.specs.Items.{content_length, item_at, item_step, and_then, ends_whole, whole_from}
use Rattle.replies.specs.Message.{element_octets, body}
use Rattle.readback.specs.ReadBack.{elements_among, elements_in, Octets, Fits, EachFits, none, more}
use Rattle.readback.proofs.Octets.{octets-take, octets-drop}

pub record Shown (m : List ℕ) (at id action start end : ℕ) : Type 0 where
  pub ident : id ≡ get_or m at 0
  pub second : action ≡ get_or m (at + 1) 0
  pub begins : start ≡ at + 4
  pub ends : end ≡ at + 4 + content_length m at
  pub within : end ≤ length m

abbrev pub Shows : List ℕ → ℕ → Item → Type 0
Shows m at End = Unit {0}
Shows m at (Overrun id) = Unit {0}
Shows m at (Whole id action start end) = Shown m at id action start end

pub shows : (m : List ℕ) (at : ℕ) → Shows m at (item_at m at)
shows m at =
    by_test (ltb (length m) 4) (λ short. rw short tt)
    (λ four. by_test (ltb (length m - 4) at) (λ past. rw (four, past) tt)
    (λ here. let f = ltb-false (length m) 4 four in
    let h = ltb-false (length m - 4) at here in
    by_test (ltb (length m - (at + 4)) (content_length m at)) (λ over. rw (four, here, over) tt)
    (λ whole. let w = ltb-false (length m - (at + 4)) (content_length m at) whole in
    rw (four, here, whole) (record { ident = refl; second = refl; begins = refl; ends = refl; within = omega arith }))))

module _ (m : List ℕ) where
  pub one_more : (at : ℕ) → at < length m → drop at m ≡ get_or m at 0 ∷ drop (at + 1) m
  one_more at h = rw (add-one, drop-cons m at 0 h)

  pub four_more : (at : ℕ) → at + 4 ≤ length m
      → drop at m ≡ get_or m at 0 ∷ get_or m (at + 1) 0 ∷ get_or m (at + 2) 0 ∷ get_or m (at + 3) 0 ∷ drop (at + 4) m
  four_more at h =
      let e₂ : at + 1 + 1 ≡ at + 2 = omega arith in
      let e₃ : at + 2 + 1 ≡ at + 3 = omega arith in
      let e₄ : at + 3 + 1 ≡ at + 4 = omega arith in
      rw (one_more at (omega arith), one_more (at + 1) (omega arith), e₂, one_more (at + 2) (omega arith), e₃, one_more (at + 3) (omega arith), e₄)

  module _ (octets : Octets m) where
    -- the length field of an element, from the length of its contents
    length-field : (at : ℕ) → (high (content_length m at) ≡ get_or m (at + 2) 0) × (low (content_length m at) ≡ get_or m (at + 3) 0)
    length-field at = let h = octets.at (at + 2) in let l = octets.at (at + 3) in (omega arith, omega arith)

    contents_size : (at n : ℕ) → at + 4 + n ≤ length m → length (part m (at + 4) (at + 4 + n)) ≡ n
    contents_size at n h = rw (length-take (at + 4 + n - (at + 4)) (drop (at + 4) m), length-drop (at + 4) m) (omega arith)

    behind : (at n : ℕ) → part m (at + 4) (at + 4 + n) ++ drop (at + 4 + n) m ≡ drop (at + 4) m
    behind at n =
        let e : at + 4 + n - (at + 4) ≡ n = omega arith in
        rw (e, ← drop-drop n (at + 4) m) (take-append-drop n (drop (at + 4) m))

    pub element_writes_back : (at id action start end : ℕ) → Shown m at id action start end
        → element_octets (record { ident = id; action = action; contents = part m start end }) ++ drop end m ≡ drop at m
    element_writes_back at id action start end s =
        let n = content_length m at in
        let h : at + 4 + n ≤ length m = rw s.ends at s.within in
        rw (s.ident, s.second, s.ends, s.begins, contents_size at n h, (length-field at).0, (length-field at).1, behind at n, four_more at (omega arith))

    pub element_fits : (at id action start end : ℕ) → Shown m at id action start end
        → Fits (record { ident = id; action = action; contents = part m start end })
    element_fits at id action start end s =
        let n = content_length m at in
        let h : at + 4 + n ≤ length m = rw s.ends at s.within in
        let a = octets.at (at + 2) in
        let b = octets.at (at + 3) in
        record {
          ident = rw s.ident (octets.at at);
          action = rw s.second (octets.at (at + 1));
          contents = octets-take (end - start) (octets-drop start octets);
          size = rw (s.ends, s.begins, contents_size at n h) (omega arith);
        }

    written_then : (at : ℕ) (i : Item) (rest : ℕ → List Item) → Shows m at i
        → ((next : ℕ) → ends_whole m next (rest next) ≡ true → body (elements_among m (rest next)) ≡ drop next m)
        → ends_whole m at (and_then i rest) ≡ true → body (elements_among m (and_then i rest)) ≡ drop at m
    written_then at End rest s later e = sym (drop_of_length-le m {i = at} (omega (arith, eqb-true at (length m) e)))
    written_then at (Overrun id) rest s later e = absurd (true≢false (sym e))
    written_then at (Whole id action start end) rest s later e = rw (later end e) (element_writes_back at id action start end s)

    written_walk : (n at : ℕ) → ends_whole m at (walk (item_step m) [] n at) ≡ true → body (elements_among m (walk (item_step m) [] n at)) ≡ drop at m
    written_walk zero at e = sym (drop_of_length-le m {i = at} (omega (arith, eqb-true at (length m) e)))
    written_walk (suc n) at e = written_then at (item_at m at) (walk (item_step m) [] n) (shows m at) (written_walk n) e

    pub elements_write_back : (from : ℕ) → whole_from m from ≡ true → body (elements_in m from) ≡ drop from m
    elements_write_back from = written_walk (length m) from

    fits_then : (at : ℕ) (i : Item) (rest : ℕ → List Item) → Shows m at i → ((next : ℕ) → EachFits (elements_among m (rest next)))
        → EachFits (elements_among m (and_then i rest))
    fits_then at End rest s later = none
    fits_then at (Overrun id) rest s later = none
    fits_then at (Whole id action start end) rest s later = more (element_fits at id action start end s) (later end)

    fits-walk : (n at : ℕ) → EachFits (elements_among m (walk (item_step m) [] n at))
    fits-walk zero at = none
    fits-walk (suc n) at = fits_then at (item_at m at) (walk (item_step m) [] n) (shows m at) (fits-walk n)

    pub elements_fit : (from : ℕ) → EachFits (elements_in m from)
    elements_fit = fits-walk (length m)
