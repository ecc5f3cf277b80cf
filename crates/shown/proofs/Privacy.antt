-- What the answer means for privacy holds of every message and every record.
--   first-named      the first element of an identifier has it
--   drop-part        a part without its first octets
--   privacy          what is shown, and what is not
-- Assumes nothing.
use Prim.Native.Nat.{ℕ, zero, suc, ◌+◌, ◌-◌, ◌≤◌}
use mathlib.Core.Path.{◌≡◌, refl, ap, sym, ◌∙◌}
use mathlib.Core.Bool.{Bool, true, false, cond, true≢false}
use mathlib.Core.List.{List, [], ◌∷◌}
use native.Mathlib.Omega.{arith}
use native.Mathlib.Nat.{sub-zero, zero-sub, suc-sub-suc}
use lib.Dec.{eqb}
use lib.ListN.{length, take, drop, length-drop}
use lib.Seq.{length-take-le, take-nil, take-length, drop-drop}
use borrow.Author.Tests.{eqb-true}
use Rattle.std.specs.Prelude.{Option, Some, None}
use Rattle.octets.specs.Octets.{part}
use Rattle.octets.proofs.Cases.{by_test}
use Rattle.header.specs.Header.{head_of}
use Rattle.items.specs.declared.Item.{Item}
use Rattle.items.specs.declared.Item.TheVariants.{End, Overrun, Whole}
use Rattle.items.specs.Items.{items, named, first_of}
use Rattle.items.proofs.Items.{first_within}
use Rattle.shown.specs.declared.Extent.{Extent}
use Rattle.shown.specs.declared.Extent.TheVariants.{Message, Record}
use Rattle.shown.specs.Calling.{calling_fits, address_at, allowed}
use Rattle.shown.specs.Shown.{passes, read, calling_in, or_record, extent_of, length_of, octets_of, shown_of}
use Rattle.shown.specs.Privacy.{InFirst, Private}
use Rattle.shown.proofs.Reach.{address_inside}

-- ---- what an element and an answer hold
abbrev is_whole : Item → Bool
is_whole End = false
is_whole (Overrun id) = false
is_whole (Whole id action start end) = true

abbrev start_of : Item → ℕ
start_of End = 0
start_of (Overrun id) = 0
start_of (Whole id action start end) = start

abbrev end_of : Item → ℕ
end_of End = 0
end_of (Overrun id) = 0
end_of (Whole id action start end) = end

abbrev is_message : Extent → Bool
is_message (Message at n) = true
is_message (Record at n) = false

abbrev place_of : Extent → ℕ
place_of (Message at n) = at
place_of (Record at n) = at

-- ---- which element is the first
first-cond : (id : ℕ) (t : Bool) (i j : Item) {met action start end : ℕ} → named id i ≡ t → (j ≡ Whole met action start end → met ≡ id)
    → cond t i j ≡ Whole met action start end → met ≡ id
first-cond id true i j q r e = eqb-true _ _ (rw e at q)
first-cond id false i j q r e = r e

pub first-named : (id : ℕ) (is : List Item) {met action start end : ℕ} → first_of id is ≡ Whole met action start end → met ≡ id
first-named id [] e = absurd (true≢false (sym (ap is_whole e)))
first-named id (i ∷ is) e = first-cond id (named id i) i (first_of id is) refl (first-named id is) e

-- ---- octets
drop-take : (k n : ℕ) (l : List ℕ) → drop k (take n l) ≡ take (n - k) (drop k l)
drop-take zero n l = rw (sub-zero n)
drop-take (suc k) zero l = rw (zero-sub (suc k))
drop-take (suc k) (suc n) [] = sym (take-nil (suc n - suc k))
drop-take (suc k) (suc n) (x ∷ xs) = rw (suc-sub-suc n k) (drop-take k n xs)

pub drop-part : (m : List ℕ) (start end k : ℕ) → start + k ≤ end → drop k (part m start end) ≡ part m (start + k) ((start + k) + (end - (start + k)))
drop-part m start end k h =
    let e : (end - start) - k ≡ ((start + k) + (end - (start + k))) - (start + k) = omega arith in
    rw (drop-take k (end - start) (drop start m), e, drop-drop k start m)

-- ---- places
up_to : (t : Bool) (a end : ℕ) → a ≤ end → a + cond t (end - a) 0 ≤ end
up_to true a end h = omega arith
up_to false a end h = omega arith

none_of : (m : List ℕ) (at n : ℕ) → n ≡ 0 → part m at (at + n) ≡ []
none_of m at n h = let e : (at + n) - at ≡ 0 = omega arith in rw e

-- an answer that is a part of the message: what was read of its first 6C
module _ (m s : List ℕ) where
  record Read (i : Item) (x : Extent) : Type 0 where
    start : ℕ
    end : ℕ
    whole : i ≡ Whole 0x6C 0x80 start end
    readable : calling_fits (part m start end) ≡ true
    is : x ≡ Message (start + address_at (part m start end)) (cond (allowed (part m start end)) (end - (start + address_at (part m start end))) 0)

  read_back : (i : Item) → ((met action start end : ℕ) → i ≡ Whole met action start end → met ≡ 0x6C) → is_message (or_record s (read m i)) ≡ true
      → Read i (or_record s (read m i))
  read_back End n e = absurd (true≢false (sym e))
  read_back (Overrun id) n e = absurd (true≢false (sym e))
  read_back (Whole id action start end) n e =
      by_test (eqb action 0x80) (λ a. by_test (calling_fits (part m start end)) (λ f. record {
        start = start;
        end = end;
        whole = rw (n id action start end refl, eqb-true action 0x80 a);
        readable = f;
        is = rw (a, f);
      }) (λ f. absurd (true≢false (sym (rw (a, f) at e))))) (λ a. absurd (true≢false (sym (rw a at e))))

  -- a SETUP that passes, and what was read of its first 6C
  from_message : is_message (extent_of m s) ≡ true → (passes (head_of m) ≡ true) × Read (first_of 0x6C (items m 9)) (extent_of m s)
  from_message e =
      by_test (passes (head_of m))
      (λ p. (p, rw p (read_back (first_of 0x6C (items m 9)) (λ met action start end q. first-named 0x6C (items m 9) q) (rw p at e))))
      (λ p. absurd (true≢false (sym (rw p at e))))

  inside : (at n : ℕ) → extent_of m s ≡ Message at n → InFirst m at n
  inside at n e =
      let f = from_message (ap is_message e) in
      let r = f.1 in
      let w = first_within m 9 0x6C (sym r.whole) in
      let a = address_inside m r.start r.end w.0 r.readable in
      let p = sym (ap place_of e) ∙ ap place_of r.is in
      let z = sym (ap length_of e) ∙ ap length_of r.is in
      record {
        start = r.start;
        end = r.end;
        passed = f.0;
        first = r.whole;
        readable = r.readable;
        begins = p;
        inside = omega (arith, p, z, up_to (allowed (part m r.start r.end)) _ r.end a);
        within = w.1;
      }

  restricted : (id action start end at n : ℕ) → first_of 0x6C (items m 9) ≡ Whole id action start end
      → allowed (part m start end) ≡ false → extent_of m s ≡ Message at n → (n ≡ 0) × (shown_of m s ≡ [])
  restricted id action start end at n q h e =
      let r = (from_message (ap is_message e)).1 in
      let a : r.start ≡ start = sym (ap start_of r.whole) ∙ ap start_of q in
      let b : r.end ≡ end = sym (ap end_of r.whole) ∙ ap end_of q in
      let g : allowed (part m r.start r.end) ≡ false = rw (a, b) h in
      let z : n ≡ 0 = rw g at (sym (ap length_of e) ∙ ap length_of r.is) in
      (z, rw e (none_of m at n z))

  empty_part : (start end : ℕ) → passes (head_of m) ≡ true → first_of 0x6C (items m 9) ≡ Whole 0x6C 0x80 start end
      → calling_fits (part m start end) ≡ true → allowed (part m start end) ≡ false
      → extent_of m s ≡ Message (start + address_at (part m start end)) 0
  empty_part start end p q f a = rw (p, q, f, a)

  or_record_lem : (f : Option (ℕ × ℕ)) (at n : ℕ) → or_record s f ≡ Record at n → (at ≡ 0) × (n ≡ length s) × (octets_of m s (or_record s f) ≡ s)
  or_record_lem None at n e =
      let l : (0 + length s) - 0 ≡ length s = omega arith in
      (sym (ap place_of e), sym (ap length_of e), rw l (take-length s))
  or_record_lem (Some (a, k)) at n e = absurd (true≢false (ap is_message e))

  record_whole : (at n : ℕ) → extent_of m s ≡ Record at n → (at ≡ 0) × (n ≡ length s) × (shown_of m s ≡ s)
  record_whole at n e = or_record_lem (calling_in m) at n e

  told_by : (f : Option (ℕ × ℕ)) → ((at n : ℕ) → f ≡ Some (at, n) → at + n ≤ length m) → length (octets_of m s (or_record s f)) ≡ length_of (or_record s f)
  told_by None h = let l : (0 + length s) - 0 ≡ length s = omega arith in rw (l, take-length s)
  told_by (Some (at, n)) h =
      let e : (at + n) - at ≡ n = omega arith in
      rw e (length-take-le n (drop at m) (rw (length-drop at m) (omega (arith, h at n refl))))

  length_told : length (shown_of m s) ≡ length_of (extent_of m s)
  length_told = told_by (calling_in m) (λ at n e. let f = inside at n (ap (or_record s) e) in omega (arith, f.inside, f.within))

  address_whole : (start end : ℕ) → passes (head_of m) ≡ true → first_of 0x6C (items m 9) ≡ Whole 0x6C 0x80 start end
      → calling_fits (part m start end) ≡ true → allowed (part m start end) ≡ true
      → shown_of m s ≡ drop (address_at (part m start end)) (part m start end)
  address_whole start end p q f a =
      let w = first_within m 9 0x6C (sym q) in
      rw (p, q, f, a) (sym (drop-part m start end (address_at (part m start end)) (address_inside m start end w.0 f)))

pub privacy : (m s : List ℕ) → Private m s
privacy m s = record {
  restricted = restricted m s;
  empty_part = empty_part m s;
  record_whole = record_whole m s;
  message_inside = inside m s;
  length_told = length_told m s;
  address_whole = address_whole m s;
}
