-- Laws of the loops over pairs. `Pairs` cites them.
--   Span                        how many pairs there are
--   span_count, span-size       as many as the count says; as many as `size` says
--   take_size                   the pairs that there are stand in front
--   listed_next                 the pair at hand and those behind it
--   Filled                      an array whose numbers from the i-th on are zeros
--   filled_none, filled_more, filled_all
--                               nothing is put in; one number is put in; what then stands in the array is packed
--   one_more                    a number is put in behind those that are at their place
--   inserted_past, inserted_here, inserted_last
--                               the pair at hand stays before the carried one; it goes on instead; none is left
--   removed_here, removed_past, removed_last
--                               the pair at hand goes; it stays; none is left
-- Assumes nothing.
use Prim.Native.Nat.{ℕ, suc, ◌+◌, ◌-◌, ◌≤◌, ◌<◌}
use mathlib.Core.Path.{◌≡◌, refl, sym, ◌∙◌}
use mathlib.Core.Bool.{true, false}
use mathlib.Core.List.{List, [], ◌∷◌, ◌++◌, append-nil}
use native.Mathlib.Omega.{arith}
use native.Mathlib.Numerals.{add-one}
use lib.Dec.{ltb}
use lib.ListN.{length, take, drop, get_or, set, replicate, length-set, drop_of_length-le, take-append-drop}
use lib.Seq.{drop-cons, drop-drop, drop-set-lt, take-suc-set, append_snoc, get_or-take, length-take-le, take_all}
use borrow.Author.Tests.{ltb-true, ltb-false, lt-ltb, le-ltb}
use Rattle.channels.proofs.Cases.{by_test}
use Rattle.pairs.specs.Pairs.{room, is_number, listed, packed, size, inserted, removed}
use Rattle.pairs.specs.declared.Pairs.{Pairs}

-- there are n pairs
pub record Span (ps : Pairs) (n : ℕ) : Type 0 where
  pub long : length (listed ps) ≡ n
  pub low : n ≤ ps.count
  pub most : n ≤ room

module _ (ps : Pairs) (h : length ps.numbers ≡ room) where
  pub span_count : ps.count ≤ room → Span ps ps.count
  span_count k = record { long = length-take-le ps.count ps.numbers (omega arith); low = omega arith; most = k }

  pub span-size : Span ps (size ps)
  span-size =
      by_test (ltb ps.count room)
      (λ t. let k = ltb-true ps.count room t in rw t (span_count (omega arith)))
      (λ t. let k = ltb-false ps.count room t in rw t (record { long = rw (take_all ps.count ps.numbers (omega arith)) h; low = k; most = omega arith }))

-- the pairs that there are stand in front, however many `size` says
pub take_size : (ps : Pairs) → length ps.numbers ≡ room → take (size ps) ps.numbers ≡ listed ps
take_size ps h =
    by_test (ltb ps.count room)
    (λ t. rw t refl)
    (λ t. let k = ltb-false ps.count room t in rw t (take_all room ps.numbers (omega arith) ∙ sym (take_all ps.count ps.numbers (omega arith))))

pub listed_next : (ps : Pairs) (n i : ℕ) → Span ps n → i < n → drop i (listed ps) ≡ get_or ps.numbers i 0 ∷ drop (i + 1) (listed ps)
listed_next ps n i s h =
    drop-cons (listed ps) i 0 (omega (arith, s.long)) ∙ rw (add-one i, get_or-take ps.count ps.numbers i 0 (omega (arith, s.low)))

pub record Filled (ns : List ℕ) (i : ℕ) : Type 0 where
  pub long : length ns ≡ room
  pub behind : drop i ns ≡ replicate (room - i) 0

pub filled_none : Filled (replicate room 0) 0
filled_none = record { long = refl; behind = refl }

pub filled_more : (ns : List ℕ) (i x : ℕ) → i < room → Filled ns i → Filled (set ns i x) (i + 1)
filled_more ns i x h f =
    record {
      long = length-set ns i x ∙ f.long;
      behind =
          let n : room - i ≡ suc (room - (i + 1)) = omega arith in
          drop-set-lt (i + 1) ns i x (omega arith) ∙ sym (drop-drop 1 i ns) ∙ rw (f.behind, n);
    }

pub filled_all : (ns : List ℕ) (i : ℕ) → i ≤ room → Filled ns i → record { count = i; numbers = ns } ≡ packed (take i ns)
filled_all ns i h f =
    let n : length (take i ns) ≡ i = length-take-le i ns (omega (arith, f.long)) in
    rw (n, ← f.behind, take-append-drop i ns)

module _ (all ns : List ℕ) (i x : ℕ) (rest : List ℕ) where
  pub one_more : i < length ns → all ≡ take i ns ++ (x ∷ rest) → all ≡ take (i + 1) (set ns i x) ++ rest
  one_more h left = left ∙ rw (add-one i, take-suc-set ns i x h) (sym (append_snoc (take i ns) x rest))

module _ (all ns xs : List ℕ) (i x c : ℕ) (rest : List ℕ) where
  pub inserted_past : i < length ns → xs ≡ x ∷ rest → x < c → all ≡ take i ns ++ inserted c xs → all ≡ take (i + 1) (set ns i x) ++ inserted c rest
  inserted_past h e t left = one_more all ns i x (inserted c rest) h (left ∙ rw (e, lt-ltb x c t))

  pub inserted_here : i < length ns → xs ≡ x ∷ rest → c ≤ x → all ≡ take i ns ++ inserted c xs → all ≡ take (i + 1) (set ns i c) ++ inserted x rest
  inserted_here h e t left = one_more all ns i c (inserted x rest) h (left ∙ rw (e, le-ltb x c t))

pub inserted_last : (all ns xs : List ℕ) (i c : ℕ) → i < length ns → length xs ≤ i → all ≡ take i ns ++ inserted c (drop i xs) → take (i + 1) (set ns i c) ≡ all
inserted_last all ns xs i c h k left =
    sym (one_more all ns i c [] h (left ∙ rw (drop_of_length-le xs {i = i} k)) ∙ append-nil (take (i + 1) (set ns i c)))

module _ (p v : ℕ) (all ns xs : List ℕ) (k x : ℕ) (rest : List ℕ) where
  pub removed_here : xs ≡ x ∷ rest → is_number p v x ≡ true → all ≡ take k ns ++ removed p v xs → all ≡ take k ns ++ removed p v rest
  removed_here e t left = left ∙ rw (e, t)

  pub removed_past : k < length ns → xs ≡ x ∷ rest → is_number p v x ≡ false → all ≡ take k ns ++ removed p v xs
      → all ≡ take (k + 1) (set ns k x) ++ removed p v rest
  removed_past h e t left = one_more all ns k x (removed p v rest) h (left ∙ rw (e, t))

pub removed_last : (p v : ℕ) (all ns xs : List ℕ) (k i : ℕ) → length xs ≤ i → all ≡ take k ns ++ removed p v (drop i xs) → take k ns ≡ all
removed_last p v all ns xs k i h left = sym (left ∙ rw (drop_of_length-le xs {i = i} h) (append-nil (take k ns)))
