-- Laws of the pairs, over any lists.
--   listed-packed               the pairs that were packed are those listed
--   tidy_count, tidy_length, tidy_packed
--                               how many pairs there can be, how long their array is; ascending numbers make a tidy list
--   number_is                   which pair a number is of
--   none_in, none_tidy          no pair
--   with_in, with_tidy          a pair that was not there is put in: it and what was there are there
--   without_in, without_tidy    a pair is taken out: what was there but the pair is there
--   unless_in, unless_tidy      the pairs that are named are taken out
-- Assumes nothing.
use Prim.Native.Nat.{ℕ, suc, ◌+◌, ◌-◌, ◌*◌, ◌/◌, ◌%◌, ◌≤◌, ◌<◌}
use mathlib.Core.Path.{◌≡◌, refl, sym, ap, ◌∙◌}
use mathlib.Core.Bool.{Bool, true, false, not, ◌&&◌, ◌||◌, or-true, and-false}
use mathlib.Core.List.{List, [], ◌∷◌}
use native.Mathlib.Omega.{arith}
use lib.Dec.{eqb, ltb}
use lib.ListN.{length, replicate, length-append, length-replicate}
use lib.Seq.{take-append_seam}
use borrow.Author.Tests.{ltb-true, ltb-false, leb-false, eqb-true, eqb-false, lt-ltb, le-ltb, eq-eqb}
use Rattle.std.specs.List.{list_any}
use Rattle.channels.specs.declared.Named.{Named}
use Rattle.channels.specs.declared.Named.TheVariants.{All, One}
use Rattle.channels.proofs.Cases.{by_test, clash, both}
use Rattle.pairs.specs.Pairs.{room, pair_number, is_number, listed, packed, no_pairs, is_full, in_pairs, inserted, with_pair, removed, without_pair, names, unless_named, leads, ascending, Tidy}
use Rattle.pairs.specs.declared.Pairs.{Pairs}

pub listed-packed : (ns : List ℕ) → listed (packed ns) ≡ ns
listed-packed ns = take-append_seam ns (replicate (room - length ns) 0)

-- tidy lists
pub tidy_count : (ps : Pairs) → Tidy ps → ps.count ≤ room
tidy_count ps t = t.most

pub tidy_listed : (ps : Pairs) → Tidy ps → length (listed ps) ≡ ps.count
tidy_listed ps t = sym (ap (λ (qs : Pairs). qs.count) t.zeros)

pub tidy_length : (ps : Pairs) → Tidy ps → length ps.numbers ≡ room
tidy_length ps t =
    let n = length (listed ps) in
    let m = tidy_listed ps t in
    ap (λ (qs : Pairs). length qs.numbers) t.zeros ∙ length-append (listed ps) (replicate (room - n) 0) ∙ rw (length-replicate {A = ℕ} (room - n) 0, m) (omega (arith, t.most))

pub tidy_packed : (ns : List ℕ) → length ns ≤ room → ascending ns ≡ true → Tidy (packed ns)
tidy_packed ns h a = record { most = h; zeros = rw (listed-packed ns); order = rw (listed-packed ns) a }

-- the pair that a number is of
pub number_is : (p v q w : ℕ) → v < 65536 → is_number q w (pair_number p v) ≡ (eqb p q && eqb v w)
number_is p v q w h =
    let d : (p * 65536 + v) / 65536 ≡ p = omega arith in
    let m : (p * 65536 + v) % 65536 ≡ v = omega arith in
    rw (d, m)

pub is_other : (p v x : ℕ) → v < 65536 → is_number p v x ≡ false → eqb x (pair_number p v) ≡ false
is_other p v x h e =
    let s : is_number p v (pair_number p v) ≡ true = number_is p v p v h ∙ rw (eq-eqb p p refl, eq-eqb v v refl) in
    by_test (eqb x (pair_number p v)) (λ t. clash s (rw (eqb-true x (pair_number p v) t) at e)) (λ t. t)

pub is_both : (p v q w x : ℕ) → is_number p v x ≡ true → is_number q w x ≡ (eqb p q && eqb v w)
is_both p v q w x h = let s = both (eqb (x / 65536) p) (eqb (x % 65536) v) h in rw (eqb-true (x / 65536) p s.0, eqb-true (x % 65536) v s.1)

pub is_same : (p v q w x : ℕ) → (eqb p q && eqb v w) ≡ true → is_number q w x ≡ is_number p v x
is_same p v q w x h = let s = both (eqb p q) (eqb v w) h in rw (eqb-true p q s.0, eqb-true v w s.1)

-- no pair
pub none_in : (p v : ℕ) → in_pairs no_pairs p v ≡ false
none_in p v = refl

pub none_tidy : Tidy no_pairs
none_tidy = tidy_packed [] (omega arith) refl

-- one pair more
pub inserted-length : (n : ℕ) (xs : List ℕ) → length (inserted n xs) ≡ suc (length xs)
inserted-length n [] = refl
inserted-length n (x ∷ xs) = by_test (ltb x n) (λ t. rw t (ap suc (inserted-length n xs))) (λ t. rw t (ap suc (inserted-length x xs)))

pub or_swap : (a b c : Bool) → (a || (b || c)) ≡ (b || (a || c))
or_swap true b c = sym (or-true b)
or_swap false b c = refl

pub some_inserted : (t : ℕ → Bool) (n : ℕ) (xs : List ℕ) → list_any t (inserted n xs) ≡ (t n || list_any t xs)
some_inserted t n [] = refl
some_inserted t n (x ∷ xs) =
    by_test (ltb x n) (λ e. rw (e, some_inserted t n xs) (or_swap (t x) (t n) (list_any t xs))) (λ e. rw (e, some_inserted t x xs))

-- a number below all others stays in front of them
pub inserted-lowest : (x : ℕ) (xs : List ℕ) → ascending (x ∷ xs) ≡ true → inserted x xs ≡ x ∷ xs
inserted-lowest x [] h = refl
inserted-lowest x (y ∷ ys) h =
    let l = both (leads x (y ∷ ys)) (ascending (y ∷ ys)) h in
    let k = ltb-true x y l.0 in
    rw (le-ltb y x (omega arith), inserted-lowest y ys l.1)

pub leads-inserted : (x n : ℕ) (xs : List ℕ) → x < n → leads x xs ≡ true → leads x (inserted n xs) ≡ true
leads-inserted x n [] h l = lt-ltb x n h
leads-inserted x n (y ∷ ys) h l = by_test (ltb y n) (λ t. rw t l) (λ t. rw t (lt-ltb x n h))

pub inserted-ascending : (p v : ℕ) (xs : List ℕ) → v < 65536 → list_any (is_number p v) xs ≡ false → ascending xs ≡ true → ascending (inserted (pair_number p v) xs) ≡ true
inserted-ascending p v [] h o a = refl
inserted-ascending p v (x ∷ xs) h o a =
    let n = pair_number p v in
    let l = both (leads x xs) (ascending xs) a in
    by_test (is_number p v x)
    (λ t. clash (rw t) o)
    (λ t. by_test (ltb x n)
    (λ b. rw (b, leads-inserted x n xs (ltb-true _ _ b) l.0) (inserted-ascending p v xs h (rw t at o) l.1))
    (λ b.
    let k = ltb-false x n b in
    let e = eqb-false x n (is_other p v x h t) in
    rw (b, inserted-lowest x xs a, lt-ltb n x (omega (arith, e))) a))

pub with_in : (ps : Pairs) (p v q w : ℕ) → is_full ps ≡ false → v < 65536 → in_pairs (with_pair ps p v) q w ≡ ((eqb p q && eqb v w) || in_pairs ps q w)
with_in ps p v q w f h =
    rw (f, listed-packed (inserted (pair_number p v) (listed ps)), some_inserted (is_number q w) (pair_number p v) (listed ps), number_is p v q w h)

pub with_tidy : (ps : Pairs) (p v : ℕ) → Tidy ps → in_pairs ps p v ≡ false → v < 65536 → Tidy (with_pair ps p v)
with_tidy ps p v t o h =
    by_test (is_full ps)
    (λ f. rw f t)
    (λ f.
    let k = leb-false room ps.count f in
    let m = tidy_listed ps t in
    rw f (tidy_packed (inserted (pair_number p v) (listed ps)) (omega (arith, inserted-length (pair_number p v) (listed ps))) (inserted-ascending p v (listed ps) h o t.order)))

-- one pair less
pub removed-length : (p v : ℕ) (xs : List ℕ) → length (removed p v xs) ≤ length xs
removed-length p v [] = omega arith
removed-length p v (x ∷ xs) =
    let k = removed-length p v xs in
    by_test (is_number p v x) (λ t. rw t (omega arith)) (λ t. rw t (omega arith))

pub some_removed : (p v q w : ℕ) (xs : List ℕ) → list_any (is_number q w) (removed p v xs) ≡ (not (eqb p q && eqb v w) && list_any (is_number q w) xs)
some_removed p v q w [] = sym (and-false (not (eqb p q && eqb v w)))
some_removed p v q w (x ∷ xs) =
    by_test (is_number p v x)
    (λ t. by_test (eqb p q && eqb v w)
    (λ s. rw (t, some_removed p v q w xs, s))
    (λ s. rw (t, some_removed p v q w xs, is_both p v q w x t, s)))
    (λ t. by_test (eqb p q && eqb v w)
    (λ s. rw (t, some_removed p v q w xs, s, is_same p v q w x s, t))
    (λ s. rw (t, some_removed p v q w xs, s)))

-- without the second number they ascend as before
pub ascending_skip : (x y : ℕ) (ys : List ℕ) → ascending (x ∷ y ∷ ys) ≡ true → ascending (x ∷ ys) ≡ true
ascending_skip x y [] h = refl
ascending_skip x y (z ∷ zs) h =
    let l = both (ltb x y) (ascending (y ∷ z ∷ zs)) h in
    let m = both (ltb y z) (ascending (z ∷ zs)) l.1 in
    let a = ltb-true x y l.0 in
    let b = ltb-true y z m.0 in
    rw (lt-ltb x z (omega arith)) m.1

pub leads-removed : (p v x : ℕ) (xs : List ℕ) → ascending (x ∷ xs) ≡ true → leads x (removed p v xs) ≡ true
leads-removed p v x [] h = refl
leads-removed p v x (y ∷ ys) h =
    by_test (is_number p v y)
    (λ t. rw t (leads-removed p v x ys (ascending_skip x y ys h)))
    (λ t. rw t (both (ltb x y) (ascending (y ∷ ys)) h).0)

pub removed-ascending : (p v : ℕ) (xs : List ℕ) → ascending xs ≡ true → ascending (removed p v xs) ≡ true
removed-ascending p v [] h = refl
removed-ascending p v (x ∷ xs) h =
    let k = removed-ascending p v xs (both (leads x xs) (ascending xs) h).1 in
    by_test (is_number p v x) (λ t. rw t k) (λ t. rw (t, leads-removed p v x xs h) k)

pub without_in : (ps : Pairs) (p v q w : ℕ) → in_pairs (without_pair ps p v) q w ≡ (not (eqb p q && eqb v w) && in_pairs ps q w)
without_in ps p v q w = rw (listed-packed (removed p v (listed ps))) (some_removed p v q w (listed ps))

pub without_tidy : (ps : Pairs) (p v : ℕ) → Tidy ps → Tidy (without_pair ps p v)
without_tidy ps p v t =
    tidy_packed (removed p v (listed ps)) (omega (arith, removed-length p v (listed ps), tidy_listed ps t, t.most)) (removed-ascending p v (listed ps) t.order)

-- the pairs that are named
pub unless_in : (ps : Pairs) (n : Named) (q w : ℕ) → in_pairs (unless_named ps n) q w ≡ (not (names n q w) && in_pairs ps q w)
unless_in ps All q w = none_in q w
unless_in ps (One pv) q w = without_in ps pv.vpci pv.vci q w

pub unless_tidy : (ps : Pairs) (n : Named) → Tidy ps → Tidy (unless_named ps n)
unless_tidy ps All t = none_tidy
unless_tidy ps (One pv) t = without_tidy ps pv.vpci pv.vci t
