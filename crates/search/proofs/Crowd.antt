-- Among more VCIs than there are pairs, one is free.
--   crowd         where fewer than n pairs are taken by themselves, not each of n VCIs is
--   Sparse        a test that no range passes at all its marks
--   sparse        the pairs that can be there are fewer than the marks of a range
-- Over lists of any length. Assumes nothing.
use Rattle.std.specs.Prelude.{Option, Some, None}
use Prim.Native.Nat.{ℕ, zero, suc, ◌+◌, ◌/◌, ◌%◌, ◌≤◌, ◌<◌}
use mathlib.Core.Path.{◌≡◌, refl}
use mathlib.Core.Bool.{Bool, true, false, ◌&&◌, ◌||◌}
use mathlib.Core.List.{List, [], ◌∷◌}
use native.Mathlib.Omega.{arith}
use lib.Dec.{eqb}
use lib.ListN.{length}
use borrow.Author.Tests.{eqb-true, ne_eqb}
use Rattle.std.specs.List.{list_any}
use Rattle.identifier.specs.Pair.{is_pair}
use Rattle.channels.specs.Channels.{permanent_count, among}
use Rattle.identifier.specs.declared.Pair.{Pair}
use Rattle.channels.proofs.Cases.{by_test}
use Rattle.pairs.specs.Pairs.{room, is_number, listed, in_pairs}
use Rattle.pairs.specs.declared.Pairs.{Pairs}
use Rattle.pairs.proofs.Places.{span-size}
use Rattle.calls.specs.Calls.{pair_held, holds_pair}
use Rattle.calls.specs.declared.Hold.{Hold}
use Rattle.calls.specs.declared.Hold.TheVariants.{Empty, Live}
use Rattle.calls.specs.declared.Slot.{Slot}
use Rattle.service.specs.Service.{one_pair}
use Rattle.service.specs.declared.GlobalState.{GlobalState}
use Rattle.service.specs.declared.OutOfService.{OutOfService}
use Rattle.slots.specs.Slots.{slot_count}
use Rattle.search.specs.Search.{taken_singly}
use Rattle.search.specs.Marks.{near}

abbrev one : Bool → ℕ
one true = 1
one false = 0

-- how many of n VCIs from v a test names
abbrev hits : (ℕ → Bool) → ℕ → ℕ → ℕ
hits t zero v = 0
hits t (suc n) v = one (t v) + hits t n (v + 1)

module _ (t : ℕ → Bool) where
  hits_none : (n v : ℕ) → ((w : ℕ) → v ≤ w → t w ≡ false) → hits t n v ≡ 0
  hits_none zero v h = refl
  hits_none (suc n) v h =
      let rest = hits_none n (v + 1) (λ w k. h w (omega arith)) in
      rw (h v (omega arith), rest) (omega arith)

  hits_all : (n v : ℕ) → ((w : ℕ) → v ≤ w → w < v + n → t w ≡ true) → hits t n v ≡ n
  hits_all zero v h = refl
  hits_all (suc n) v h =
      let rest = hits_all n (v + 1) (λ w low high. h w (omega arith) (omega arith)) in
      rw (h v (omega arith) (omega arith), rest) (omega arith)

one_either : (a b : Bool) → one (a || b) ≤ one a + one b
one_either true b = omega arith
one_either false b = omega arith

hits_either : (a b : ℕ → Bool) (n v : ℕ) → hits (λ w. a w || b w) n v ≤ hits a n v + hits b n v
hits_either a b zero v = omega arith
hits_either a b (suc n) v =
    let here = one_either (a v) (b v) in
    let rest = hits_either a b n (v + 1) in
    omega arith

-- a pair is the pair of one VCI at most
hits_once : (u n v : ℕ) → hits (eqb u) n v ≤ 1
hits_once u zero v = omega arith
hits_once u (suc n) v =
    by_test (eqb u v)
    (λ here.
    let same = eqb-true u v here in
    let none = hits_none (eqb u) n (v + 1) (λ w k. ne_eqb u w (λ d. omega arith)) in
    rw (here, none) (omega arith))
    (λ away. let rest = hits_once u n (v + 1) in rw away (omega arith))

hits_no : (n v : ℕ) → hits (λ w. false) n v ≤ 1
hits_no n v = let none = hits_none (λ w. false) n v (λ w k. refl) in omega arith

hits_same : (a : Bool) (u n v : ℕ) → hits (λ w. a && eqb u w) n v ≤ 1
hits_same true u n v = hits_once u n v
hits_same false u n v = hits_no n v

hits_some : {A : Type 0} (t : ℕ → A → Bool) (n v : ℕ) → ((x : A) → hits (λ w. t w x) n v ≤ 1) → (xs : List A) → hits (λ w. list_any (t w) xs) n v ≤ length xs
hits_some t n v each [] = let none = hits_none (λ w. false) n v (λ w k. refl) in omega arith
hits_some t n v each (x ∷ xs) =
    let first = each x in
    let rest = hits_some t n v each xs in
    let sum = hits_either (λ w. t w x) (λ w. list_any (t w) xs) n v in
    omega arith

-- not each of a run of VCIs with marks passes
abbrev pub Sparse : (ℕ → ℕ → Bool) → Type 0
Sparse t = (p v : ℕ) → ((w : ℕ) → v ≤ w → w < v + near → t p w ≡ true) → ⊥

module _ (p n v : ℕ) where
  hits_channel : (c : Option Pair) → hits (λ w. is_pair p w c) n v ≤ 1
  hits_channel None = hits_no n v
  hits_channel (Some qu) = hits_same (eqb qu.vpci p) qu.vci n v

  hits_hold : (h : Hold) → hits (λ w. pair_held p w h) n v ≤ 1
  hits_hold Empty = hits_no n v
  hits_hold (Live c q) = hits_same (eqb c.pair.vpci p) c.pair.vci n v

  pub crowd : (ss : List Slot) (ds : Pairs) (out : OutOfService) (g : GlobalState) (es : List (Option Pair))
      → length ss + (length (listed ds) + (length (listed out.pairs) + (1 + length es))) < n
      → ((w : ℕ) → v ≤ w → w < v + n → taken_singly ss ds out g es p w ≡ true) → ⊥
  crowd ss ds out g es few all =
      let number : (m : ℕ) → hits (λ w. is_number p w m) n v ≤ 1 = λ m. hits_same (eqb (m / 65536) p) (m % 65536) n v in
      let held = hits_some (λ w. holds_pair p w) n v (λ s. hits_hold s.hold) ss in
      let doubts = hits_some (λ w. is_number p w) n v number (listed ds) in
      let marks = hits_some (λ w. is_number p w) n v number (listed out.pairs) in
      let request = hits_channel (one_pair g) in
      let permanents = hits_some (λ w. is_pair p w) n v (λ e. hits_channel e) es in
      let two = hits_either (λ w. is_pair p w (one_pair g)) (λ w. among p w es) n v in
      let three = hits_either (λ w. in_pairs out.pairs p w) (λ w. is_pair p w (one_pair g) || among p w es) n v in
      let four = hits_either (λ w. in_pairs ds p w) (λ w. in_pairs out.pairs p w || (is_pair p w (one_pair g) || among p w es)) n v in
      let five = hits_either (λ w. list_any (holds_pair p w) ss) (λ w. in_pairs ds p w || (in_pairs out.pairs p w || (is_pair p w (one_pair g) || among p w es))) n v in
      let full = hits_all (taken_singly ss ds out g es p) n v all in
      omega arith

-- the arrays are as long as they are, so that there are fewer pairs than a range has marks
pub sparse : (ss : List Slot) (ds : Pairs) (out : OutOfService) (g : GlobalState) (es : List (Option Pair)) → length ss ≡ slot_count → length ds.numbers ≡ room
    → length out.pairs.numbers ≡ room → length es ≡ permanent_count → Sparse (taken_singly ss ds out g es)
sparse ss ds out g es s d o e p v =
    let first = span-size ds d in
    let second = span-size out.pairs o in
    let long = first.long in
    let most = first.most in
    let wide = second.long in
    let high = second.most in
    crowd p near v ss ds out g es (omega arith)
