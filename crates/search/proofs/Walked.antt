-- The walk over ranges and VCIs, over the marks alone.
--   walked                      where the marks from range k on say what a test says of the ranges' pairs, the lowest pair without a mark is the lowest
--                               that the test does not name
--   row_passed, row_met         a range whose marks are all set is passed; at its first mark that is not set the walk ends
--   rows_passed                 behind the last range nothing is found
--   unused_answer, all_answer   what `find_free` gives where no range has a VCI; where all pairs are taken at once
--   answer                      and elsewhere
-- Over lists of any length. Assumes nothing.
use Rattle.std.specs.Prelude.{Option, Some, None}
use Rattle.std.specs.List.{position_or_len}
use Rattle.std.proofs.lemmas.Bool.{not-true, not-false}
use Rattle.std.proofs.lemmas.List.{get_or-drop, get_or-take, length-drop, length-replicate, drop_all}
use Rattle.std.proofs.lemmas.List.Sums.{passes_at_first, fails_before_first, position_or_len_is}
use Prim.Native.Nat.{ℕ, zero, suc, ◌+◌, ◌-◌, ◌*◌, ◌≤◌, ◌<◌}
use mathlib.Core.Path.{◌≡◌, refl, sym, ◌∙◌}
use mathlib.Core.Logic.{◌≢◌}
use mathlib.Core.Bool.{Bool, true, false, cond, not, or-true}
use mathlib.Core.List.{List, [], ◌∷◌}
use native.Mathlib.Omega.{arith}
use native.Mathlib.Numerals.{add-one}
use lib.Dec.{eqb, ltb}
use lib.ListN.{length, take, drop, get_or, replicate, get_or-replicate}
use lib.Seq.{length-take-le, drop-cons}
use borrow.Author.Tests.{eqb-true, eqb-false, eq-eqb, ne_eqb, ltb-true, ltb-false, lt-ltb, le-ltb}
use Rattle.identifier.specs.Pair.{pair}
use Rattle.channels.specs.Channels.{range_count, permanent_count, scan, lowest}
use Rattle.identifier.specs.declared.Pair.{Pair}
use Rattle.channels.specs.declared.Range.{Range}
use Rattle.channels.specs.declared.Pool.{Pool}
use Rattle.channels.proofs.Cases.{by_test}
use Rattle.channels.proofs.Lowest.{none-scan, none-lowest, lowest_same}
use Rattle.pairs.specs.declared.Pairs.{Pairs}
use Rattle.calls.specs.declared.Slot.{Slot}
use Rattle.service.specs.Service.{is_all_taken}
use Rattle.service.specs.declared.GlobalState.{GlobalState}
use Rattle.service.specs.declared.OutOfService.{OutOfService}
use Rattle.search.specs.Search.{taken_singly, taken, spanning, pairs_there, searched}
use Rattle.search.specs.Marks.{Read, near, all_marks, used, range_at, width, free_in, at_offset, lowest_in}
use Rattle.search.specs.declared.Finding.{Finding}
use Rattle.search.specs.declared.Marks.{Marks}
use Rattle.pairs.specs.Pairs.{room}
use Rattle.slots.specs.Slots.{slot_count}
use Rattle.search.proofs.Crowd.{Sparse, sparse}
use Rattle.search.proofs.Free.{all_taken, singly}
use Rattle.search.proofs.Used.{used_few, used-spanning, lowest_used}

module _ (t : ℕ → ℕ → Bool) (q : ℕ) (rest : Option Pair) where
  scan-first : (n w v : ℕ) → w ≤ v → v < w + n → ((u : ℕ) → w ≤ u → u < v → t q u ≡ true) → t q v ≡ false → scan t q n w rest ≡ Some (pair q v)
  scan-first zero w v low high all free = absurd (omega arith)
  scan-first (suc n) w v low high all free =
      by_test (eqb w v)
      (λ e. rw (eqb-true w v e, free))
      (λ e. let past = eqb-false w v e in rw (all w (omega arith) (omega arith)) (scan-first n (w + 1) v (omega arith) (omega arith) (λ u from to. all u (omega arith) to) free))

width_most : (r : Range) → (width r ≤ near) × (width r ≤ (r.last + 1) - r.first)
width_most r =
    by_test (ltb ((r.last + 1) - r.first) near)
    (λ e. let h = ltb-true ((r.last + 1) - r.first) near e in rw e (omega arith, omega arith))
    (λ e. let h = ltb-false ((r.last + 1) - r.first) near e in rw e (omega arith, omega arith))

width_all : (r : Range) → width r < near → width r ≡ (r.last + 1) - r.first
width_all r h = by_test (ltb ((r.last + 1) - r.first) near) (λ e. rw e) (λ e. let same : width r ≡ near = rw e in absurd (omega arith))

module _ (t : ℕ → ℕ → Bool) (few : Sparse t) where
  -- one range, over its marks
  module _ (r : Range) (ms : List Bool) (rest : Option Pair) (long : near ≤ length ms) (told : (o : ℕ) → o < near → get_or ms o false ≡ t r.vpci (r.first + o)) where
    seen : (o : ℕ) → o < width r → get_or (take (width r) ms) o false ≡ t r.vpci (r.first + o)
    seen o h = let most = (width_most r).0 in get_or-take (width r) ms o false h ∙ told o (omega arith)

    row : at_offset r (free_in r ms) rest ≡ scan t r.vpci ((r.last + 1) - r.first) r.first rest
    row =
        let xs = take (width r) ms in
        let n = position_or_len not (take (width r) ms) in
        let narrow = (width_most r).0 in
        let within = (width_most r).1 in
        let count = length-take-le (width r) ms (omega arith) in
        let passed : (u : ℕ) → r.first ≤ u → u < r.first + n → u < r.first + width r → t r.vpci u ≡ true =
        λ u from to inside.
        let place : r.first + (u - r.first) ≡ u = omega arith in
        rw place at (sym (seen (u - r.first) (omega arith)) ∙ not-false _ (fails_before_first not xs (u - r.first) false (omega arith))) in
        by_test (ltb n (length xs))
        (λ e.
        let h = ltb-true n (length xs) e in
        rw e
        (sym (scan-first t r.vpci rest ((r.last + 1) - r.first) r.first (r.first + n) (omega arith) (omega arith) (λ u from to. passed u from to (omega arith))
        (sym (seen n (omega arith)) ∙ not-true _ (passes_at_first not xs false h)))))
        (λ e.
        let h = ltb-false n (length xs) e in
        by_test (ltb (width r) near)
        (λ s.
        let all = width_all r (ltb-true (width r) near s) in
        rw e (sym (none-scan t r.vpci rest ((r.last + 1) - r.first) r.first (λ u from to. passed u from (omega arith) (omega arith)))))
        (λ s.
        let full = ltb-false (width r) near s in
        absurd (few r.vpci r.first (λ u from to. passed u from (omega arith) (omega arith)))))

  pub walked : (on : List Bool) (k : ℕ) (rs : List Range) → length on ≡ all_marks → k + length rs ≤ range_count
      → ((j o : ℕ) → j < length rs → o < near → get_or on ((k + j) * near + o) false ≡ t (range_at rs j).vpci ((range_at rs j).first + o))
      → lowest_in on k rs ≡ lowest t rs
  walked on k [] long most told = refl
  walked on k (r ∷ rs) long most told =
      let rest = walked on (k + 1) rs long (omega arith) (λ j o low h. let next : (k + 1) + j ≡ k + suc j = omega arith in rw next (told (suc j) o (omega arith) h)) in
      let behind = length-drop (k * near) on in
      rw rest
      (row r (drop (k * near) on) (lowest t rs) (omega arith)
      (λ o h. get_or-drop (k * near) on o false ∙ (let here : k + 0 ≡ k = omega arith in rw here at (told 0 o (omega arith) h))))

-- the marks of a range stand from m on
module _ (r : Range) (on : List Bool) (m o : ℕ) where
  first_unset : m + near ≤ length on → o ≤ width r → ((u : ℕ) → u < o → get_or on (m + u) false ≡ true) → (o < width r → get_or on (m + o) false ≡ false)
      → free_in r (drop m on) ≡ cond (ltb o (width r)) (Some o) None
  first_unset long most set unset =
      let narrow = (width_most r).0 in
      let behind = length-drop m on in
      let xs = take (width r) (drop m on) in
      let count = length-take-le (width r) (drop m on) (omega arith) in
      let place : (u : ℕ) → u < width r → get_or xs u false ≡ get_or on (m + u) false = λ u h. get_or-take (width r) (drop m on) u false h ∙ get_or-drop m on u false in
      let first : position_or_len not xs ≡ o =
      position_or_len_is not xs o false (omega arith) (λ u h. rw (place u (omega arith), set u h)) (λ h. rw (place o (omega arith), unset (omega arith))) in
      rw (first, count)

-- a walk that has come to range k
module _ (on : List Bool) (k : ℕ) (rs : List Range) where
  pub row_passed : length on ≡ all_marks → k < range_count → k < length rs → ((u : ℕ) → u < width (range_at rs k) → get_or on (k * near + u) false ≡ true)
      → lowest_in on k (drop k rs) ≡ lowest_in on (k + 1) (drop (k + 1) rs)
  row_passed long low below set =
      let none = first_unset (range_at rs k) on (k * near) (width (range_at rs k)) (omega arith) (omega arith) set (λ h. absurd (omega arith)) in
      rw (drop-cons rs k (record { vpci = 0; first = 0; last = 0 }) below, none, le-ltb (width (range_at rs k)) (width (range_at rs k)) (omega arith), add-one k)

  pub row_met : length on ≡ all_marks → k < range_count → k < length rs → (o : ℕ) → o < width (range_at rs k) → ((u : ℕ) → u < o → get_or on (k * near + u) false ≡ true)
      → get_or on (k * near + o) false ≡ false → lowest_in on k (drop k rs) ≡ Some (pair (range_at rs k).vpci ((range_at rs k).first + o))
  row_met long low below o within set unset =
      let some = first_unset (range_at rs k) on (k * near) o (omega arith) (omega arith) set (λ h. unset) in
      rw (drop-cons rs k (record { vpci = 0; first = 0; last = 0 }) below, some, lt-ltb o (width (range_at rs k)) within)

  pub rows_passed : length rs ≤ k → lowest_in on k (drop k rs) ≡ None
  rows_passed h = rw (drop_all k rs h)

module _ (ss : List Slot) (ds : Pairs) (out : OutOfService) (g : GlobalState) (pool : Pool) where
  abbrev T : ℕ → ℕ → Bool
  T = taken ss ds out g pool.permanents

  -- the ranges up to the last that has a VCI
  abbrev U : List Range
  U = take (used pool.ranges) pool.ranges

  pub unused_answer : used pool.ranges ≡ 0 → ◌≡◌ {A = Finding} (record { found = None; reads = 0 }) (searched ss ds out g pool)
  unused_answer none =
      let found : lowest T pool.ranges ≡ None = lowest_used T pool.ranges ∙ rw none in
      rw (found, used-spanning pool.ranges, eq-eqb (used pool.ranges) 0 none)

  -- all pairs at once
  pub all_answer : is_all_taken out g ≡ true → ◌≡◌ {A = Finding} (record { found = None; reads = 0 }) (searched ss ds out g pool)
  all_answer e = rw (none-lowest T pool.ranges (λ p v h. all_taken ss ds out g pool.permanents e p v), e, or-true (eqb (spanning pool.ranges) 0))

  pub answer : length ss ≡ slot_count → length ds.numbers ≡ room → length out.pairs.numbers ≡ room → length pool.permanents ≡ permanent_count → length pool.ranges ≡ range_count
      → is_all_taken out g ≡ false → used pool.ranges ≢ 0 → {c : Option Pair} {old new : Marks} → old ≡ record { on = replicate all_marks false; reads = 0 }
      → Read U (taken_singly ss ds out g pool.permanents) (pairs_there ss ds out g pool.permanents) old new → c ≡ lowest_in new.on 0 U
      → ◌≡◌ {A = Finding} (record { found = c; reads = new.reads }) (searched ss ds out g pool)
  answer s d o e four single some {c} {old} {new} fresh read found =
      let most = used_few pool.ranges range_count four in
      let by = taken_singly ss ds out g pool.permanents in
      let wide : length new.on ≡ all_marks = read.wide ∙ rw fresh (length-replicate all_marks false) in
      let told : (j i : ℕ) → j < length U → i < near → get_or new.on ((0 + j) * near + i) false ≡ by (range_at U j).vpci ((range_at U j).first + i) =
      λ j i low h.
      let place : 0 + j ≡ j = omega arith in
      rw place (read.mark j i low h ∙ rw fresh (rw (get_or-replicate all_marks (j * near + i) false false (omega arith)))) in
      let same = lowest_same by T pool.ranges (singly ss ds out g pool.permanents single) in
      let count : new.reads ≡ pairs_there ss ds out g pool.permanents = read.count ∙ rw fresh (omega arith) in
      let none : eqb (used pool.ranges) 0 ≡ false = ne_eqb (used pool.ranges) 0 some in
      rw (found ∙ walked by (sparse ss ds out g pool.permanents s d o e) new.on 0 U wide (omega arith) told ∙ sym (lowest_used by pool.ranges) ∙ same, count, used-spanning pool.ranges, none, single)
