-- A whole table, saved and read back.
--   Listed, Lists              pairs that have room in a form, both lists of them
--   lists_back, table_back     the lists, and the table, that a form is read as
-- Assumes nothing.
use Prim.Native.Nat.{ℕ, ◌≤◌, ◌<◌}
use mathlib.Core.Path.{◌≡◌, sym, ap, ◌∙◌}
use mathlib.Core.Bool.{Bool, true, cond}
use mathlib.Core.List.{List, ◌∷◌, ◌++◌}
use native.Mathlib.Omega.{arith}
use lib.ListN.{length, get_or}
use Rattle.pairs.specs.declared.Pairs.{Pairs}
use Rattle.pairs.specs.Pairs.{room, listed, packed}
use Rattle.pairs.proofs.Laws.{listed-packed}
use Rattle.provisioning.specs.Provisioning.{provision}
use Rattle.provisioning.proofs.Accepted.{accepted_lists, ranges_lists}
use Rattle.channels.specs.declared.Pool.{Pool}
use Rattle.service.specs.declared.GlobalState.{GlobalState}
use Rattle.slots.specs.declared.Slots.{Slots}
use Rattle.table.specs.declared.Table.{Table}
use Rattle.fields.specs.Fields.{two, four, eight, field, request_octets}
use Rattle.saved.specs.Form.{joined, call_fields, form_of}
use Rattle.reading.specs.Reading.{eight_at, rest, range_numbers, pair_numbers, list_in, doubts_in, out_in, request_in, slots_in, table_in}
use Rattle.roundtrip.specs.Roundtrip.{Provisioned}
use Rattle.roundtrip.proofs.Numbers.{eight_back}
use Rattle.roundtrip.proofs.Fields.{joined-two, joined-four, rest_back, list_back, doubts_back, out_short, out_back, RequestFits, request_short, request_back}
use Rattle.roundtrip.proofs.Lists.{Whole, ranges-octets, pairs_octets, ranges_whole, pairs_whole}
use Rattle.roundtrip.proofs.Calls.{AllFit, slots_back}

-- a table with these pairs in doubt and out of service, our RESTART, and that pool
abbrev holding : Slots → ℕ → List ℕ → GlobalState → Bool → List ℕ → Pool → Table
holding ss n ds g all ms pool = record {
  slots = ss;
  last = n;
  doubts = packed ds;
  global = record { state = g };
  out = record { all = all; pairs = packed ms };
  pool = pool;
}

-- octets whose seven parts are read so
read_as : (count : ℕ) (rs ps ds ms : List ℕ) (g : GlobalState) (all : Bool) (ss : Slots) (n : ℕ) (f f₁ f₂ f₃ f₄ f₅ f₆ : List ℕ)
    → rest f ≡ f₁ → rest f₁ ≡ f₂ → rest f₂ ≡ f₃ → rest f₃ ≡ f₄ → rest f₄ ≡ f₅ → rest f₅ ≡ f₆
    → list_in 12 f ≡ rs → list_in 16 f₁ ≡ ps → eight_at f₂ 3 ≡ n → doubts_in f₃ ≡ packed ds → out_in f₄ ≡ record { all = all; pairs = packed ms } → request_in f₅ ≡ g
    → slots_in 0 f₆ count ≡ ss.all → table_in count f ≡ holding ss n ds g all ms (provision rs ps).pool
read_as count rs ps ds ms g all ss n f f₁ f₂ f₃ f₄ f₅ f₆ a b c d e x ranges pairs last doubts out request calls =
    rw (a, b, c, d, e, x, ranges, pairs, last, doubts, out, request, calls)

lists_as : {rs ps : List ℕ} (f f₁ : List ℕ) → rest f ≡ f₁ → list_in 12 f ≡ rs → list_in 16 f₁ ≡ ps
    → (provision (range_numbers f) (pair_numbers f)).accepted ≡ (provision rs ps).accepted
lists_as f f₁ a ranges pairs = rw (a, ranges, pairs)

module _ (rs ps : List ℕ) (ok : (provision rs ps).accepted ≡ true) (ss : Slots) (n : ℕ) (ds : List ℕ) (few : length ds ≤ room)
    (g : GlobalState) (all : Bool) (ms : List ℕ) (few-marks : length ms ≤ room) where
  abbrev this : Table
  this = holding ss n ds g all ms (provision rs ps).pool

  abbrev behind_marks : List ℕ
  behind_marks = field 7 (request_octets g) ++ call_fields 0 ss.all

  abbrev behind_doubts : List ℕ
  behind_doubts = field 6 (cond all 1 0 ∷ joined four ms) ++ behind_marks

  abbrev behind_reading : List ℕ
  behind_reading = field 5 (joined four ds) ++ behind_doubts

  abbrev behind_pairs : List ℕ
  behind_pairs = field 3 (eight n) ++ behind_reading

  abbrev behind_ranges : List ℕ
  behind_ranges = field 2 (joined two ps) ++ behind_pairs

  ranges_kept : Whole 3 4 rs
  ranges_kept = ranges_whole rs (accepted_lists rs ps ok).0

  pairs_kept_lem : Whole 2 8 ps
  pairs_kept_lem = pairs_whole ps (accepted_lists rs ps ok).1

  -- the form, by the numbers of start's lists
  form_numbers : form_of this ≡ field 1 (joined two rs) ++ behind_ranges
  form_numbers =
      let a = accepted_lists rs ps ok in
      let l = ranges_lists rs a.0 in
      rw (
        a.2,
        ranges-octets rs 4 ranges_kept.whole ranges_kept.few (λ k h. (l.each k h).order),
        pairs_octets ps 8 pairs_kept_lem.whole pairs_kept_lem.few,
        listed-packed ds,
        listed-packed ms,
      )

  short : (s : List ℕ) → length s ≤ 16 → length (joined two s) < 65536
  short s h = rw (joined-two s) (omega arith)

  ranges-short : length rs ≤ 12
  ranges-short = omega (arith, ranges_kept.whole, ranges_kept.few)

  pairs_short : length ps ≤ 16
  pairs_short = omega (arith, pairs_kept_lem.whole, pairs_kept_lem.few)

  doubts_short : length (joined four ds) < 65536
  doubts_short = rw (joined-four ds) (omega arith)

  module _ (count : ℕ) (small : n < 18446744073709551616) (each : (k : ℕ) → get_or ds k 0 < 4294967296) (each-mark : (k : ℕ) → get_or ms k 0 < 4294967296)
      (fits : RequestFits g) (slots : length ss.all ≡ count) (fit : AllFit ss.all) where
    held_back : table_in count (form_of this) ≡ this
    held_back =
        let first = rest_back 1 (joined two rs) behind_ranges (short rs (omega (arith, ranges-short))) in
        let second = rest_back 2 (joined two ps) behind_pairs (short ps (omega (arith, pairs_short))) in
        let third = rest_back 3 (eight n) behind_reading (omega arith) in
        let fourth = rest_back 5 (joined four ds) behind_doubts doubts_short in
        let fifth = rest_back 6 (cond all 1 0 ∷ joined four ms) behind_marks (out_short all ms few-marks) in
        let sixth = rest_back 7 (request_octets g) (call_fields 0 ss.all) (request_short g) in
        let ranges = list_back 12 1 rs behind_ranges ranges_kept.small ranges-short (omega arith) in
        let pairs = list_back 16 2 ps behind_pairs pairs_kept_lem.small pairs_short (omega arith) in
        let doubts = doubts_back 5 ds behind_doubts each few in
        let out = out_back 6 all ms behind_marks each-mark few-marks in
        let request = request_back 7 g (call_fields 0 ss.all) fits in
        let calls : slots_in 0 (call_fields 0 ss.all) count ≡ ss.all = rw slots at (slots_back 0 ss.all fit) in
        ap (table_in count) form_numbers
        ∙ read_as count rs ps ds ms g all ss n (field 1 (joined two rs) ++ behind_ranges) behind_ranges behind_pairs behind_reading behind_doubts behind_marks
        (call_fields 0 ss.all) first second third fourth fifth sixth ranges pairs (eight_back n small) doubts out request calls

  -- the lists are read back, so start accepts them
  held_lists : (provision (range_numbers (form_of this)) (pair_numbers (form_of this))).accepted ≡ true
  held_lists =
      let first = rest_back 1 (joined two rs) behind_ranges (short rs (omega (arith, ranges-short))) in
      let ranges = list_back 12 1 rs behind_ranges ranges_kept.small ranges-short (omega arith) in
      let pairs = list_back 16 2 ps behind_pairs pairs_kept_lem.small pairs_short (omega arith) in
      ap (λ (f : List ℕ). (provision (range_numbers f) (pair_numbers f)).accepted) form_numbers
      ∙ lists_as (field 1 (joined two rs) ++ behind_ranges) behind_ranges first ranges pairs
      ∙ ok

-- pairs, in doubt or out of service: there is room for them, and each has room in four octets
pub record Listed (ps : Pairs) : Type 0 where
  pub few : length (listed ps) ≤ room
  pub small : (k : ℕ) → get_or (listed ps) k 0 < 4294967296
  pub zeros : ps ≡ packed (listed ps)

-- both lists
pub record Lists (t : Table) : Type 0 where
  pub doubts : Listed t.doubts
  pub marks : Listed t.out.pairs

module _ (t : Table) (made : Provisioned t) (l : Lists t) where
  abbrev held : Table
  held = holding t.slots t.last (listed t.doubts) t.global.state t.out.all (listed t.out.pairs) (provision made.ranges made.pairs).pool

  as_held : t ≡ held
  as_held = λ i. record {
    slots = t.slots;
    last = t.last;
    doubts = l.doubts.zeros i;
    global = t.global;
    out = record { all = t.out.all; pairs = l.marks.zeros i };
    pool = made.pool i;
  }

  pub lists_back : (provision (range_numbers (form_of t)) (pair_numbers (form_of t))).accepted ≡ true
  lists_back =
      ap (λ (u : Table). (provision (range_numbers (form_of u)) (pair_numbers (form_of u))).accepted) as_held
      ∙ held_lists made.ranges made.pairs made.accepted t.slots t.last (listed t.doubts) l.doubts.few t.global.state t.out.all
      (listed t.out.pairs) l.marks.few

  pub table_back : (count : ℕ) → t.last < 18446744073709551616 → RequestFits t.global.state → length t.slots.all ≡ count → AllFit t.slots.all
      → table_in count (form_of t) ≡ t
  table_back count small fits slots fit =
      ap (λ (u : Table). table_in count (form_of u)) as_held
      ∙ held_back made.ranges made.pairs made.accepted t.slots t.last (listed t.doubts) l.doubts.few t.global.state t.out.all
      (listed t.out.pairs) l.marks.few count small l.doubts.small l.marks.small fits slots fit
      ∙ sym as_held
