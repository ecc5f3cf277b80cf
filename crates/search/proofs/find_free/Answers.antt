-- `find_free`: what was read is what there is, and the walk finds the lowest pair that is free.
use Rattle.std.proofs.Common.{take, ◌≡◌, ℕ, ◌<◌, length, refl, sym, ◌∙◌, arith, rules}
use Rattle.std.specs.Prelude.{Option}
use Rattle.identifier.specs.declared.Pair.{Pair}
use Rattle.channels.specs.Channels.{permanent_count}
use Rattle.pairs.specs.Pairs.{room}
use Rattle.calls.specs.Calls.{is_live}
use Rattle.service.specs.Service.{one_pair}
use Rattle.slots.specs.Slots.{slot_count}
use Rattle.search.specs.Search.{has_pair, searched}
use Rattle.search.specs.Marks.{range_at, width, lowest_in}
use Rattle.search.specs.declared.Finding.{Finding}
use Rattle.search.proofs.Marked.{read_then}
use Rattle.search.proofs.Pass.{many_few}
use Rattle.search.proofs.Together.{together, there_most, listed_few}
use Rattle.search.proofs.Walked.{row_passed, row_met, rows_passed, unused_answer, all_answer, answer}
use Rattle.search.proofs.find_free.Goals.{At-search, then-ranges-eq0-via-then-ranges-eq0, then-ranges-eq0-via-else-ranges-eq0+then-is_all_taken}
use Rattle.search.proofs.find_free.Goals as goal

pub returns-then-ranges-eq0 : goal.returns-then-ranges-eq0
returns-then-ranges-eq0 c =
    let a = c.args in
    elim c.then-ranges-eq0.branch [
      | then-ranges-eq0-via-then-ranges-eq0 w ↦ unused_answer a.slots.all a.doubts a.out a.state a.pool (sym c.ranges_used.ensures.value ∙ w.if-ranges-eq0.true)
      | then-ranges-eq0-via-else-ranges-eq0+then-is_all_taken w ↦
          all_answer a.slots.all a.doubts a.out a.state a.pool (sym w.is_all_taken.ensures ∙ w.if-is_all_taken.true)
    ]

pub read_permanents-requires : goal.read_permanents-requires
read_permanents-requires c =
    let a = c.args in
    let held = many_few is_live a.slots.all slot_count (search rules) in
    let n0 = c.read_slots.ensures.count in
    omega arith

pub read_request-requires : goal.read_request-requires
read_request-requires c =
    let a = c.args in
    let held = many_few is_live a.slots.all slot_count (search rules) in
    let n0 = c.read_slots.ensures.count in
    let kept = many_few has_pair a.pool.permanents permanent_count (search rules) in
    let n1 = c.read_permanents.ensures.count in
    omega arith

pub read_listed-requires : goal.read_listed-requires
read_listed-requires c =
    let a = c.args in
    let held = many_few is_live a.slots.all slot_count (search rules) in
    let n0 = c.read_slots.ensures.count in
    let kept = many_few has_pair a.pool.permanents permanent_count (search rules) in
    let n1 = c.read_permanents.ensures.count in
    let one = there_most (one_pair a.state) in
    let n2 = c.read_request.ensures.count in
    (rw c.listed.ensures (listed_few a.doubts (search rules)), omega arith)

pub read_listed-requires-2 : goal.read_listed-requires-2
read_listed-requires-2 c =
    let a = c.args in
    let held = many_few is_live a.slots.all slot_count (search rules) in
    let n0 = c.read_slots.ensures.count in
    let kept = many_few has_pair a.pool.permanents permanent_count (search rules) in
    let n1 = c.read_permanents.ensures.count in
    let one = there_most (one_pair a.state) in
    let n2 = c.read_request.ensures.count in
    let doubts = rw (sym c.listed.ensures) at (listed_few a.doubts (search rules)) in
    let n3 = c.read_listed.ensures.count in
    (rw c.listed-2.ensures (listed_few a.out.pairs (search rules)), omega arith)

-- where the walk finds the lowest pair without a mark, the answer is the one that is promised
found : (c : At-search) {x : Option Pair} → x ≡ lowest_in c.read_listed-2.new.self.on 0 (take c.ranges_used.result c.args.pool.ranges)
    → ◌≡◌ {A = Finding} (record { found = x; reads = c.read_listed-2.new.self.reads }) (searched c.args.slots.all c.args.doubts c.args.out c.args.state c.args.pool)
found c is =
    let a = c.args in
    let rs = take c.ranges_used.result a.pool.ranges in
    let ds : length a.doubts.numbers ≡ room = search rules in
    let os : length a.out.pairs.numbers ≡ room = search rules in
    let doubts = rw c.listed.ensures at c.read_listed.ensures in
    let out = rw c.listed-2.ensures at c.read_listed-2.ensures in
    let all = read_then rs (read_then rs (read_then rs (read_then rs c.read_slots.ensures c.read_permanents.ensures) c.read_request.ensures) doubts) out in
    answer a.slots.all a.doubts a.out a.state a.pool (search rules) ds os (search rules) (search rules)
    (sym c.is_all_taken.ensures ∙ c.if-is_all_taken.false)
    (λ z. c.if-ranges-eq0.false (c.ranges_used.ensures.value ∙ z))
    {new = c.read_listed-2.new.self} refl
    (rw c.ranges_used.ensures.value at (together a.slots.all a.doubts a.out a.state a.pool.permanents rs ds os all))
    (rw c.ranges_used.ensures.value at is)

pub search-preserved : goal.search-preserved
search-preserved c =
    let rs = take c.ranges_used.result c.args.pool.ranges in
    let set = λ (u : ℕ) (h : u < width (range_at rs c.search.k)). c.loop-offset.invariant.1 u (omega (arith, c.width-offset-end.ensures.value)) in
    (c.loop-offset.invariant.0, c.search.invariant.1 ∙ row_passed c.read_listed-2.new.self.on c.search.k rs (search rules) (search rules) (omega arith) set)

pub returns-after-search : goal.returns-after-search
returns-after-search c =
    let rs = take c.ranges_used.result c.args.pool.ranges in
    let none = rows_passed c.read_listed-2.new.self.on c.search.k rs (omega arith) in
    found (goal.at.returns-after-search c).At-search (c.search.invariant.0 ∙ sym (c.search.invariant.1 ∙ none))

pub returns-then-not-marks-k : goal.returns-then-not-marks-k
returns-then-not-marks-k c =
    let rs = take c.ranges_used.result c.args.pool.ranges in
    let some = row_met c.read_listed-2.new.self.on c.search.k rs (search rules) (search rules) (omega arith) c.loop-offset.offset (omega (arith, c.width-offset-end.ensures.value)) c.loop-offset.invariant.1 c.if-not-marks-k.true in
    found (goal.at.returns-then-not-marks-k c).At-search (sym (c.search.invariant.1 ∙ some))
