-- Every table that a reload gives is sound.
--   slots_counted            a form is read as so many slots
--   Kept, call_kept_lem, kept_call     a call of a table whose slots are all kept
--   kept_state               its state with its deadline, cause and side
--   PairKept, kept_pair, pairs_read     a pair in doubt or out of service; the pairs that are read
--   kept_global, all_kept_lem    our RESTART; where all pairs are out of service
--   TableKept, kept_sound    all of it
--   form_sound               a table that a form is read as
--   reload_in_lem, reload_sound  a reload that is accepted
-- Over the number of slots. Assumes nothing.
use Rattle.std.specs.Prelude.{Option, Some, None}
use Prim.Native.Nat.{ℕ, zero, suc, ◌+◌, ◌/◌, ◌%◌, ◌≤◌}
use mathlib.Core.Path.{◌≡◌, refl, sym, ap, ◌∙◌}
use mathlib.Core.Logic.{◌≢◌}
use mathlib.Core.Bool.{Bool, true, false, cond, not, ◌&&◌}
use mathlib.Core.List.{List, [], ◌∷◌}
use native.Mathlib.Omega.{arith}
use lib.Dec.{eqb, leb, ltb}
use lib.ListN.{length, drop}
use borrow.Author.Tests.{eqb-true, eqb-false, leb-true, ltb-false, not-true, not-false}
use Rattle.octets.proofs.Equal.{equal_same}
use Rattle.traffic.specs.Traffic.{member}
use Rattle.std.specs.List.{list_any}
use Rattle.channels.specs.declared.Named.TheVariants.{All, One}
use Rattle.channels.specs.declared.Pool.{Pool}
use Rattle.channels.specs.Channels.{permitted, in_ranges}
use Rattle.channels.proofs.Cases.{by_test, clash, both}
use Rattle.channels.proofs.Some.{some_at}
use Rattle.pairs.specs.declared.Pairs.{Pairs}
use Rattle.pairs.specs.Pairs.{room, is_number, listed, in_pairs, ascending, Tidy}
use Rattle.pairs.proofs.Laws.{listed-packed, tidy_packed}
use Rattle.provisioning.specs.Provisioning.{all_below, provision}
use Rattle.provisioning.proofs.Below.{below_at}
use Rattle.provisioning.proofs.Accepted.{provision_pair}
use Rattle.calls.specs.declared.Clearing.{Clearing}
use Rattle.calls.specs.declared.State.{State}
use Rattle.calls.specs.declared.State.TheVariants.{N3, N6, N9, N10, N12}
use Rattle.calls.specs.declared.Call.{Call}
use Rattle.calls.specs.Calls.{no_slot, is_live, is_call, holds_pair}
use Rattle.calls.specs.Timers.{largest_reading, t303, t308, t310}
use Rattle.first.specs.First.{place}
use Rattle.slots.specs.Slots.{slot_count}
use Rattle.service.specs.declared.GlobalState.{GlobalState}
use Rattle.service.specs.declared.GlobalState.TheVariants.{Null, RestartRequest}
use Rattle.service.specs.Service.{t316}
use Rattle.table.specs.declared.Table.{Table}
use Rattle.refusals.specs.Refusals.{host_causes}
use Rattle.rules.specs.Rules.{cause_kept, state_kept, is_at, call_kept, slot_kept, is_lost, pairs_kept, doubts_kept, all_kept, marks_kept, wait_kept, request_kept, table_kept}
use Rattle.saved.specs.Form.{form_of}
use Rattle.reading.specs.Reading.{two_at, rest, least, range_numbers, pair_numbers, fours_in, pairs_in, behind_slot, slots_in, table_in}
use Rattle.reload.specs.Reload.{is_form, reload_in, reload_of}
use Rattle.search.proofs.Free.{neither}
use Rattle.views.specs.Tables.{HasSlots, HasCall, Holds, InDoubt}
use Rattle.safety.specs.Sound.{StateSound, in_N3, in_N6, in_N9, in_N10, by_host, by_timer, GlobalSound, none_sent, one_sent, all_sent, Sound}
use Rattle.safety.proofs.Cases.{either, one_place}
use Rattle.safety.proofs.Tables.{live_within, held_some}

pub slots_counted : (slot n : ℕ) (f : List ℕ) → length (slots_in slot f n) ≡ n
unfolding slots_in
slots_counted slot zero f = refl
slots_counted slot (suc n) f = ap suc (slots_counted (slot + 1) n (behind_slot slot f))

-- what a kept call has
pub record Kept (t : Table) (i : ℕ) (c : Call) (q : State) : Type 0 where
  pub not_global : c.reference ≢ 0
  pub first_on_pair : place (holds_pair c.pair.vpci c.pair.vci) t.slots.all ≡ Some i
  pub first-named : place (is_call c.network c.reference) t.slots.all ≡ Some i
  pub permits : permitted t.pool c.pair.vpci c.pair.vci ≡ true
  pub state : state_kept t.last c.network q ≡ true

is_at_lem : (i : ℕ) (x : Option ℕ) → is_at i x ≡ true → x ≡ Some i
is_at_lem i None e = clash e refl
is_at_lem i (Some j) e = ap Some (eqb-true j i e)

pub call_kept_lem : (t : Table) (i : ℕ) (c : Call) (q : State) → call_kept t i c q ≡ true → Kept t i c q
call_kept_lem t i c q e =
    let a = both (not (eqb c.reference 0)) _ e in
    let b = both (is_at i (place (holds_pair c.pair.vpci c.pair.vci) t.slots.all)) _ a.1 in
    let d = both (is_at i (place (is_call c.network c.reference) t.slots.all)) _ b.1 in
    let f = both (permitted t.pool c.pair.vpci c.pair.vci) _ d.1 in
    record {
      not_global = eqb-false c.reference 0 (not-true (eqb c.reference 0) a.0);
      first_on_pair = is_at_lem i _ b.0;
      first-named = is_at_lem i _ d.0;
      permits = f.0;
      state = f.1;
    }

kept_call : (count : ℕ) (t : Table) (i : ℕ) (c : Call) (q : State) → length t.slots.all ≡ count → all_below (slot_kept t) count ≡ true → HasCall t i c q → Kept t i c q
kept_call count t i c q size e h =
    let here = below_at (slot_kept t) count i e (omega (arith, live_within t i c q h, size)) in
    call_kept_lem t i c q (rw h at here)

-- "a state, timer, side or cause"
kept_cause : (last : ℕ) (network : Bool) (k : Clearing) (d : ℕ) (x : Bool) → k.expired ≡ x → d ≤ last + t308
    → cond x (network && eqb k.cause 102) (member k.cause host_causes) ≡ true → StateSound last network (N12 k d)
kept_cause last true k d true x below e = by_timer k d below (eqb-true k.cause 102 e) x
kept_cause last false k d true x below e = clash e refl
kept_cause last true k d false x below e = by_host true k d below e x
kept_cause last false k d false x below e = by_host false k d below e x

pub kept_state : (last : ℕ) (network : Bool) (q : State) → state_kept last network q ≡ true → StateSound last network q
kept_state last true N3 e = clash e refl
kept_state last false N3 e = in_N3
kept_state last true (N6 d) e = in_N6 d (leb-true d (last + t303) e)
kept_state last false (N6 d) e = clash e refl
kept_state last true (N9 d) e = in_N9 d (leb-true d (last + t310) e)
kept_state last false (N9 d) e = clash e refl
kept_state last true N10 e = in_N10 true
kept_state last false N10 e = in_N10 false
kept_state last true (N12 k d) e =
    let a = both (leb d (last + t308)) (cause_kept true k) e in
    kept_cause last true k d k.expired refl (leb-true _ _ a.0) a.1
kept_state last false (N12 k d) e =
    let a = both (leb d (last + t308)) (cause_kept false k) e in
    kept_cause last false k d k.expired refl (leb-true _ _ a.0) a.1

-- a pair in doubt, or out of service by a mark of its own, that is kept: it is not in the other list
pub record PairKept (t : Table) (others : Pairs) (p v : ℕ) : Type 0 where
  pub permits : permitted t.pool p v ≡ true
  pub not_held : list_any (holds_pair p v) t.slots.all ≡ false
  pub one_way : in_pairs others p v ≡ false

kept_number : (t : Table) (others : Pairs) (n : ℕ) → is_lost t others n ≡ false → PairKept t others (n / 65536) (n % 65536)
kept_number t others n e =
    let a = neither (not (permitted t.pool (n / 65536) (n % 65536))) _ e in
    let b = neither (list_any (holds_pair (n / 65536) (n % 65536)) t.slots.all) (in_pairs others (n / 65536) (n % 65536)) a.1 in
    record { permits = not-false (permitted t.pool (n / 65536) (n % 65536)) a.0; not_held = b.0; one_way = b.1 }

kept_pair : (t : Table) (others : Pairs) (p v : ℕ) (ns : List ℕ) → list_any (is_lost t others) ns ≡ false → list_any (is_number p v) ns ≡ true → PairKept t others p v
kept_pair t others p v [] e h = clash h refl
kept_pair t others p v (n ∷ ns) e h =
    let a = neither (is_lost t others n) (list_any (is_lost t others) ns) e in
    by_test (is_number p v n)
    (λ y.
    let same = both (eqb (n / 65536) p) (eqb (n % 65536) v) y in
    rw (← eqb-true (n / 65536) p same.0, ← eqb-true (n % 65536) v same.1) (kept_number t others n a.0))
    (λ z. kept_pair t others p v ns a.1 (rw z at h))

-- our RESTART that is kept
kept_global : (last : ℕ) (pool : Pool) (g : GlobalState) → wait_kept last pool g ≡ true → GlobalSound last pool g
kept_global last pool Null e = none_sent
kept_global last pool (RestartRequest All second d) e = all_sent second d (leb-true d (last + t316) (both (leb d (last + t316)) true e).0)
kept_global last pool (RestartRequest (One pv) second d) e =
    let a = both (leb d (last + t316)) (permitted pool pv.vpci pv.vci) e in
    one_sent pv.vpci pv.vci second d a.1 (leb-true d (last + t316) a.0)

-- where all pairs are out of service
all_kept_lem : (t : Table) → all_kept t ≡ true → t.out.all ≡ true → (t.doubts.count ≡ 0) × (list_any is_live t.slots.all ≡ false)
all_kept_lem t e y =
    let a = both (eqb t.doubts.count 0) (not (list_any is_live t.slots.all)) (rw y at e) in
    (eqb-true t.doubts.count 0 a.0, not-true (list_any is_live t.slots.all) a.1)

none_live : (t : Table) → list_any is_live t.slots.all ≡ false → (p v : ℕ) → Holds t p v → ⊥
none_live t none p v h =
    clash (some_at is_live no_slot t.slots.all h.slot (live_within t h.slot h.call h.state h.live) (rw h.live)) none

-- what is kept of a table
pub record TableKept (t : Table) : Type 0 where
  pub doubts_tidy : Tidy t.doubts
  pub doubts : list_any (is_lost t t.out.pairs) (listed t.doubts) ≡ false
  pub marks_tidy : Tidy t.out.pairs
  pub marks : list_any (is_lost t t.doubts) (listed t.out.pairs) ≡ false
  pub all : all_kept t ≡ true
  pub request : request_kept t ≡ true
  pub calls : (i : ℕ) (c : Call) (q : State) → HasCall t i c q → Kept t i c q

-- a table whose pool is start's and that is kept
kept_sound : (t : Table) (rs ps : List ℕ) → HasSlots t → t.last ≤ largest_reading → t.pool ≡ (provision rs ps).pool → TableKept t → Sound t
kept_sound t rs ps size high pool k = record {
  has_slots = size;
  last_high = high;
  numbers = numbers;
  calls_sound = λ i c q h.
      let call = k.calls i c q h in
      let n = numbers c.pair.vpci c.pair.vci call.permits in
      record {
        pair_permitted = call.permits;
        vpci_high = n.0;
        vci_low = n.1;
        vci_high = n.2;
        not_global = call.not_global;
        state_sound = kept_state t.last c.network q call.state;
      };
  pair_once = λ i j c d q r h g p v. one_place i j (sym (k.calls i c q h).first_on_pair ∙ rw (p, v) (k.calls j d r g).first_on_pair);
  reference_once = λ i j c d q r h g p v. one_place i j (sym (k.calls i c q h).first-named ∙ rw (p, v) (k.calls j d r g).first-named);
  doubts_tidy = k.doubts_tidy;
  doubt_permitted = λ p v d. (doubtful p v d).permits;
  doubt_not_held = λ p v d h. clash (held_some t p v h) (doubtful p v d).not_held;
  marks_tidy = k.marks_tidy;
  mark_permitted = λ p v m. (marked p v m).permits;
  out_not_held = λ p v o h.
      either t.out.all (in_pairs t.out.pairs p v) o
      (λ y. none_live t (all_kept_lem t k.all y).1 p v h)
      (λ m. clash (held_some t p v h) (marked p v m).not_held);
  out_not_doubtful = λ p v o d.
      either t.out.all (in_pairs t.out.pairs p v) o
      (λ y. clash d (rw (all_kept_lem t k.all y).0))
      (λ m. clash d (marked p v m).one_way);
  global_sound = kept_global t.last t.pool t.global.state k.request;
}
  where
    doubtful : (p v : ℕ) → InDoubt t p v → PairKept t t.out.pairs p v
    doubtful p v d = kept_pair t t.out.pairs p v (listed t.doubts) k.doubts d

    marked : (p v : ℕ) → in_pairs t.out.pairs p v ≡ true → PairKept t t.doubts p v
    marked p v m = kept_pair t t.doubts p v (listed t.out.pairs) k.marks m

    numbers : (p v : ℕ) → permitted t.pool p v ≡ true → (p ≤ 255) × (32 ≤ v) × (v ≤ 65535)
    numbers p v h =
        let k = provision_pair rs ps p v (both (in_ranges p v (provision rs ps).pool.ranges) _ (rw pool at h)).0 in
        (k.vpci_high, k.low, k.high)

-- the pairs that a form is read as are tidy where they ascend
fours_length : (f : List ℕ) (n : ℕ) → length (fours_in f n) ≡ n
fours_length f zero = refl
fours_length f (suc n) = ap suc (fours_length (drop 4 f) n)

least_most : (a b : ℕ) → least a b ≤ a
least_most a b = by_test (ltb a b) (λ y. rw y (omega arith)) (λ z. rw z (omega (arith, ltb-false a b z)))

pairs_read : (from : ℕ) (f : List ℕ) → ascending (listed (pairs_in from f)) ≡ true → Tidy (pairs_in from f)
pairs_read from f a =
    let n = least room (two_at f 1 / 4) in
    let ns = fours_in (drop from f) n in
    tidy_packed ns (omega (arith, fours_length (drop from f) n, least_most room (two_at f 1 / 4))) (rw (listed-packed ns) at a)

-- what octets have that are a form
pub record Form (count : ℕ) (f : List ℕ) : Type 0 where
  pub accepted : (provision (range_numbers f) (pair_numbers f)).accepted ≡ true
  pub reading : (table_in count f).last ≤ largest_reading
  pub kept : table_kept count (table_in count f) ≡ true
  pub same : form_of (table_in count f) ≡ f

pub form_is : (count : ℕ) (f : List ℕ) → is_form count f ≡ true → Form count f
form_is count f e =
    let a = both (provision (range_numbers f) (pair_numbers f)).accepted _ e in
    let b = both (leb (table_in count f).last largest_reading) _ a.1 in
    let c = both (table_kept count (table_in count f)) _ b.1 in
    record { accepted = a.0; reading = leb-true _ _ b.0; kept = c.0; same = equal_same _ _ c.1 }

form_sound : (count : ℕ) (f : List ℕ) → count ≡ slot_count → Form count f → Sound (table_in count f)
form_sound count f ours form =
    let t = table_in count f in
    let size : length t.slots.all ≡ count = slots_counted 0 count (rest (rest (rest (rest (rest (rest f)))))) in
    let a = both (doubts_kept t) _ form.kept in
    let b = both (marks_kept t) _ a.1 in
    let c = both (request_kept t) (all_below (slot_kept t) count) b.1 in
    let doubts = both (ascending (listed t.doubts)) (not (list_any (is_lost t t.out.pairs) (listed t.doubts))) a.0 in
    let out = both (pairs_kept t t.doubts t.out.pairs) (all_kept t) b.0 in
    let marks = both (ascending (listed t.out.pairs)) (not (list_any (is_lost t t.doubts) (listed t.out.pairs))) out.0 in
    kept_sound t (range_numbers f) (pair_numbers f) (size ∙ ours) form.reading refl
    (record {
      doubts_tidy = pairs_read 3 (rest (rest (rest f))) doubts.0;
      doubts = not-true _ doubts.1;
      marks_tidy = pairs_read 4 (rest (rest (rest (rest f)))) marks.0;
      marks = not-true _ marks.1;
      all = out.1;
      request = c.0;
      calls = λ i c' q h. kept_call count t i c' q size c.1 h;
    })

-- a reload that is accepted
pub reload_in_lem : (count : ℕ) (f : List ℕ) → (reload_in count f).refusal ≡ 0 → (Form count f) × ((reload_in count f).table ≡ table_in count f)
reload_in_lem count f e =
    by_test (is_form count f)
    (λ y. (form_is count f y, rw y))
    (λ n. let z : ◌≡◌ {A = ℕ} 9 0 = rw n at e in absurd (omega arith))

sound_in : (count : ℕ) (f : List ℕ) → count ≡ slot_count → (reload_in count f).refusal ≡ 0 → Sound (reload_in count f).table
sound_in count f ours e = let r = reload_in_lem count f e in rw r.1 (form_sound count f ours r.0)

pub reload_sound : (f : List ℕ) → (reload_of f).refusal ≡ 0 → Sound (reload_of f).table
reload_sound f e = sound_in slot_count f refl e
