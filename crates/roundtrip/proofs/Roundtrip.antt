-- What is so of saving and reloading, proved.
--   sound_fits            the calls of a savable table have room in their fields
--   taken_each            each savable table's form is taken as that table
--   reached_provisioned   the pool of every reached table is start's
--   saved_and_reloaded
-- Assumes nothing.
use Prim.Native.Nat.{ℕ, suc, ◌≤◌, ◌<◌}
use mathlib.Core.Path.{◌≡◌, refl, sym, ap, ◌∙◌}
use mathlib.Core.Logic.{◌⊎◌, inl, inr}
use mathlib.Core.Bool.{Bool, true, false, not, or-true}
use mathlib.Core.List.{List, [], ◌∷◌}
use native.Mathlib.Omega.{arith}
use lib.Dec.{eqb}
use lib.ListN.{length, get_or}
use borrow.Author.Tests.{eqb-true, eqb-false, eq-eqb, le-leb, lt-ltb, le-ltb}
use Rattle.octets.specs.Octets.{equal}
use Rattle.octets.proofs.Equal.{same_equal}
use Rattle.traffic.specs.Traffic.{member}
use Rattle.replies.specs.Reply.{reply_room}
use Rattle.std.specs.List.{list_any}
use Rattle.channels.specs.Channels.{permitted}
use Rattle.channels.specs.declared.Pool.{Pool}
use Rattle.channels.proofs.Cases.{by_test, clash}
use Rattle.channels.proofs.Some.{some_none}
use Rattle.pairs.specs.Pairs.{in_pairs}
use Rattle.pairs.proofs.Laws.{tidy_listed}
use Rattle.provisioning.specs.Provisioning.{provision}
use Rattle.calls.specs.declared.State.{State}
use Rattle.calls.specs.declared.Hold.{Hold}
use Rattle.calls.specs.declared.Hold.TheVariants.{Empty, Live}
use Rattle.calls.specs.declared.Slot.{Slot}
use Rattle.calls.specs.Calls.{no_slot, empty_hold, is_live, holds_pair}
use Rattle.calls.specs.Timers.{largest_reading}
use Rattle.service.specs.declared.GlobalState.{GlobalState}
use Rattle.slots.specs.Slots.{slot_count}
use Rattle.table.specs.declared.Table.{Table}
use Rattle.outcome.specs.declared.Started.{Started}
use Rattle.refusals.specs.Refusals.{host_causes}
use Rattle.control.specs.Events.{start_of}
use Rattle.control.specs.Happens.{Event, happens, after}
use Rattle.saved.specs.Form.{form_of}
use Rattle.reading.specs.Reading.{range_numbers, pair_numbers, table_in}
use Rattle.rules.specs.Rules.{doubts_kept, marks_kept, wait_kept, request_kept, table_kept}
use Rattle.reload.specs.Reload.{is_form, reload_in, reload_of}
use Rattle.reload.proofs.Answered.{all_pass}
use Rattle.reached.specs.Reached.{Beginning, start, reload, begun, Reached}
use Rattle.views.specs.Tables.{slot_at, Holds, InDoubt, IsOut}
use Rattle.views.specs.Effects.{label_of, reading_of, room_of}
use Rattle.safety.specs.Sound.{StateSound, in_N3, in_N6, in_N9, in_N10, by_host, by_timer, GlobalSound, none_sent, one_sent, all_sent, Sound, ReferencesFit}
use Rattle.safety.proofs.FixedAnswers.{number}
use Rattle.safety.proofs.FixedStart.{start_accepts}
use Rattle.safety.proofs.Tables.{some_held}
use Rattle.safety.proofs.Slips.{pool_stays}
use Rattle.safety.proofs.Sound.{reached_sound}
use Rattle.safety.proofs.References.{form_fits, reached_fits}
use Rattle.safety.proofs.Reloaded.{reload_in_lem, reload_sound}
use Rattle.roundtrip.specs.Roundtrip.{Provisioned, Savable, taken, SavedAndReloaded}
use Rattle.roundtrip.proofs.Fields.{RequestFits}
use Rattle.roundtrip.proofs.Calls.{StateFits, HoldFits, AllFit}
use Rattle.roundtrip.proofs.Tables.{Lists, lists_back, table_back}
use Rattle.roundtrip.proofs.Doubtful.{number_in, pairs_fit, pairs_kept_lem}
use Rattle.roundtrip.proofs.Kept.{sound_kept}

-- Room in the fields.

-- 102 is no cause of the host
host_not_102 : (cause : ℕ) → member cause host_causes ≡ true → eqb cause 102 ≡ false
host_not_102 cause h =
    by_test (eqb cause 102) (λ y. let host : member 102 host_causes ≡ true = rw (eqb-true cause 102 y) at h in clash host refl) (λ n. n)

state_fits : (last : ℕ) (network : Bool) (q : State) → last ≤ largest_reading → StateSound last network q → StateFits q
state_fits last network q small in_N3 = tt
state_fits last network q small (in_N6 d h) = omega arith
state_fits last network q small (in_N9 d h) = omega arith
state_fits last network q small (in_N10 n) = tt
state_fits last network q small (by_host n k d h cause x) = (omega arith, x ∙ sym (host_not_102 k.cause cause))
state_fits last network q small (by_timer k d h cause x) = (omega arith, x ∙ sym (eq-eqb k.cause 102 cause))

module _ (t : Table) (s : Sound t) (f : ReferencesFit t) where
  hold_fits : (i : ℕ) (x : Hold) → (slot_at t i).hold ≡ x → HoldFits x
  hold_fits i Empty h = tt
  hold_fits i (Live c q) h =
      let k = s.calls_sound i c q h in
      record {
        vpci = omega (arith, k.vpci_high);
        vci = omega (arith, k.vci_high);
        reference = f i c q h;
        state = state_fits t.last c.network q s.last_high k.state_sound;
      }

all_fit : (ss : List Slot) → ((i : ℕ) → HoldFits (get_or ss i no_slot).hold) → AllFit ss
all_fit [] h = tt
all_fit (s ∷ ss) h = (h 0, all_fit ss (λ i. h (suc i)))

pub sound_fits : (t : Table) → Sound t → ReferencesFit t → AllFit t.slots.all
sound_fits t s f = all_fit t.slots.all (λ i. hold_fits t s f i (slot_at t i).hold refl)

-- The lists of a sound table, and our RESTART.

module _ (t : Table) (s : Sound t) where
  in_doubt_fits : (p v : ℕ) → InDoubt t p v → p < 65536
  in_doubt_fits p v h = let n = s.numbers p v (s.doubt_permitted p v h) in omega (arith, n.0)

  marked-fits : (p v : ℕ) → in_pairs t.out.pairs p v ≡ true → p < 65536
  marked-fits p v h = let n = s.numbers p v (s.mark_permitted p v h) in omega (arith, n.0)

  sound_lists : Lists t
  sound_lists = record {
    doubts = pairs_fit t.doubts s.doubts_tidy in_doubt_fits;
    marks = pairs_fit t.out.pairs s.marks_tidy marked-fits;
  }

  held_not : (p v : ℕ) → (Holds t p v → ⊥) → list_any (holds_pair p v) t.slots.all ≡ false
  held_not p v not_held = by_test (list_any (holds_pair p v) t.slots.all) (λ y. absurd (not_held (some_held t p v y))) (λ n. n)

  out_by_mark : (p v : ℕ) → in_pairs t.out.pairs p v ≡ true → IsOut t p v
  out_by_mark p v h = rw h (or-true t.out.all)

  sound_doubts_kept : doubts_kept t ≡ true
  sound_doubts_kept = pairs_kept_lem t t.out.pairs t.doubts s.doubts_tidy (λ p v h. record {
    allowed = s.doubt_permitted p v h;
    unheld = held_not p v (s.doubt_not_held p v h);
    elsewhere = by_test (in_pairs t.out.pairs p v) (λ y. absurd (s.out_not_doubtful p v (out_by_mark p v y) h)) (λ n. n);
  })

  no_doubt : t.out.all ≡ true → t.doubts.count ≡ 0
  no_doubt all =
      by_test (eqb t.doubts.count 0)
      (λ y. eqb-true t.doubts.count 0 y)
      (λ n.
      let some = eqb-false t.doubts.count 0 n in
      let long = tidy_listed t.doubts s.doubts_tidy in
      let first = number_in t.doubts 0 (omega (arith, long, some)) in
      absurd (s.out_not_doubtful _ _ (rw all) first))

  no_call : t.out.all ≡ true → list_any is_live t.slots.all ≡ false
  no_call all =
      some_none is_live no_slot t.slots.all (λ i h. empty i (slot_at t i).hold refl)
    where
      empty : (i : ℕ) (x : Hold) → (slot_at t i).hold ≡ x → not (empty_hold x) ≡ false
      empty i Empty e = refl
      empty i (Live c q) e =
          absurd (s.out_not_held c.pair.vpci c.pair.vci (rw all)
          (record { slot = i; call = c; state = q; live = e; pair = record { vpci = refl; vci = refl } }))

  sound_marks_kept : marks_kept t ≡ true
  sound_marks_kept =
      rw (pairs_kept_lem t t.doubts t.out.pairs s.marks_tidy (λ p v h. record {
        allowed = s.mark_permitted p v h;
        unheld = held_not p v (s.out_not_held p v (out_by_mark p v h));
        elsewhere = by_test (in_pairs t.doubts p v) (λ y. absurd (s.out_not_doubtful p v (out_by_mark p v h) y)) (λ n. n);
      }))
      (by_test t.out.all (λ y. rw (y, eq-eqb t.doubts.count 0 (no_doubt y), no_call y)) (λ n. rw n))

request_kept_lem : (last : ℕ) (pool : Pool) (numbers : (p v : ℕ) → permitted pool p v ≡ true → (p ≤ 255) × (32 ≤ v) × (v ≤ 65535)) → last ≤ largest_reading
    → (g : GlobalState) → GlobalSound last pool g → (wait_kept last pool g ≡ true) × RequestFits g
request_kept_lem last pool numbers high g none_sent = (refl, tt)
request_kept_lem last pool numbers high g (one_sent p v second d h k) =
    let n = numbers p v h in
    (rw (le-leb d _ k, h), (omega (arith, n.0), omega (arith, n.2), omega arith))
request_kept_lem last pool numbers high g (all_sent second d k) = (rw (le-leb d _ k), omega arith)

sound_request : (t : Table) → Sound t → (request_kept t ≡ true) × RequestFits t.global.state
sound_request t s = request_kept_lem t.last t.pool s.numbers s.last_high t.global.state s.global_sound

-- The form of a savable table is taken.

form_taken : (count : ℕ) (f : List ℕ) (t : Table) → table_in count f ≡ t → form_of t ≡ f → (provision (range_numbers f) (pair_numbers f)).accepted ≡ true
    → t.last ≤ largest_reading → table_kept count t ≡ true → reload_in count f ≡ taken t
form_taken count f t back same accepted small kept =
    let own : equal (form_of t) f ≡ true = ap (equal (form_of t)) (sym same) ∙ same_equal (form_of t) in
    sym (all_pass count f (provision (range_numbers f) (pair_numbers f)) refl t (sym back) accepted (le-leb t.last largest_reading small) kept own)

taken_in : (count : ℕ) (t : Table) → Savable t → length t.slots.all ≡ count → reload_in count (form_of t) ≡ taken t
taken_in count t v size =
    let s = v.sound in
    let small : t.last < 18446744073709551616 = omega (arith, s.last_high) in
    let l = sound_lists t s in
    let request = sound_request t s in
    form_taken count (form_of t) t (table_back t v.provisioned l count small request.1 size (sound_fits t s v.references)) refl
    (lists_back t v.provisioned l) s.last_high (rw (sound_doubts_kept t s, sound_marks_kept t s, request.0) (sound_kept t s count))

pub taken_each : (t : Table) → Savable t → reload_of (form_of t) ≡ taken t
taken_each t v = taken_in slot_count t v v.sound.has_slots

-- The pool of every reached table is start's.

pools_kept : (t : Table) (es : List Event) → (after t es).pool ≡ t.pool
pools_kept t [] = refl
pools_kept t (e ∷ es) = pools_kept (happens t e).answer.table es ∙ pool_stays t e

start_provisioned : (ranges pairs : List ℕ) → (start_of ranges pairs).refusal ≡ 0 → Provisioned (start_of ranges pairs).table
start_provisioned ranges pairs e = record {
  ranges = ranges;
  pairs = pairs;
  accepted = start_accepts ranges pairs e;
  pool = refl;
}

reload_provisioned : (count : ℕ) (f : List ℕ) → (reload_in count f).refusal ≡ 0 → Provisioned (reload_in count f).table
reload_provisioned count f e =
    let r = reload_in_lem count f e in
    record { ranges = range_numbers f; pairs = pair_numbers f; accepted = r.0.accepted; pool = ap (λ (u : Table). u.pool) r.1 }

begun_provisioned : (b : Beginning) → (begun b).refusal ≡ 0 → Provisioned (begun b).table
begun_provisioned (start ranges pairs) e = start_provisioned ranges pairs e
begun_provisioned (reload form) e = reload_provisioned slot_count form e

pub reached_provisioned : (t : Table) → Reached t → Provisioned t
reached_provisioned t r =
    let b = begun_provisioned r.beginning r.accepted in
    record {
      ranges = b.ranges;
      pairs = b.pairs;
      accepted = b.accepted;
      pool = ap (λ (u : Table). u.pool) (sym r.gives) ∙ pools_kept (begun r.beginning).table r.events ∙ b.pool;
    }

-- What a reload takes.

one_form : (count : ℕ) (f : List ℕ) → (reload_in count f).refusal ≡ 0 → form_of (reload_in count f).table ≡ f
one_form count f e = let r = reload_in_lem count f e in ap form_of r.1 ∙ r.0.same

takes_only : (f : List ℕ) → ((k : ℕ) → get_or f k 0 < 256) → (reload_of f).refusal ≡ 0 → Savable (reload_of f).table
takes_only f o e = record {
  sound = reload_sound f e;
  provisioned = reload_provisioned slot_count f e;
  references = form_fits slot_count f o e;
}

refuses_with_9 : (count : ℕ) (f : List ℕ) → ((reload_in count f).refusal ≡ 0) ⊎ (((reload_in count f).refusal ≡ 9) × (reload_in count f ≡ start_of [] []))
refuses_with_9 count f = by_test (is_form count f) (λ y. inl (rw y)) (λ n. inr (rw n, rw n))

older_gets_4 : (t : Table) (e : Event) → Savable t → reply_room ≤ room_of e → label_of e ≡ 1 → reading_of e < t.last
    → (happens (reload_of (form_of t)).table e).answer.refusal ≡ 4
older_gets_4 t e v room label early =
    ap (λ (u : Started). (happens u.table e).answer.refusal) (taken_each t v)
    ∙ number t e
    ∙ rw (
      le-ltb (room_of e) reply_room room,
      eq-eqb (label_of e) 1 label,
      le-ltb largest_reading (reading_of e) (omega (arith, v.sound.last_high)),
      lt-ltb (reading_of e) t.last early,
    )

pub saved_and_reloaded : SavedAndReloaded
saved_and_reloaded = record {
  gives_back = λ t r carried.
      taken_each t (record { sound = reached_sound t r; provisioned = reached_provisioned t r; references = reached_fits t r carried });
  one_form = one_form slot_count;
  takes_each = taken_each;
  takes_only = takes_only;
  refuses_with_9 = refuses_with_9 slot_count;
  older_gets_4 = older_gets_4;
}
