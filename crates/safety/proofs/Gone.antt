-- By every event a live call keeps slot, reference and pair, or it is gone and the host is told; by one that sends RELEASE none is gone.
--   acts_stays             what becomes of the slot of a live call
--   held_until_gone
--   release_frees_none
-- Assumes nothing.
use Prim.Native.Nat.{ℕ}
use mathlib.Core.Path.{◌≡◌, refl, sym, ap, ◌∙◌}
use mathlib.Core.Logic.{◌⊎◌, inl, inr, ⊎_elim, ◌≢◌}
use mathlib.Core.Bool.{Bool, true, not}
use native.Mathlib.Omega.{arith}
use lib.Dec.{eqb}
use lib.ListN.{get_or, set}
use lib.Seq.{get_or-set_same, get_or-set_other}
use borrow.Author.Tests.{eqb-true, eqb-false}
use Rattle.channels.proofs.Cases.{by_test, clash}
use Rattle.calls.specs.declared.State.{State}
use Rattle.calls.specs.declared.State.TheVariants.{N3, N6, N9, N10, N12}
use Rattle.calls.specs.declared.Call.{Call}
use Rattle.calls.specs.declared.Hold.TheVariants.{Live}
use Rattle.calls.specs.declared.Slot.{Slot}
use Rattle.calls.specs.Calls.{no_slot, live_slot, is_empty, is_named, emptied}
use Rattle.first.proofs.First.{placed}
use Rattle.elements.specs.declared.Read.{Read}
use Rattle.elements.specs.declared.Read.TheVariants as elem
use Rattle.elements.specs.Values.{cause_in}
use Rattle.replies.specs.Reply.{kind_of}
use Rattle.verdicts.specs.declared.Verdict.{Verdict}
use Rattle.judging.specs.Judge.{release_complete, release_reply}
use Rattle.effects.specs.declared.Change.{Change}
use Rattle.effects.specs.declared.Effect.{Effect}
use Rattle.effects.specs.Change.{flags_of, notice_of}
use Rattle.effects.specs.Effect.{on_call}
use Rattle.table.specs.declared.Table.{Table}
use Rattle.table.specs.Effects.{table_after, no_room}
use Rattle.outcome.specs.Outcome.{Outcome}
use Rattle.control.specs.Happens.{Event, happens}
use Rattle.views.specs.Tables.{HasSlots, slot_at, HasCall}
use Rattle.views.specs.Effects.{reading_of, body_of}
use Rattle.views.proofs.Verdicts as verdict
use Rattle.views.proofs.View as view
use Rattle.safety.specs.Flags.{CallGone}
use Rattle.safety.specs.Slips.{StillThere, Went, HeldUntilGone, ReleaseFreesNone}
use Rattle.safety.proofs.Tables.{live_within}
use Rattle.safety.proofs.Lists.{get_d_map}
use Rattle.safety.proofs.Acts.{Acts, keeps, asks, moves, answers, ends, loses, restarts, requests, puts_back, does_acts}
use Rattle.safety.proofs.Flags.{flags_exact}
use Rattle.safety.proofs.Slips.{sent_kind, sent_kind_lem}

-- One call, in slot j of t.

module _ (t : Table) (j : ℕ) (c : Call) (q : State) (live : HasCall t j c q) where
  -- in a table afterwards it is there, or its slot is empty
  abbrev Stays : Table → Type 0
  Stays u = StillThere u j c ⊎ (slot_at u j ≡ no_slot)

  same_stays : (u : Table) → slot_at u j ≡ slot_at t j → Stays u
  same_stays u e = inl (record { state = q; live = ap (λ (s : Slot). s.hold) e ∙ live })

  -- slot i is set: it is another one, or j
  set_stays : (u : Table) (i : ℕ) (s : Slot) → u.slots.all ≡ set t.slots.all i s → (j ≡ i → slot_at u j ≡ s → Stays u) → Stays u
  set_stays u i s left own =
      by_test (eqb j i)
      (λ y.
      let same = eqb-true j i y in
      own same (rw (left, ← same) (get_or-set_same t.slots.all j s no_slot (live_within t j c q live))))
      (λ n. same_stays u (rw left (get_or-set_other t.slots.all i j s no_slot (eqb-false j i n))))

  -- the call of slot i, in another state
  moved_stays : (u : Table) (i : ℕ) (d : Call) (p r : State) → u.slots.all ≡ set t.slots.all i (live_slot d r) → HasCall t i d p → Stays u
  moved_stays u i d p r left has =
      set_stays u i (live_slot d r) left
      (λ same e.
      let one : Live d p ≡ Live c q = sym has ∙ rw same at live in
      let call : d ≡ c = cc in
      inl (record { state = r; live = ap (λ (s : Slot). s.hold) e ∙ rw call }))

  acts_stays : (e : Event) (reading : ℕ) (x : Change) → Acts t e x → Stays (table_after t reading x)
  acts_stays e reading x keeps = same_stays _ refl
  acts_stays e reading x (asks i d r f own) =
      set_stays _ i (live_slot d r) refl (λ same e. clash (placed is_empty no_slot t.slots.all i f).passes (rw (← same, live)))
  acts_stays e reading x (moves i d p r has other) = moved_stays _ i d p r refl has
  acts_stays e reading x (answers i d p has waiting own) = moved_stays _ i d p N10 refl has
  acts_stays e reading x (ends i d p has own) = set_stays _ i no_slot refl (λ same e. inr e)
  acts_stays e reading x (loses i d p has own) = set_stays _ i no_slot refl (λ same e. inr e)
  acts_stays e reading x (restarts which why own) =
      let at = get_d_map (emptied (is_named which)) no_slot (by_test (is_named which no_slot) (λ y. rw y) (λ n. rw n)) t.slots.all j in
      by_test (is_named which (slot_at t j)) (λ y. inr (at ∙ rw y)) (λ n. same_stays _ (at ∙ rw n))
  acts_stays e reading x (requests which second d) = same_stays _ refl
  acts_stays e reading x puts_back = same_stays _ refl

pub held_until_gone : (t : Table) (e : Event) → HasSlots t → HeldUntilGone t e
held_until_gone t e whole j c q live =
    let exact = flags_exact t e whole in
    ⊎_elim
    (λ (k : StillThere (happens t e).answer.table j c). inl k)
    (λ (empty : slot_at (happens t e).answer.table j ≡ no_slot).
    let gone : CallGone t (happens t e).answer.table j = record { call = c; state = q; before = live; after = empty } in
    let notice = exact.tells.gone j gone in
    inr (record { empty = empty; notice = notice; flag = exact.names.with_3_all notice j gone }))
    (view.by_event t e (λ (o : Outcome). Stays t j c q live o.answer.table)
    (λ n. same_stays t j c q live t refl)
    (λ z x d. acts_stays t j c q live e (reading_of e) x.change (does_acts t e x d)))

-- RELEASE.

complete_kind : (r : Read ℕ) → kind_of (release_complete r) ≢ 0x4D
complete_kind elem.Absent e = omega arith
complete_kind elem.Unreadable e = omega arith
complete_kind (elem.Readable n) e = omega arith

release_kind : (q : State) (r : Read ℕ) → kind_of (release_reply q r) ≢ 0x4D
release_kind N3 r = complete_kind r
release_kind (N6 d) r = complete_kind r
release_kind (N9 d) r = complete_kind r
release_kind N10 r = complete_kind r
release_kind (N12 k d) r = λ e. omega arith

-- what sends RELEASE does not say that calls are gone
module _ (t : Table) where
  abbrev Quietly : Effect → Type 0
  Quietly x = sent_kind x.outgoing ≡ 0x4D → notice_of x.change (flags_of x.change t.slots) ≢ 3

  judged_quietly : (i : ℕ) (c : Call) (flag : Bool) (r reading : ℕ) (full : Bool) (q : State) (v : Verdict) → verdict.Judged reading full q v
      → Quietly (on_call i c flag r v)
  judged_quietly i c flag r reading full q v (verdict.stays k a s) e z = omega arith
  judged_quietly i c flag r reading full q v (verdict.proceeds d g) e z = omega arith
  judged_quietly i c flag r reading full q v (verdict.connects a) e z = omega arith
  judged_quietly i c flag r reading full q v (verdict.releases m) e z = release_kind q (cause_in m 9) e
  judged_quietly i c flag r reading full q v verdict.ends e z = omega arith
  judged_quietly i c flag r reading full q v (verdict.times_out d g) e z = omega arith
  judged_quietly i c flag r reading full q v (verdict.sends_again k d g first) e z = omega arith
  judged_quietly i c flag r reading full q v (verdict.waits k d g second room) e z = omega arith
  judged_quietly i c flag r reading full q v (verdict.loses k d g second room) e z = omega arith

  does_quietly : (e : Event) (x : Effect) → view.Does t e x → Quietly x
  does_quietly e x view.nothing y z = omega arith
  does_quietly e x (view.no_call m h is) y z = omega arith
  does_quietly e x (view.global m h is) y z = omega arith
  does_quietly e x (view.refuses m h c is a) y z = omega arith
  does_quietly e x (view.no_slot_lem m h is a f) y z = omega arith
  does_quietly e x (view.no_free m h i is a f g) y z = omega arith
  does_quietly e x (view.admits m h i p v is a f g) y z = omega arith
  does_quietly e x (view.offers i p v is f g) y z = omega arith
  does_quietly e x (view.judges m h i c q is f g) y z =
      judged_quietly i c (not h.flag) h.reference (reading_of e) true q _ (verdict.judged (reading_of e) true m h q) y z
  does_quietly e x (view.fires i c q is n f g) y z =
      judged_quietly i c (not c.network) c.reference (reading_of e) (no_room t) q _ (verdict.expired (reading_of e) (no_room t) q) y z
  does_quietly e x (view.connects i c q is g s) y z = omega arith
  does_quietly e x (view.clears i cause c q is g host) y z = omega arith
  does_quietly e x (view.declines m h n d is a) y z = omega arith
  does_quietly e x (view.restarts m h which a is (view.all k g w)) y z = omega arith
  does_quietly e x (view.restarts m h which a is (view.one k p v g n f known fair)) y z = omega arith
  does_quietly e x (view.requests target is w m) y z = omega arith
  does_quietly e x (view.acknowledges m h which second d is g same) y z = omega arith
  does_quietly e x (view.puts_back is) y z = omega arith
  does_quietly e x (view.sends_again which second d is g n full) y z = omega arith
  does_quietly e x (view.withdraws which d is g n room) y z = omega arith

pub release_frees_none : (t : Table) (e : Event) → HasSlots t → ReleaseFreesNone t e
release_frees_none t e whole release j c q live =
    ⊎_elim
    (λ (k : StillThere (happens t e).answer.table j c). k)
    (λ (g : Went (happens t e) j).
    absurd
    (view.by_event t e (λ (o : Outcome). get_or o.reply 5 0 ≡ 0x4D → o.answer.notice ≢ 3)
    (λ n y z. omega arith)
    (λ zero x d y. does_quietly t e x d (sym (sent_kind_lem x.flag x.reference x.outgoing (body_of e)) ∙ y))
    release g.notice))
    (held_until_gone t e whole j c q live)
