-- What an accepted event does to the pairs in doubt, for one permitted pair.
--   Doubting, doubting       no call goes; one goes, by a second T308 expiry or not; calls and doubts end by a RESTART
--   doubt_free, doubt_stays, doubt_begins
--                            if the pair is in doubt afterwards: where it was free, in doubt, held by a call that goes
-- Assumes nothing.
use Rattle.verdicts.specs.declared.Notice.{Notice}
use Rattle.verdicts.specs.Verdict.{notice_number}
use Rattle.verdicts.specs.declared.Notice.TheVariants as notice
use Rattle.identifier.specs.declared.Pair.{Pair}
use Rattle.std.specs.Prelude.{Some, None, Option}
use Prim.Native.Nat.{ℕ}
use mathlib.Core.Path.{◌≡◌, refl, sym, ap, ◌∙◌}
use mathlib.Core.Logic.{◌≢◌}
use mathlib.Core.Bool.{Bool, true, false, not, ◌&&◌, ◌||◌, or-true, or-false, and-true, and-false}
use mathlib.Core.List.{List}
use native.Mathlib.Omega.{arith}
use lib.Dec.{eqb}
use lib.ListN.{replicate}
use lib.Seq.{get_or-set_other}
use borrow.Author.Tests.{eqb-true, eqb-false, eq-eqb}
use Rattle.identifier.specs.Pair.{pair}
use Rattle.channels.specs.Channels.{permitted}
use Rattle.channels.specs.declared.Named.{Named}
use Rattle.channels.specs.declared.Named.TheVariants as named
use Rattle.channels.proofs.Cases.{by_test, clash}
use Rattle.pairs.specs.Pairs.{is_full, in_pairs}
use Rattle.pairs.specs.Pairs as by_us
use Rattle.pairs.proofs.Laws.{with_in, unless_in}
use Rattle.calls.specs.declared.State.{State}
use Rattle.calls.specs.declared.Call.{Call}
use Rattle.calls.specs.declared.Hold.{Hold}
use Rattle.calls.specs.declared.Hold.TheVariants.{Live}
use Rattle.calls.specs.declared.Slot.{Slot}
use Rattle.calls.specs.Calls.{no_slot, is_named}
use Rattle.slots.specs.Slots.{slot_count}
use Rattle.header.specs.declared.Header.{Header}
use Rattle.elements.specs.declared.Read.{Read}
use Rattle.elements.specs.Values.{connection_in, restart_in}
use Rattle.replies.specs.declared.Reply.{Reply}
use Rattle.service.specs.declared.GlobalState.TheVariants.{RestartRequest}
use Rattle.restarts.specs.Own.{is_same}
use Rattle.verdicts.specs.declared.Verdict.{Verdict}
use Rattle.verdicts.specs.Expiry.{expire, last_t308}
use Rattle.effects.specs.declared.Change.{Change}
use Rattle.effects.specs.declared.Change.TheVariants.{Keep, Put, Doubt, Restart, Request, PutBack}
use Rattle.effects.specs.declared.Ending.{Ending}
use Rattle.effects.specs.declared.Ending.TheVariants.{User, Acknowledged, Expired}
use Rattle.effects.specs.declared.Effect.{Effect}
use Rattle.effects.specs.Change.{doubts_after, flags_at, flags_of, notice_of}
use Rattle.effects.specs.Effect.{fated}
use Rattle.search.proofs.Free.{neither}
use Rattle.table.specs.declared.Table.{Table}
use Rattle.table.specs.Effects.{table_after, no_room}
use Rattle.control.specs.Happens.{Event, message, tick, connect, clear, offer, restart as restart_command, put_marks_back}
use Rattle.views.specs.Tables.{HasCall, OnPair, Holds}
use Rattle.views.specs.Effects.{reading_of, refusal_of, effect_of}
use Rattle.views.proofs.Verdicts as verdict
use Rattle.views.proofs.View as view
use Rattle.safety.specs.Flags.{flag_of}
use Rattle.safety.specs.Sound.{Sound}
use Rattle.safety.proofs.Tables.{on_pair_lem, pair_on}
use Rattle.safety.proofs.Lists.{get_or-replicate_default}
use Rattle.safety.proofs.Flags.{on_at}
use Rattle.history.specs.History.{last_hold, second_expiry, restart_head, names, restarts, acknowledge_head, answers, acknowledges, marks}
use Rattle.history.proofs.Standing.{same_live}
use Rattle.history.proofs.Expiry.{last_expires}
use Rattle.history.proofs.Restarting.{ActsOn, acts, acknowledged}
use Rattle.history.proofs.Marks.{kept_unmarked, waiting-unmarked, heard-unmarked, fired-marks}

-- a doubt ends: a user's RESTART, an acknowledge of ours, T316's second expiry
abbrev pub ends : Table → Event → Table → ℕ → ℕ → Bool
ends t e u p v = marks t e u p v || (restarts e p v || acknowledges t e p v)

module _ (t : Table) (e : Event) (p v : ℕ) where
  -- the table after a change
  abbrev left : Change → Table
  left x = table_after t (reading_of e) x

  pub data Doubting : Change → Type 0 where
    -- no call goes, and no doubt begins or ends
    stays : (x : Change) → doubts_after x t.doubts ≡ t.doubts → notice_of x (flags_of x t.slots) ≢ 3 → ends t e (left x) p v ≡ false → Doubting x
    -- the call of slot i goes, not by a second T308 expiry
    goes : (i : ℕ) → second_expiry t e i ≡ false → ends t e (left (Put i no_slot (Some notice.Gone))) p v ≡ false → Doubting (Put i no_slot (Some notice.Gone))
    -- it goes by one
    expires : (i : ℕ) (c : Call) (q : State) → HasCall t i c q → second_expiry t e i ≡ true → is_full t.doubts ≡ false
        → ends t e (left (Doubt i c.pair)) p v ≡ false → Doubting (Doubt i c.pair)
    -- a user's RESTART, or an acknowledge of ours, which names the pair or does not
    restart : (which : Named) (why : Ending) → ((i : ℕ) → second_expiry t e i ≡ false) → marks t e (left (Restart which why)) p v ≡ false
        → ends t e (left (Restart which why)) p v ≡ by_us.names which p v → Doubting (Restart which why)
    -- T316's second expiry
    withdraws : (which : Named) → marks t e (left (Restart which Expired)) p v ≡ by_us.names which p v
        → ends t e (left (Restart which Expired)) p v ≡ by_us.names which p v → Doubting (Restart which Expired)

-- a second T308 expiry is a tick's
expiry_at : (t : Table) (e : Event) (i : ℕ) (c : Call) (q : State) → view.IsTick e → HasCall t i c q → second_expiry t e i ≡ last_t308 q
expiry_at t e i c q (view.is_tick label reading room) live = ap last_hold live

no_expiry : (t : Table) (m : List ℕ) (h : Header) (e : Event) → view.IsMessage m h e → (i : ℕ) → second_expiry t e i ≡ false
no_expiry t m h e (view.heard label reading room head) i = refl

-- a user's RESTART, and an acknowledge of ours, are messages: no timer fires
ending_no_expiry : (t : Table) (e : Event) (p v : ℕ) → (restarts e p v || acknowledges t e p v) ≡ true → (i : ℕ) → second_expiry t e i ≡ false
ending_no_expiry t (message label reading room octets) p v y i = refl
ending_no_expiry t (tick label reading room) p v y i = clash y refl
ending_no_expiry t (connect label reading room slot) p v y i = refl
ending_no_expiry t (clear label reading room slot cause) p v y i = refl
ending_no_expiry t (offer label reading room body) p v y i = refl
ending_no_expiry t (restart_command label reading room target) p v y i = refl
ending_no_expiry t (put_marks_back label reading room) p v y i = refl

ending-unmarked : (t : Table) (e : Event) (p v : ℕ) (u : Table) → (restarts e p v || acknowledges t e p v) ≡ true → marks t e u p v ≡ false
ending-unmarked t (message label reading room octets) p v u y = refl
ending-unmarked t (tick label reading room) p v u y = clash y refl
ending-unmarked t (connect label reading room slot) p v u y = refl
ending-unmarked t (clear label reading room slot cause) p v u y = refl
ending-unmarked t (offer label reading room body) p v u y = refl
ending-unmarked t (restart_command label reading room target) p v u y = refl
ending-unmarked t (put_marks_back label reading room) p v u y = refl

-- what a RESTART names
restart_is : (m : List ℕ) (h : Header) (e : Event) (p v : ℕ) → view.IsMessage m h e → restart_head (Some h) ≡ true
    → restarts e p v ≡ names (restart_in m 9) (connection_in m 9) p v
restart_is m h e p v (view.heard label reading room head) right =
    ap (λ (b : Bool). b && names (restart_in m 9) (connection_in m 9) p v) (ap restart_head head ∙ right)

names_same : (t : Table) (r : Read ℕ) (c : Read Pair) (which : Named) (a : Reply) (p v : ℕ) → view.Names t r c which a
    → names r c p v ≡ by_us.names which p v
names_same t r c which a p v (view.all k g y) = rw (g, y)
names_same t r c which a p v (view.one k q w g n f known fair) = rw (g, n, f)

-- what our RESTART names
acknowledge_is : (t : Table) (m : List ℕ) (h : Header) (e : Event) (which : Named) (second : Bool) (d p v : ℕ) → view.IsMessage m h e → acknowledge_head (Some h) ≡ true
    → t.global.state ≡ RestartRequest which second d → is_same which (restart_in m 9) (connection_in m 9) ≡ true → acknowledges t e p v ≡ by_us.names which p v
acknowledge_is t m h e which second d p v (view.heard label reading room head) right g same =
    ap (λ (b : Bool). b && answers t.global.state (restart_in m 9) (connection_in m 9) p v) (ap acknowledge_head head ∙ right) ∙ rw (g, same)

-- Every event.

module _ (t : Table) (e : Event) (p v : ℕ) (other : restarts e p v ≡ false) (unanswered : acknowledges t e p v ≡ false) where
  -- our RESTART is as it was
  unended : (x : Change) → (left t e p v x).global.state ≡ t.global.state → ends t e (left t e p v x) p v ≡ false
  unended x same = rw (kept_unmarked t p v e (left t e p v x) same, other, unanswered)

  still : Doubting t e p v Keep
  still = stays Keep refl (λ z. omega arith) (unended Keep refl)

  put : (i : ℕ) (s : Slot) (n : Option Notice) → notice_number n ≢ 3 → Doubting t e p v (Put i s n)
  put i s n none = stays (Put i s n) refl none (unended (Put i s n) refl)

  requested : (which : Named) (second : Bool) (d : ℕ) → Doubting t e p v (Request which second d)
  requested which second d =
      let x = Request which second d in
      stays x refl (λ z. omega arith) (rw (waiting-unmarked t p v e (left t e p v x) refl, other, unanswered))

  -- a verdict on the call of slot i, but for that of a second T308 expiry
  verdict_doubting : (full : Bool) (i : ℕ) (c : Call) (q : State) (d : Verdict) → second_expiry t e i ≡ false → (full ≡ false → last_t308 q ≡ false)
      → verdict.Judged (reading_of e) full q d → Doubting t e p v (fated i c d.fate)
  verdict_doubting full i c q d none first (verdict.stays k a s) = still
  verdict_doubting full i c q d none first (verdict.proceeds k g) = put i _ None (λ z. omega arith)
  verdict_doubting full i c q d none first (verdict.connects a) = put i _ (Some notice.Answered) (λ z. omega arith)
  verdict_doubting full i c q d none first (verdict.releases m) = goes i none (unended (Put i no_slot (Some notice.Gone)) refl)
  verdict_doubting full i c q d none first verdict.ends = goes i none (unended (Put i no_slot (Some notice.Gone)) refl)
  verdict_doubting full i c q d none first (verdict.times_out k g) = put i _ None (λ z. omega arith)
  verdict_doubting full i c q d none first (verdict.sends_again k l g one) = put i _ None (λ z. omega arith)
  verdict_doubting full i c q d none first (verdict.waits k l g second room) = put i _ None (λ z. omega arith)
  verdict_doubting full i c q d none first (verdict.loses k l g second room) = clash second (rw g at (first room))

  -- a timer of a tick
  fired_doubting : (i : ℕ) (c : Call) (q : State) → view.IsTick e → HasCall t i c q
      → Doubting t e p v (fated i c (expire (no_room t) q (reading_of e)).fate)
  fired_doubting i c q is live =
      by_test (last_t308 q)
      (λ y. rw (last_expires (no_room t) q (reading_of e) y)
      (by_test (no_room t)
      (λ full. rw full (put i _ None (λ z. omega arith)))
      (λ room. rw room (expires i c q live (expiry_at t e i c q is live ∙ y) room (unended (Doubt i c.pair) refl)))))
      (λ n. verdict_doubting (no_room t) i c q _ (expiry_at t e i c q is live ∙ n) (λ room. n) (verdict.expired (reading_of e) (no_room t) q))

  does_doubting : (x : Effect) → view.Does t e x → Doubting t e p v x.change
  does_doubting x view.nothing = still
  does_doubting x (view.no_call m h is) = still
  does_doubting x (view.global m h is) = still
  does_doubting x (view.refuses m h c is a) = still
  does_doubting x (view.no_slot_lem m h is a f) = still
  does_doubting x (view.no_free m h i is a f g) = still
  does_doubting x (view.admits m h i q w is a f g) = put i _ (Some notice.Asked) (λ z. omega arith)
  does_doubting x (view.offers i q w is f g) = put i _ (Some notice.Asked) (λ z. omega arith)
  does_doubting x (view.judges m h i c q is f g) =
      verdict_doubting true i c q _ (no_expiry t m h e is i) (λ z. clash refl z) (verdict.judged (reading_of e) true m h q)
  does_doubting x (view.fires i c q is z f g) = fired_doubting i c q is g
  does_doubting x (view.connects i c q is g s) = put i _ None (λ z. omega arith)
  does_doubting x (view.clears i cause c q is g host) = put i _ None (λ z. omega arith)
  does_doubting x (view.declines m h n d is a) = still
  does_doubting x (view.restarts m h which a is n) =
      let named = restart_is m h e p v is.its_message (rw (is.restart, is.global, is.whole)) ∙ names_same t (restart_in m 9) (connection_in m 9) which a p v n in
      let x = Restart which User in
      restart which User (no_expiry t m h e is.its_message) (kept_unmarked t p v e (left t e p v x) refl)
      (unended x refl ∙ sym other ∙ named)
  does_doubting x (view.requests target is w m) = requested _ _ _
  does_doubting x (view.acknowledges m h which second d is g same) =
      let named = acknowledge_is t m h e which second d p v is.its_message (rw (is.acknowledge, is.global, is.whole)) g same in
      let none = heard-unmarked t p v e (left t e p v (Restart which Acknowledged)) m h is.its_message in
      restart which Acknowledged (no_expiry t m h e is.its_message) none (rw (none, other) named)
  does_doubting x (view.puts_back is) = stays PutBack refl (λ z. omega arith) (unended PutBack refl)
  does_doubting x (view.sends_again which second d is g z full) = requested _ _ _
  does_doubting x (view.withdraws which d is g z room) =
      let all = fired-marks t p v e (left t e p v (Restart which Expired)) which d is g refl in
      withdraws which all (rw (other, unanswered) (or-false (marks t e (left t e p v (Restart which Expired)) p v)) ∙ all)

-- a RESTART that names the pair
acted_doubting : (t : Table) (e : Event) (p v : ℕ) → (restarts e p v || acknowledges t e p v) ≡ true → ActsOn p v (effect_of t e) → Doubting t e p v (effect_of t e).change
acted_doubting t e p v y a =
    let u = left t e p v (Restart a.which a.why) in
    let none = ending-unmarked t e p v u y in
    rw a.change (restart a.which a.why (ending_no_expiry t e p v y) none (rw (none, y) (sym a.pair_named)))

pub doubting : (t : Table) (e : Event) → Sound t → refusal_of t e ≡ 0 → (p v : ℕ) → permitted t.pool p v ≡ true
    → Doubting t e p v (effect_of t e).change
doubting t e s accepted p v ok =
    by_test (restarts e p v)
    (λ y. acted_doubting t e p v (rw y) (acts t s p v ok e y))
    (λ n. by_test (acknowledges t e p v)
    (λ y. acted_doubting t e p v (rw (n, y)) (acknowledged t e p v y))
    (λ m. does_doubting t e p v n m (effect_of t e) (view.does t e accepted)))

-- If the pair is in doubt afterwards.

-- a call that is named has a pair that is
slot_names : (which : Named) (p v : ℕ) (c : Call) (q : State) → is_named which (record { hold = Live c q }) ≡ true → OnPair p v c → by_us.names which p v ≡ true
slot_names named.All p v c q y on = refl
slot_names (named.One ab) p v c q y on =
    let same = on_pair_lem ab.vpci ab.vci c q y in
    rw (eq-eqb ab.vpci p (sym same.vpci ∙ on.vpci), eq-eqb ab.vci v (sym same.vci ∙ on.vci))

-- one flag alone is set
flag_here : (j i : ℕ) → flag_of (flags_at j) i ≡ true → i ≡ j
flag_here j i e =
    by_test (eqb i j)
    (λ y. eqb-true i j y)
    (λ n. clash e (get_or-set_other (replicate slot_count false) j i true false (eqb-false i j n) ∙ get_or-replicate_default slot_count i false))

module _ (t : Table) (e : Event) (s : Sound t) (p v : ℕ) where
  abbrev after : Change → Bool
  after x = in_pairs (doubts_after x t.doubts) p v

  -- one more pair is in doubt
  more : (i : ℕ) (c : Call) (q : State) → HasCall t i c q → is_full t.doubts ≡ false
      → after (Doubt i c.pair) ≡ ((eqb c.pair.vpci p && eqb c.pair.vci v) || in_pairs t.doubts p v)
  more i c q live room = let k = (s.calls_sound i c q live).vci_high in with_in t.doubts c.pair.vpci c.pair.vci p v room (omega arith)

  pub doubt_free : (x : Change) → Doubting t e p v x → (Holds t p v → ⊥) → in_pairs t.doubts p v ≡ false → after x ≡ false
  doubt_free x (stays _ same told none) unheld d = rw same d
  doubt_free x (goes i first none) unheld d = d
  doubt_free x (expires i c q live second room none) unheld d =
      let apart : (eqb c.pair.vpci p && eqb c.pair.vci v) ≡ false =
      by_test (eqb c.pair.vpci p && eqb c.pair.vci v)
      (λ y. absurd (unheld (record { slot = i; call = c; state = q; live = live; pair = on_pair_lem p v c q y })))
      (λ n. n) in
      more i c q live room ∙ rw (apart, d)
  doubt_free x (restart which why first none named) unheld d = unless_in t.doubts which p v ∙ rw d (and-false (not (by_us.names which p v)))
  doubt_free x (withdraws which all named) unheld d = unless_in t.doubts which p v ∙ rw d (and-false (not (by_us.names which p v)))

  pub doubt_stays : (x : Change) → Doubting t e p v x → in_pairs t.doubts p v ≡ true → after x ≡ not (ends t e (left t e p v x) p v)
  doubt_stays x (stays _ same told none) d = rw (none, same) d
  doubt_stays x (goes i first none) d = rw none d
  doubt_stays x (expires i c q live second room none) d = more i c q live room ∙ rw (d, none) (or-true (eqb c.pair.vpci p && eqb c.pair.vci v))
  doubt_stays x (restart which why first none named) d = unless_in t.doubts which p v ∙ rw (d, named) (and-true (not (by_us.names which p v)))
  doubt_stays x (withdraws which all named) d = unless_in t.doubts which p v ∙ rw (d, named) (and-true (not (by_us.names which p v)))

  -- the call of slot i is gone, and the answer says so
  module _ (i : ℕ) (c : Call) (q : State) (live : HasCall t i c q) (on : OnPair p v c) where
    not_doubted : in_pairs t.doubts p v ≡ false
    not_doubted =
        by_test (in_pairs t.doubts p v)
        (λ y. absurd (s.doubt_not_held p v y (record { slot = i; call = c; state = q; live = live; pair = on })))
        (λ n. n)

    told_at : (j : ℕ) (b : Bool) → i ≡ j → second_expiry t e j ≡ b → b ≡ second_expiry t e i
    told_at j b here f = sym (rw here f)

    -- T316's second expiry comes before that of T308
    pub doubt_begins : (x : Change) → Doubting t e p v x → notice_of x (flags_of x t.slots) ≡ 3 → flag_of (flags_of x t.slots) i ≡ true
        → after x ≡ (not (marks t e (left t e p v x) p v) && second_expiry t e i)
    doubt_begins x (stays _ same told none) notice flag = absurd (told notice)
    doubt_begins x (goes j first none) notice flag =
        not_doubted ∙ told_at j false (flag_here j i flag) first ∙ rw (neither (marks t e (left t e p v x) p v) _ none).0
    doubt_begins x (expires j d r there second room none) notice flag =
        let here = flag_here j i flag in
        let same = same_live d c r q (sym there ∙ rw here at live) in
        more j d r there room
        ∙ rw ((neither (marks t e (left t e p v x) p v) _ none).0, same, pair_on p v c q on) (told_at j true here second)
    doubt_begins x (restart which why first none named) notice flag =
        unless_in t.doubts which p v ∙ rw (not_doubted, none) (and-false (not (by_us.names which p v)) ∙ told_at i false refl (first i))
    doubt_begins x (withdraws which all named) notice flag =
        let gone = slot_names which p v c q (sym (ap (λ (h : Hold). is_named which (record { hold = h })) live) ∙ sym (on_at t s.has_slots e (reading_of e) which Expired i) ∙ flag) on in
        unless_in t.doubts which p v ∙ rw (all, gone)
