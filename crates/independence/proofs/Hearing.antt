-- The answer and the table that a message gets are those of its deed.
--   Sure, judged_sure       no message leaves a pair in doubt
--   Matches                 an effect's answer and slots are those of a deed, and the pairs in doubt stay
--   addressed_matches       so it is of every message on a non-global reference
--   refusal_alone           with an accepted reading, a refusal looks at the message alone
--   takes, hears            a message that is refused leaves the table, and one that is not does its deed
--   still_accepted          and the reading is accepted in the table afterwards
-- Assumes nothing.
use Rattle.verdicts.specs.declared.Notice.{Notice}
use Rattle.std.specs.Prelude.{Option, Some, None}
use Prim.Native.Nat.{ℕ}
use mathlib.Core.Path.{◌≡◌, refl, ap, sym, ◌∙◌}
use mathlib.Core.Bool.{Bool, true, false, not, cond, ◌&&◌}
use mathlib.Core.List.{List, [], ◌∷◌}
use lib.Dec.{eqb, ltb}
use lib.ListN.{set}
use native.Mathlib.Nat.{le_refl}
use borrow.Author.Tests.{ne_eqb, le-ltb}
use Rattle.identifier.specs.declared.Pair.{Pair}
use Rattle.std.specs.Prelude.{Result, Ok, Err, ⊤}
use Rattle.channels.proofs.Cases.{by_test, clash}
use Rattle.calls.specs.declared.State.{State}
use Rattle.calls.specs.declared.Call.{Call}
use Rattle.calls.specs.declared.Hold.{Hold}
use Rattle.calls.specs.declared.Hold.TheVariants.{Empty, Live}
use Rattle.calls.specs.declared.Slot.{Slot}
use Rattle.calls.specs.Calls.{no_slot, is_empty}
use Rattle.first.specs.First.{place, upd}
use Rattle.first.proofs.First.{placed}
use Rattle.slots.specs.Slots.{hold_at}
use Rattle.header.specs.declared.Header.{Header}
use Rattle.header.specs.Header.{head_of}
use Rattle.replies.specs.declared.Cause.{Cause}
use Rattle.replies.specs.declared.Reply.{Reply}
use Rattle.setup.specs.Setup.{admission}
use Rattle.verdicts.specs.declared.Fate.{Fate}
use Rattle.verdicts.specs.declared.Fate.TheVariants as fate
use Rattle.verdicts.specs.declared.Verdict.{Verdict}
use Rattle.effects.specs.declared.Effect.{Effect}
use Rattle.effects.specs.Change.{no_flags, slots_after, doubts_after, global_after, out_after}
use Rattle.effects.specs.Effect.{replying, on_call}
use Rattle.table.specs.declared.Table.{Table}
use Rattle.table.specs.Effects as effects
use Rattle.refusals.specs.Refusals.{or_else, size_refusal, message_refusal}
use Rattle.outcome.specs.Outcome.{Outcome, accepted_as, unless_refused}
use Rattle.control.specs.Events.{heard_by}
use Rattle.views.proofs.Verdicts.{Judged, stays, proceeds, connects, releases, ends, times_out, sends_again, waits, loses, judged}
use Rattle.independence.specs.Independence.{Heard, Given, given_by, hear, AcceptedIn, headed, Qualifies}
use Rattle.independence.proofs.Deeds.{Deed, given, in_state, fated, perform, sight, still, on_pair, admit, set_up, on_no_call, turned, on_hold, decide_at, decide, decision, mine, ground_of}

-- every fate but InDoubt
data Sure : Fate → Type 0 where
  stay : Sure fate.Stay
  to : (q : State) (notice : Option Notice) → Sure (fate.To q notice)
  gone : Sure fate.Gone

-- only a timer leaves a pair in doubt, and not where there is no room for it
judged_sure : (reading : ℕ) (q : State) (v : Verdict) → Judged reading true q v → Sure v.fate
judged_sure reading q v (stays k a says) = stay
judged_sure reading q v (proceeds d e) = to _ _
judged_sure reading q v (connects asked) = to _ _
judged_sure reading q v (releases m) = gone
judged_sure reading q v ends = gone
judged_sure reading q v (times_out d e) = to _ _
judged_sure reading q v (sends_again k d e first) = to _ _
judged_sure reading q v (waits k d e second full) = to _ _
judged_sure reading q v (loses k d e second full) = clash refl full

pub upd_stays : (own : Slot → Bool) (ss : List Slot) → upd own (fated fate.Stay) ss ≡ ss
upd_stays own [] = refl
upd_stays own (s ∷ ss) = by_test (own s) (λ e. rw e) (λ e. rw e (ap (λ (l : List Slot). s ∷ l) (upd_stays own ss)))

pub record Matches (t : Table) (own : Slot → Bool) (e : Effect) (d : Deed) : Type 0 where
  pub answer : given_by (accepted_as t 0 e) ≡ given d
  pub slots : (slots_after e.change t.slots).all ≡ perform own d t.slots.all
  pub doubts : doubts_after e.change t.doubts ≡ t.doubts
  pub global : global_after e.change t.global ≡ t.global
  pub out : out_after e.change t.out ≡ t.out

module _ (t : Table) (own : Slot → Bool) where
  matches_cond : (b : Bool) (e e' : Effect) (d d' : Deed) → Matches t own e d → Matches t own e' d' → Matches t own (cond b e e') (cond b d d')
  matches_cond true e e' d d' x y = x
  matches_cond false e e' d d' x y = y

  still_matches : (flag : Bool) (r : ℕ) (a : Reply) → Matches t own (replying flag r a) (still flag r a)
  still_matches flag r a = record { answer = refl; slots = sym (upd_stays own t.slots.all); doubts = refl; global = refl; out = refl }

  pair_matches : (r i : ℕ) (c : Option Pair) → place is_empty t.slots.all ≡ Some i → Matches t own (effects.on_pair r i c) (on_pair r i c)
  pair_matches r i None e = still_matches true r _
  pair_matches r i (Some pv) e = record { answer = refl; slots = sym ((placed is_empty no_slot t.slots.all i e).changed _); doubts = refl; global = refl; out = refl }

  admit_matches : (r : ℕ) (f : Option ℕ) → place is_empty t.slots.all ≡ f → Matches t own (effects.admitted t r f) (admit r f (effects.free_pair t))
  admit_matches r None e = still_matches true r _
  admit_matches r (Some i) e = pair_matches r i (effects.free_pair t) e

  setup_matches : (r : ℕ) (a : Result ⊤ Cause) → Matches t own (effects.setup_effect t r a) (set_up r (place is_empty t.slots.all) (effects.free_pair t) a)
  setup_matches r (Err c) = still_matches true r _
  setup_matches r (Ok u) = admit_matches r (place is_empty t.slots.all) refl

  no_call_matches : (m : List ℕ) (h : Header) → Matches t own (effects.on_no_call t m h) (on_no_call m h (place is_empty t.slots.all) (effects.free_pair t))
  no_call_matches m h =
      matches_cond (eqb h.kind 0x05) _ _ _ _
      (matches_cond (not h.flag && h.whole) _ _ _ _ (setup_matches h.reference (admission m 9)) (still_matches false 0 _))
      (still_matches (not h.flag) h.reference _)

  call_matches : (h : Header) (i : ℕ) (c : Call) (q : State) (a : Reply) (f : Fate) → place own t.slots.all ≡ Some i → hold_at t.slots.all i ≡ Live c q → Sure f
      → Matches t own (on_call i c (not h.flag) h.reference (record { fate = f; reply = a })) (turned h i (record { fate = f; reply = a }))
  call_matches h i c q a f e live stay = still_matches (not h.flag) h.reference a
  call_matches h i c q a f e live (to n notice) =
      let put = (placed own no_slot t.slots.all i e).changed (fated f) ∙ ap (λ (k : Hold). set t.slots.all i (in_state n k)) live in
      record { answer = refl; slots = sym put; doubts = refl; global = refl; out = refl }
  call_matches h i c q a f e live gone = record { answer = refl; slots = sym ((placed own no_slot t.slots.all i e).changed (fated f)); doubts = refl; global = refl; out = refl }

  hold_matches : (m : List ℕ) (h : Header) (reading i : ℕ) (k : Hold) → place own t.slots.all ≡ Some i → hold_at t.slots.all i ≡ k
      → Matches t own (effects.on_hold m h reading i k) (on_hold m h reading i k)
  hold_matches m h reading i Empty e live = still_matches false 0 _
  hold_matches m h reading i (Live c q) e live = call_matches h i c q _ _ e live (judged_sure reading q _ (judged reading true m h q))

  found_matches : (m : List ℕ) (h : Header) (reading : ℕ) (f : Option ℕ) → place own t.slots.all ≡ f
      → Matches t own (effects.addressed t m h reading f) (decide_at m h reading (sight own (ground_of t) t.slots.all) f)
  found_matches m h reading None e = no_call_matches m h
  found_matches m h reading (Some i) e =
      let p = placed own no_slot t.slots.all i e in
      rw p.found (hold_matches m h reading i (hold_at t.slots.all i) e refl)

  pub addressed_matches : (m : List ℕ) (h : Header) (reading : ℕ)
      → Matches t own (effects.addressed t m h reading (place own t.slots.all)) (decide m h reading (sight own (ground_of t) t.slots.all))
  addressed_matches m h reading = found_matches m h reading (place own t.slots.all) refl

-- refusals 1, 2 and 5
abbrev pub refusal_of : Heard → ℕ
refusal_of m = or_else (cond (ltb m.room 1024) 1 (cond (eqb m.label 1) 0 2)) (size_refusal m.octets)

pub refusal_alone : (t : Table) (reading : ℕ) (m : Heard) → AcceptedIn t reading → message_refusal t.last m.label reading m.room m.octets ≡ refusal_of m
refusal_alone t reading m a = rw (le-ltb _ _ a.not_above, le-ltb _ _ a.not_below)

abbrev pub refused_with : ℕ → Given
refused_with n = record { refusal = n; reply = []; notice = 0; flags = no_flags }

-- the answer of a deed, and the table after it
abbrev pub after_deed : ℕ → (Slot → Bool) → Table → Deed → Given × Table
after_deed reading own t d = (
  given d,
  record {
    slots = record { all = perform own d t.slots.all };
    last = reading;
    doubts = t.doubts;
    global = t.global;
    out = t.out;
    pool = t.pool;
  },
)

abbrev pub does : ℕ → List ℕ → Header → Table → Given × Table
does reading m h t = after_deed reading (mine h) t (decision m h reading (ground_of t) t.slots.all)

abbrev read : Outcome → Given × Table
read o = (given_by o, o.answer.table)

matched : (t : Table) (reading : ℕ) (own : Slot → Bool) (e : Effect) (d : Deed) → Matches t own e d → read (accepted_as t reading e) ≡ after_deed reading own t d
matched t reading own e d x = λ i. (
  x.answer i,
  record { slots = record { all = x.slots i }; last = reading; doubts = x.doubts i; global = x.global i; out = x.out i; pool = t.pool },
)

pub accepted_does : (t : Table) (reading : ℕ) (m : List ℕ) (h : Header) → eqb h.reference 0 ≡ false
    → read (accepted_as t reading (heard_by t reading m (Some h))) ≡ does reading m h t
accepted_does t reading m h e =
    ap (λ (b : Bool). read (accepted_as t reading (cond b (effects.global_effect t m h) (effects.addressed t m h reading (place (mine h) t.slots.all))))) e
    ∙ matched t reading (mine h) _ _ (addressed_matches t (mine h) m h reading)

unless : (t : Table) (n : ℕ) (o : Outcome) (b : Bool) → eqb n 0 ≡ b → read (unless_refused t n o) ≡ cond (not b) (refused_with n, t) (read o)
unless t n o true e = rw e
unless t n o false e = rw e

-- a message that is refused leaves the table
abbrev pub takes : ℕ → Heard → Table → Given × Table
takes reading m t = cond (not (eqb (refusal_of m) 0)) (refused_with (refusal_of m), t) (does reading m.octets (headed m) t)

pub hears : (t : Table) (reading : ℕ) (m : Heard) → AcceptedIn t reading → Qualifies m → hear reading t m ≡ takes reading m t
hears t reading m a q =
    ap (λ (n : ℕ). read (unless_refused t n (accepted_as t reading (heard_by t reading m.octets (head_of m.octets))))) (refusal_alone t reading m a)
    ∙ unless t (refusal_of m) _ (eqb (refusal_of m) 0) refl
    ∙ ap (λ (x : Given × Table). cond (not (eqb (refusal_of m) 0)) (refused_with (refusal_of m), t) x)
    (ap (λ (x : Option Header). read (accepted_as t reading (heard_by t reading m.octets x))) q.passes
    ∙ accepted_does t reading m.octets (headed m) (ne_eqb _ _ q.local))

kept_by : (b : Bool) (reading : ℕ) (t : Table) (g : Given) (x : Given × Table) → AcceptedIn t reading → x.1.last ≡ reading → AcceptedIn (cond b (g, t) x).1 reading
kept_by true reading t g x a e = a
kept_by false reading t g x a e = record { not_above = a.not_above; not_below = rw e (le_refl reading) }

pub still_accepted : (t : Table) (reading : ℕ) (m : Heard) → AcceptedIn t reading → AcceptedIn (takes reading m t).1 reading
still_accepted t reading m a = kept_by (not (eqb (refusal_of m) 0)) reading t (refused_with (refusal_of m)) (does reading m.octets (headed m) t) a refl
