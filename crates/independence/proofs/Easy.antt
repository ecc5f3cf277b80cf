-- A CALL PROCEEDING, CONNECT, CONNECT ACKNOWLEDGE or STATUS ENQUIRY ends no call.
--   EasyClass, judged_calm     what these four are to a live call, and that it stays or goes to another state
--   easy_calm                  so it is of every decision on one of them
--   easy_not_setup             none of them is SETUP
-- Assumes nothing.
use Rattle.std.specs.Prelude.{Option, Some, None}
use Prim.Native.Nat.{ℕ}
use mathlib.Core.Path.{◌≡◌, refl}
use mathlib.Core.Bool.{true, false}
use mathlib.Core.List.{List}
use lib.Dec.{eqb}
use borrow.Author.Tests.{eqb-true}
use Rattle.identifier.specs.declared.Pair.{Pair}
use Rattle.channels.proofs.Cases.{by_test, clash}
use Rattle.calls.specs.declared.State.{State}
use Rattle.calls.specs.declared.State.TheVariants.{N3, N6, N9, N10, N12}
use Rattle.calls.specs.declared.Hold.{Hold}
use Rattle.calls.specs.declared.Hold.TheVariants.{Empty, Live}
use Rattle.header.specs.declared.Header.{Header}
use Rattle.verdicts.specs.declared.Verdict.{Verdict}
use Rattle.judging.specs.declared.Class.{Class}
use Rattle.judging.specs.declared.Class.TheVariants as class
use Rattle.judging.specs.declared.Kind.{Kind}
use Rattle.judging.specs.declared.Kind.TheVariants as kind
use Rattle.judging.specs.Class.{classify, when_n6, when_n6_or_n9, when_n10}
use Rattle.judging.specs.Judge.{contents_verdict, judged_as}
use Rattle.views.proofs.Verdicts.{by_cond}
use Rattle.independence.specs.Independence.{Given, easy}
use Rattle.independence.proofs.Deeds.{Deed, turns, Sight, on_no_call, on_hold, decide_at, decide}
use Rattle.independence.proofs.Local.{Calm, stay, to}

data EasyKind : Kind → Type 0 where
  proceeding : EasyKind kind.CallProceeding
  connect : EasyKind kind.Connect
  acknowledge : EasyKind kind.ConnectAcknowledge
  enquiry : EasyKind kind.StatusEnquiry

data EasyClass : Class → Type 0 where
  unexpected : EasyClass class.Unexpected
  expected : {k : Kind} → EasyKind k → EasyClass (class.Expected k)

contents_calm : {k : Kind} (m : List ℕ) (q : State) (reading : ℕ) → EasyKind k → Calm (contents_verdict k m q reading).fate
contents_calm m q reading proceeding = to _ _
contents_calm m q reading connect = to _ _
contents_calm m q reading acknowledge = stay
contents_calm m q reading enquiry = stay

judged_calm : (c : Class) (m : List ℕ) (h : Header) (q : State) (reading : ℕ) → EasyClass c → Calm (judged_as c m h q reading).fate
judged_calm c m h q reading unexpected = stay
judged_calm c m h q reading (expected e) = by_cond (λ (v : Verdict). Calm v.fate) h.whole _ _ (contents_calm m q reading e) stay

easy_N6 : (q : State) (c : Class) → EasyClass c → EasyClass (when_n6 q c)
easy_N6 N3 c e = unexpected
easy_N6 (N6 d) c e = e
easy_N6 (N9 d) c e = unexpected
easy_N6 N10 c e = unexpected
easy_N6 (N12 k d) c e = unexpected

easy_N6or9 : (q : State) (c : Class) → EasyClass c → EasyClass (when_n6_or_n9 q c)
easy_N6or9 N3 c e = unexpected
easy_N6or9 (N6 d) c e = e
easy_N6or9 (N9 d) c e = e
easy_N6or9 N10 c e = unexpected
easy_N6or9 (N12 k d) c e = unexpected

easy_N10 : (q : State) (c : Class) → EasyClass c → EasyClass (when_n10 q c)
easy_N10 N3 c e = unexpected
easy_N10 (N6 d) c e = unexpected
easy_N10 (N9 d) c e = unexpected
easy_N10 N10 c e = e
easy_N10 (N12 k d) c e = unexpected

-- a type number that is easy is one of the four
by_easy : (P : ℕ → Type 0) (n : ℕ) → easy n ≡ true → P 0x02 → P 0x07 → P 0x0F → P 0x75 → P n
by_easy P n e a b c d =
    by_test (eqb n 0x02) (λ t. rw (eqb-true n 0x02 t) a)
    (λ t. by_test (eqb n 0x07) (λ u. rw (eqb-true n 0x07 u) b)
    (λ u. by_test (eqb n 0x0F) (λ v. rw (eqb-true n 0x0F v) c)
    (λ v. by_test (eqb n 0x75) (λ w. rw (eqb-true n 0x75 w) d) (λ w. clash e (rw (t, u, v, w))))))

easy_class : (n : ℕ) (q : State) → easy n ≡ true → EasyClass (classify n q)
easy_class n q e =
    by_easy (λ (k : ℕ). EasyClass (classify k q)) n e
    (easy_N6 q _ (expected proceeding))
    (easy_N6or9 q _ (expected connect))
    (easy_N10 q _ (expected acknowledge))
    (expected enquiry)

pub easy_not_setup : (n : ℕ) → easy n ≡ true → eqb n 0x05 ≡ false
easy_not_setup n e = by_easy (λ (k : ℕ). eqb k 0x05 ≡ false) n e refl refl refl refl

pub data CalmDeed : Deed → Type 0 where
  calm : (g : Given) {f : _} → Calm f → CalmDeed (turns g f)

no_call_calm : (m : List ℕ) (h : Header) (f : Option ℕ) (c : Option Pair) → eqb h.kind 0x05 ≡ false → CalmDeed (on_no_call m h f c)
no_call_calm m h f c e = rw e (calm _ stay)

hold_calm : (m : List ℕ) (h : Header) (reading i : ℕ) (k : Hold) → easy h.kind ≡ true → CalmDeed (on_hold m h reading i k)
hold_calm m h reading i Empty e = calm _ stay
hold_calm m h reading i (Live c q) e = calm _ (judged_calm _ m h q reading (easy_class h.kind q e))

found_calm : (m : List ℕ) (h : Header) (reading : ℕ) (see : Sight) (f : Option ℕ) → easy h.kind ≡ true → CalmDeed (decide_at m h reading see f)
found_calm m h reading see None e = no_call_calm m h see.empty see.pair (easy_not_setup h.kind e)
found_calm m h reading see (Some i) e = hold_calm m h reading i see.slot.hold e

pub easy_calm : (m : List ℕ) (h : Header) (reading : ℕ) (see : Sight) → easy h.kind ≡ true → CalmDeed (decide m h reading see)
easy_calm m h reading see e = found_calm m h reading see see.call e
