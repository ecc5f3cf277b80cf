-- Everything that can be decided of a live call in state q, at a reading; full: there is no room for a doubt.
--   by_cond, by_choice a choice, without and with its test
--   Asked              what is asked of the states in which a message is answered by CONNECT ACKNOWLEDGE
--   Says               the replies to a message that leaves the call as it is
--   Heard, heard       what a message of type k does
--   Judged             the view: by a message, by a timer
--   judged             what a message does, in the view
--   expired            what a firing timer does, in the view
-- Assumes nothing.
use Rattle.std.specs.Prelude.{Some, None}
use Rattle.verdicts.specs.declared.Notice.TheVariants as notice
use Prim.Native.Nat.{ℕ, ◌+◌}
use mathlib.Core.Path.{◌≡◌, refl}
use mathlib.Core.Bool.{Bool, true, false, cond}
use mathlib.Core.List.{List}
use lib.Dec.{eqb}
use Rattle.calls.specs.declared.Clearing.{Clearing}
use Rattle.calls.specs.declared.State.{State}
use Rattle.calls.specs.declared.State.TheVariants.{N3, N6, N9, N10, N12}
use Rattle.calls.specs.Timers.{t310}
use Rattle.header.specs.declared.Header.{Header}
use Rattle.elements.specs.declared.Read.{Read}
use Rattle.elements.specs.declared.Read.TheVariants as elem
use Rattle.elements.specs.Values.{cause_in, call_state_in}
use Rattle.replies.specs.declared.Diagnostic.TheVariants as diagnostic
use Rattle.replies.specs.declared.Reply.{Reply}
use Rattle.replies.specs.declared.Reply.TheVariants as reply
use Rattle.verdicts.specs.declared.Verdict.{Verdict}
use Rattle.verdicts.specs.Verdict.{answered, silent, moved, ended, lost}
use Rattle.verdicts.specs.Expiry.{released, waiting, expire}
use Rattle.judging.specs.declared.Class.{Class}
use Rattle.judging.specs.declared.Class.TheVariants as class
use Rattle.judging.specs.declared.Kind.{Kind}
use Rattle.judging.specs.declared.Kind.TheVariants as kind
use Rattle.judging.specs.Class.{when_n6, when_n6_or_n9, when_n10}
use Rattle.judging.specs.Judge.{release_reply, status_verdict, status_of, contents_verdict, judged_as, judge}

-- either value of a choice, and that with the test that chooses it
pub by_cond : {A : Type 0} (P : A → Type 0) (b : Bool) (x y : A) → P x → P y → P (cond b x y)
by_cond P true x y a b = a
by_cond P false x y a b = b

pub by_choice : {A : Type 0} (P : A → Type 0) (b : Bool) (x y : A) → (b ≡ true → P x) → (b ≡ false → P y) → P (cond b x y)
by_choice P true x y a b = a refl
by_choice P false x y a b = b refl

-- N6 and N9: the network's call is offered, or proceeding
pub data Asked : State → Type 0 where
  in_N6 : (d : ℕ) → Asked (N6 d)
  in_N9 : (d : ℕ) → Asked (N9 d)

-- replies to a message of type k that leaves the call as it is
pub data Says (q : State) (k : ℕ) : Reply → Type 0 where
  nothing : Says q k reply.None
  enquired : Says q k (status_of q 30 diagnostic.None)
  unknown : Says q k (status_of q 97 (diagnostic.Octet k))
  unexpected : Says q k (status_of q 101 (diagnostic.Octet k))

-- what a message of type k decides
pub data Heard (reading k : ℕ) (q : State) : Verdict → Type 0 where
  says : (a : Reply) → Says q k a → Heard reading k q (answered a)
  to_N9 : (d : ℕ) → q ≡ N6 d → Heard reading k q (moved (N9 (reading + t310)) reply.None None)
  to_N10 : Asked q → Heard reading k q (moved N10 reply.ConnectAcknowledge (Some notice.Answered))
  by_release : (m : List ℕ) → Heard reading k q (ended (release_reply q (cause_in m 9)))
  at_once : Heard reading k q (ended reply.None)

pub data Judged (reading : ℕ) (full : Bool) (q : State) : Verdict → Type 0 where
  -- a message, of type k, leaves the call as it is; a timer or a command with nothing to do
  stays : (k : ℕ) (a : Reply) → Says q k a → Judged reading full q (answered a)
  -- CALL PROCEEDING
  proceeds : (d : ℕ) → q ≡ N6 d → Judged reading full q (moved (N9 (reading + t310)) reply.None None)
  -- CONNECT
  connects : Asked q → Judged reading full q (moved N10 reply.ConnectAcknowledge (Some notice.Answered))
  -- RELEASE, RELEASE COMPLETE, STATUS with state 0; T303
  releases : (m : List ℕ) → Judged reading full q (ended (release_reply q (cause_in m 9)))
  ends : Judged reading full q (ended reply.None)
  -- T310
  times_out : (d : ℕ) → q ≡ N9 d → Judged reading full q (released reading false 102 true)
  -- T308: the first, the second without room for a doubt, the second with room
  sends_again : (k : Clearing) (d : ℕ) → q ≡ N12 k d → k.second ≡ false → Judged reading full q (released reading true k.cause k.expired)
  waits : (k : Clearing) (d : ℕ) → q ≡ N12 k d → k.second ≡ true → full ≡ true → Judged reading full q (waiting reading k)
  loses : (k : Clearing) (d : ℕ) → q ≡ N12 k d → k.second ≡ true → full ≡ false → Judged reading full q lost

module _ (reading : ℕ) (m : List ℕ) (h : Header) where
  abbrev HeardIn : State → Verdict → Type 0
  HeardIn = Heard reading h.kind

  abbrev HeardAs : State → Class → Type 0
  HeardAs q c = HeardIn q (judged_as c m h q reading)

  status_heard : (q : State) (r : Read ℕ) → HeardIn q (status_verdict r)
  status_heard q elem.Absent = says _ nothing
  status_heard q elem.Unreadable = says _ nothing
  status_heard q (elem.Readable s) = by_cond (HeardIn q) (eqb s 0) _ silent at_once (says _ nothing)

  expected : (q : State) (k : Kind) → HeardIn q (contents_verdict k m q reading) → HeardAs q (class.Expected k)
  expected q k j = by_cond (HeardIn q) h.whole (contents_verdict k m q reading) silent j (says _ nothing)

  proceeding : (q : State) → HeardAs q (when_n6 q (class.Expected kind.CallProceeding))
  proceeding N3 = says _ unexpected
  proceeding (N6 d) = expected (N6 d) kind.CallProceeding (to_N9 d refl)
  proceeding (N9 d) = says _ unexpected
  proceeding N10 = says _ unexpected
  proceeding (N12 k d) = says _ unexpected

  connecting : (q : State) → HeardAs q (when_n6_or_n9 q (class.Expected kind.Connect))
  connecting N3 = says _ unexpected
  connecting (N6 d) = expected (N6 d) kind.Connect (to_N10 (in_N6 d))
  connecting (N9 d) = expected (N9 d) kind.Connect (to_N10 (in_N9 d))
  connecting N10 = says _ unexpected
  connecting (N12 k d) = says _ unexpected

  acknowledging : (q : State) → HeardAs q (when_n10 q (class.Expected kind.ConnectAcknowledge))
  acknowledging N3 = says _ unexpected
  acknowledging (N6 d) = says _ unexpected
  acknowledging (N9 d) = says _ unexpected
  acknowledging N10 = expected N10 kind.ConnectAcknowledge (says _ nothing)
  acknowledging (N12 k d) = says _ unexpected

  pub heard : (q : State) → HeardIn q (judge m h q reading)
  heard q =
      let P = HeardAs q in
      by_cond P (eqb h.kind 0x02) _ _ (proceeding q)
      (by_cond P (eqb h.kind 0x05) _ _ (says _ nothing)
      (by_cond P (eqb h.kind 0x07) _ _ (connecting q)
      (by_cond P (eqb h.kind 0x0F) _ _ (acknowledging q)
      (by_cond P (eqb h.kind 0x46) _ _ (says _ unexpected)
      (by_cond P (eqb h.kind 0x4D) _ _ (expected q kind.Release (by_release m))
      (by_cond P (eqb h.kind 0x4E) _ _ (says _ unexpected)
      (by_cond P (eqb h.kind 0x5A) _ _ (expected q kind.ReleaseComplete at_once)
      (by_cond P (eqb h.kind 0x75) _ _ (expected q kind.StatusEnquiry (says _ enquired))
      (by_cond P (eqb h.kind 0x7D) _ _ (expected q kind.Status (status_heard q (call_state_in m 9))) (says _ unknown))))))))))

module _ (reading : ℕ) (full : Bool) where
  heard_judged : (k : ℕ) (q : State) (v : Verdict) → Heard reading k q v → Judged reading full q v
  heard_judged k q v (says a s) = stays k a s
  heard_judged k q v (to_N9 d g) = proceeds d g
  heard_judged k q v (to_N10 a) = connects a
  heard_judged k q v (by_release m) = releases m
  heard_judged k q v at_once = ends

  pub judged : (m : List ℕ) (h : Header) (q : State) → Judged reading full q (judge m h q reading)
  judged m h q = heard_judged h.kind q (judge m h q reading) (heard reading m h q)

  pub expired : (q : State) → Judged reading full q (expire full q reading)
  expired N3 = stays 0 _ nothing
  expired (N6 d) = ends
  expired (N9 d) = times_out d refl
  expired N10 = stays 0 _ nothing
  expired (N12 k d) =
      by_choice (Judged reading full (N12 k d)) k.second _ _
      (λ y. by_choice (Judged reading full (N12 k d)) full _ _ (waits k d refl y) (loses k d refl y))
      (sends_again k d refl)
