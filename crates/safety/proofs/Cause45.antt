-- Which replies carry cause 45, and which do not.
--   cause_of, is45, sends45     the cause number of a reply; if it is 45; if what is sent is such a reply
--   unsaid                     octets of a message that holds no Cause do not say 45
--   says_45                    octets that say 45 are of a reply that is 45
--   admission_not_45, no_call_not_45, global_not_45, heard_not_45       no reply to a message is, but the one for no free pair
--   own_not_45                 nor is our RESTART
--   host_not_45, judged_not_45     and none of the host's, or of a timer
-- Assumes nothing.
use Prim.Native.Nat.{ℕ, ◌+◌, ◌%◌}
use mathlib.Core.Path.{◌≡◌, refl}
use mathlib.Core.Bool.{Bool, true, false, not, ◌&&◌, ◌||◌}
use mathlib.Core.List.{List}
use native.Mathlib.Omega.{arith}
use lib.Dec.{eqb}
use lib.ListN.{get_or}
use borrow.Author.Tests.{eq-eqb, not-true}
use Rattle.std.specs.Prelude.{Result, Ok, Err, ⊤}
use Rattle.traffic.specs.Traffic.{member}
use Rattle.channels.specs.declared.Named.{Named}
use Rattle.channels.specs.declared.Named.TheVariants as named
use Rattle.channels.proofs.Cases.{clash}
use Rattle.calls.specs.declared.Clearing.{Clearing}
use Rattle.calls.specs.declared.State.{State}
use Rattle.calls.specs.declared.State.TheVariants.{N3, N6, N9, N10, N12}
use Rattle.header.specs.declared.Header.{Header}
use Rattle.elements.specs.declared.Read.{Read}
use Rattle.elements.specs.declared.Read.TheVariants as elem
use Rattle.elements.specs.Values.{cause_in, call_state_in}
use Rattle.replies.specs.declared.Cause.{Cause}
use Rattle.replies.specs.declared.Reply.{Reply}
use Rattle.replies.specs.declared.Reply.TheVariants as reply
use Rattle.replies.specs.declared.Outgoing.{Outgoing}
use Rattle.replies.specs.declared.Outgoing.TheVariants as outgoing
use Rattle.replies.specs.Reply.{reply_octets, sent_octets}
use Rattle.elements.specs.Elements.{is_absent, is_unreadable}
use Rattle.setup.specs.Setup.{found_in, chosen, some_named, multipoint_in, allowed_in, admission}
use Rattle.verdicts.specs.declared.Verdict.{Verdict}
use Rattle.judging.specs.Judge.{release_complete, release_reply, status_reply, no_call_reply, global_reply}
use Rattle.restarts.specs.Own.{restart_of}
use Rattle.refusals.specs.Refusals.{host_causes}
use Rattle.refusals.proofs.Causes.{member-passes}
use Rattle.views.proofs.Verdicts as verdict
use Rattle.safety.specs.Sound.{StateSound, by_host, by_timer}
use Rattle.safety.specs.NoPair.{Says45, in_release, in_release_complete, in_status}

-- The cause of a reply.

abbrev cause_of : Reply → ℕ
cause_of reply.None = 0
cause_of (reply.CallProceeding c) = 0
cause_of reply.Connect = 0
cause_of reply.ConnectAcknowledge = 0
cause_of (reply.Release c) = c.number
cause_of reply.ReleaseComplete = 0
cause_of (reply.ReleaseCompleteWith c) = c.number
cause_of (reply.Status s c) = c.number
cause_of reply.RestartAcknowledgeAll = 0
cause_of (reply.RestartAcknowledge c) = 0
cause_of reply.RestartAll = 0
cause_of (reply.Restart c) = 0

abbrev is45 : Reply → Bool
is45 a = eqb (cause_of a % 128) 45

abbrev pub sends45 : Outgoing → Bool
sends45 (outgoing.Reply a) = is45 a
sends45 (outgoing.Setup c) = false

-- types of messages that hold a Cause
abbrev holds_cause : ℕ → Bool
holds_cause k = eqb k 0x4D || (eqb k 0x5A || eqb k 0x7D)

pub unsaid : {P : Type 0} (octets : List ℕ) → holds_cause (get_or octets 5 0) ≡ false → Says45 octets → P
unsaid octets none (in_release k c) = clash (rw k) none
unsaid octets none (in_release_complete k c) = clash (rw k) none
unsaid octets none (in_status k c) = clash (rw k) none

-- an octet of a cause number plus 80 hex
cause_octet : (n : ℕ) → n % 128 + 0x80 ≡ 0xAD → eqb (n % 128) 45 ≡ true
cause_octet n h = eq-eqb (n % 128) 45 (omega arith)

reply_says_45 : (flag : Bool) (r : ℕ) (a : Reply) → Says45 (reply_octets flag r a) → is45 a ≡ true
reply_says_45 flag r reply.None s = unsaid _ refl s
reply_says_45 flag r (reply.CallProceeding c) s = unsaid _ refl s
reply_says_45 flag r reply.Connect s = unsaid _ refl s
reply_says_45 flag r reply.ConnectAcknowledge s = unsaid _ refl s
reply_says_45 flag r (reply.Release c) (in_release k d) = cause_octet c.number d
reply_says_45 flag r (reply.Release c) (in_release_complete k d) = absurd (omega arith)
reply_says_45 flag r (reply.Release c) (in_status k d) = absurd (omega arith)
reply_says_45 flag r reply.ReleaseComplete (in_release k d) = absurd (omega arith)
reply_says_45 flag r reply.ReleaseComplete (in_release_complete k d) = absurd (omega arith)
reply_says_45 flag r reply.ReleaseComplete (in_status k d) = absurd (omega arith)
reply_says_45 flag r (reply.ReleaseCompleteWith c) (in_release k d) = absurd (omega arith)
reply_says_45 flag r (reply.ReleaseCompleteWith c) (in_release_complete k d) = cause_octet c.number d
reply_says_45 flag r (reply.ReleaseCompleteWith c) (in_status k d) = absurd (omega arith)
reply_says_45 flag r (reply.Status s c) (in_release k d) = absurd (omega arith)
reply_says_45 flag r (reply.Status s c) (in_release_complete k d) = absurd (omega arith)
reply_says_45 flag r (reply.Status s c) (in_status k d) = cause_octet c.number d
reply_says_45 flag r reply.RestartAcknowledgeAll s = unsaid _ refl s
reply_says_45 flag r (reply.RestartAcknowledge c) s = unsaid _ refl s
reply_says_45 flag r reply.RestartAll s = unsaid _ refl s
reply_says_45 flag r (reply.Restart c) s = unsaid _ refl s

pub says_45 : (flag : Bool) (r : ℕ) (o : Outgoing) (body : List ℕ) → Says45 (sent_octets flag r o body) → sends45 o ≡ true
says_45 flag r (outgoing.Reply a) body s = reply_says_45 flag r a s
says_45 flag r (outgoing.Setup c) body s = unsaid _ refl s

-- Every other reply.

abbrev pub Not45 : Reply → Type 0
Not45 a = is45 a ≡ false

abbrev pub AdmissionNot45 : Result ⊤ Cause → Type 0
AdmissionNot45 (Ok u) = Unit {0}
AdmissionNot45 (Err c) = Not45 (reply.ReleaseCompleteWith c)

pub admission_not_45 : (m : List ℕ) (from : ℕ) → AdmissionNot45 (admission m from)
admission_not_45 m from =
    verdict.by_cond AdmissionNot45 (some_named (chosen is_absent (found_in m from))) _ _ refl
    (verdict.by_cond AdmissionNot45 (some_named (chosen is_unreadable (found_in m from))) _ _ refl
    (verdict.by_cond AdmissionNot45 (multipoint_in m (found_in m from).bearer) _ _ refl
    (verdict.by_cond AdmissionNot45 (allowed_in m (found_in m from).traffic) (Ok tt) _ tt refl)))

status_reply_not_45 : (r : Read ℕ) → Not45 (status_reply r)
status_reply_not_45 elem.Absent = refl
status_reply_not_45 elem.Unreadable = refl
status_reply_not_45 (elem.Readable s) = verdict.by_cond Not45 (eqb s 0) _ _ refl refl

pub no_call_not_45 : (m : List ℕ) (h : Header) → Not45 (no_call_reply m h)
no_call_not_45 m h =
    verdict.by_cond Not45 (eqb h.kind 0x5A) _ _ refl
    (verdict.by_cond Not45 (eqb h.kind 0x75) _ _ refl
    (verdict.by_cond Not45 (eqb h.kind 0x7D) _ _ (verdict.by_cond Not45 h.whole _ _ (status_reply_not_45 (call_state_in m 9)) refl) refl))

pub global_not_45 : (state : ℕ) (h : Header) → Not45 (global_reply state h)
global_not_45 state h = verdict.by_cond Not45 (eqb h.kind 0x7D) _ _ refl (verdict.by_cond Not45 (eqb h.kind 0x4E && h.flag) _ _ refl refl)

pub own_not_45 : (which : Named) → Not45 (restart_of which)
own_not_45 named.All = refl
own_not_45 (named.One pv) = refl

-- A verdict on a live call.

abbrev pub VerdictNot45 : Verdict → Type 0
VerdictNot45 v = Not45 v.reply

says_not_45 : (q : State) (k : ℕ) (a : Reply) → verdict.Says q k a → Not45 a
says_not_45 q k a verdict.nothing = refl
says_not_45 q k a verdict.enquired = refl
says_not_45 q k a verdict.unknown = refl
says_not_45 q k a verdict.unexpected = refl

complete_not_45 : (r : Read ℕ) → Not45 (release_complete r)
complete_not_45 elem.Absent = refl
complete_not_45 elem.Unreadable = refl
complete_not_45 (elem.Readable n) = refl

release_not_45 : (q : State) (r : Read ℕ) → Not45 (release_reply q r)
release_not_45 N3 r = complete_not_45 r
release_not_45 (N6 d) r = complete_not_45 r
release_not_45 (N9 d) r = complete_not_45 r
release_not_45 N10 r = complete_not_45 r
release_not_45 (N12 k d) r = refl

pub heard_not_45 : (reading k : ℕ) (q : State) (v : Verdict) → verdict.Heard reading k q v → VerdictNot45 v
heard_not_45 reading k q v (verdict.says a s) = says_not_45 q k a s
heard_not_45 reading k q v (verdict.to_N9 d g) = refl
heard_not_45 reading k q v (verdict.to_N10 a) = refl
heard_not_45 reading k q v (verdict.by_release m) = release_not_45 q (cause_in m 9)
heard_not_45 reading k q v verdict.at_once = refl

-- A cause that the host may use is not 45, nor is the cause of a sound call in N12.
pub host_not_45 : (n : ℕ) → member n host_causes ≡ true → eqb (n % 128) 45 ≡ false
host_not_45 n host = not-true (eqb (n % 128) 45) (member-passes (λ x. not (eqb (x % 128) 45)) n host_causes refl host)

clearing_not_45 : (last : ℕ) (network : Bool) (k : Clearing) (d : ℕ) → StateSound last network (N12 k d) → eqb (k.cause % 128) 45 ≡ false
clearing_not_45 last network k d (by_host _ _ _ below host plain) = host_not_45 k.cause host
clearing_not_45 last network k d (by_timer _ _ below cause timed) = rw cause

pub judged_not_45 : (last : ℕ) (network : Bool) (reading : ℕ) (full : Bool) (q : State) (v : Verdict) → StateSound last network q → verdict.Judged reading full q v → VerdictNot45 v
judged_not_45 last network reading full q v sound (verdict.stays k a s) = says_not_45 q k a s
judged_not_45 last network reading full q v sound (verdict.proceeds d g) = refl
judged_not_45 last network reading full q v sound (verdict.connects a) = refl
judged_not_45 last network reading full q v sound (verdict.releases m) = release_not_45 q (cause_in m 9)
judged_not_45 last network reading full q v sound verdict.ends = refl
judged_not_45 last network reading full q v sound (verdict.times_out d g) = refl
judged_not_45 last network reading full q v sound (verdict.sends_again k d g first) = clearing_not_45 last network k d (rw g at sound)
judged_not_45 last network reading full q v sound (verdict.waits k d g second room) = refl
judged_not_45 last network reading full q v sound (verdict.loses k d g second room) = refl
