-- The judgement of a message on a live call, on no call and on the global reference.
--   release_complete, release_reply  RELEASE on a live call
--   status_verdict, status_of        STATUS on a live call; STATUS that we send about one
--   contents_verdict                step 6 of an expected message
--   judged_as, judge                steps 3 to 6 of a message on a live call
--   status_reply, no_call_reply       steps 3 to 6 of a message on no call, other than SETUP
--   global_reply                    step 3 of a message on the global reference, other than RESTART with flag 0
-- Assumes nothing.
use Rattle.verdicts.specs.declared.Notice.TheVariants as notice
use Rattle.std.specs.Prelude.{ℕ, ◌+◌, cond, ◌&&◌, List, eqb, Some, None}
use Rattle.calls.specs.declared.State.{State}
use Rattle.calls.specs.declared.State.TheVariants.{N3, N6, N9, N10, N12}
use Rattle.calls.specs.Calls.{state_number}
use Rattle.calls.specs.Timers.{t310}
use Rattle.header.specs.declared.Header.{Header}
use Rattle.elements.specs.declared.Read.{Read}
use Rattle.elements.specs.declared.Read.TheVariants as elem
use Rattle.elements.specs.Values.{cause_in, call_state_in}
use Rattle.replies.specs.declared.Diagnostic.{Diagnostic}
use Rattle.replies.specs.declared.Diagnostic.TheVariants as diagnostic
use Rattle.replies.specs.declared.Reply.{Reply}
use Rattle.replies.specs.declared.Reply.TheVariants as reply
use Rattle.verdicts.specs.declared.Verdict.{Verdict}
use Rattle.verdicts.specs.Verdict.{because, plain_cause, answered, silent, moved, ended}
use Rattle.judging.specs.declared.Class.{Class}
use Rattle.judging.specs.declared.Class.TheVariants as class
use Rattle.judging.specs.declared.Kind.{Kind}
use Rattle.judging.specs.declared.Kind.TheVariants as kind
use Rattle.judging.specs.Class.{classify}

-- "Else gone, RELEASE COMPLETE: no element, or 96 or 100 with 08 if Cause is absent or unreadable."
abbrev pub release_complete : Read ℕ → Reply
release_complete elem.Absent = reply.ReleaseCompleteWith (because 96 (diagnostic.Octet 0x08))
release_complete elem.Unreadable = reply.ReleaseCompleteWith (because 100 (diagnostic.Octet 0x08))
release_complete (elem.Readable n) = reply.ReleaseComplete

-- "RELEASE: in N12, gone, no reply. Else gone, RELEASE COMPLETE"
abbrev pub release_reply : State → Read ℕ → Reply
release_reply N3 c = release_complete c
release_reply (N6 d) c = release_complete c
release_reply (N9 d) c = release_complete c
release_reply N10 c = release_complete c
release_reply (N12 k d) c = reply.None

-- "STATUS: without a readable Call state, nothing; live call and state 0, gone; .. else nothing."
abbrev pub status_verdict : Read ℕ → Verdict
status_verdict elem.Absent = silent
status_verdict elem.Unreadable = silent
status_verdict (elem.Readable s) = cond (eqb s 0) (ended reply.None) silent

-- "STATUS ENQUIRY: STATUS cause 30."; "with the type as diagnostic and the current state"
abbrev pub status_of : State → ℕ → Diagnostic → Reply
status_of state n d = reply.Status (state_number state) (because n d)

-- "6. Contents." "CALL PROCEEDING: N6 to N9, T310." ("T310 10,000") "CONNECT: N6 or N9 to N10, reply CONNECT ACKNOWLEDGE, notice 2."
-- "CONNECT ACKNOWLEDGE: N10, nothing." "RELEASE COMPLETE: gone." RELEASE, STATUS ENQUIRY and STATUS as above
abbrev pub contents_verdict : Kind → List ℕ → State → ℕ → Verdict
contents_verdict kind.CallProceeding m state reading = moved (N9 (reading + t310)) reply.None None
contents_verdict kind.Connect m state reading = moved N10 reply.ConnectAcknowledge (Some notice.Answered)
contents_verdict kind.ConnectAcknowledge m state reading = silent
contents_verdict kind.Release m state reading = ended (release_reply state (cause_in m 9))
contents_verdict kind.ReleaseComplete m state reading = ended reply.None
contents_verdict kind.StatusEnquiry m state reading = answered (status_of state 30 diagnostic.None)
contents_verdict kind.Status m state reading = status_verdict (call_state_in m 9)

-- "4. Live call: unknown type gets STATUS 97; a known type not expected gets STATUS 101, both with the type as diagnostic and
-- the current state." "5. Length field not equal to the octets after octet 9: ignored (house)."
abbrev pub judged_as : Class → List ℕ → Header → State → ℕ → Verdict
judged_as class.Ignored m h state reading = silent
judged_as class.Unknown m h state reading = answered (status_of state 97 (diagnostic.Octet h.kind))
judged_as class.Unexpected m h state reading = answered (status_of state 101 (diagnostic.Octet h.kind))
judged_as (class.Expected k) m h state reading = cond h.whole (contents_verdict k m state reading) silent

abbrev pub judge : List ℕ → Header → State → ℕ → Verdict
judge m h state reading = judged_as (classify h.kind state) m h state reading

-- "no call and state not 0, RELEASE COMPLETE 101 without diagnostic"
abbrev pub status_reply : Read ℕ → Reply
status_reply elem.Absent = reply.None
status_reply elem.Unreadable = reply.None
status_reply (elem.Readable s) = cond (eqb s 0) reply.None (reply.ReleaseCompleteWith (plain_cause 101))

-- "No such call: RELEASE COMPLETE does nothing; STATUS ENQUIRY gets STATUS, state 0, cause 30; STATUS goes on; others but
-- SETUP get RELEASE COMPLETE cause 81."
abbrev pub no_call_reply : List ℕ → Header → Reply
no_call_reply m h =
    cond (eqb h.kind 0x5A)
    reply.None
    (cond (eqb h.kind 0x75)
    (reply.Status 0 (plain_cause 30))
    (cond (eqb h.kind 0x7D)
    (cond h.whole (status_reply (call_state_in m 9)) reply.None)
    (reply.ReleaseCompleteWith (plain_cause 81))))

-- "Global: STATUS does nothing. RESTART with flag 0 goes on. RESTART ACKNOWLEDGE with flag 1: STATUS cause 101. All else:
-- STATUS cause 81. Global STATUS shows state 0." "A global 101 carries its type too." Document 02, R-4: "Global STATUS now shows Restart
-- Request, 61, while waiting."
abbrev pub global_reply : ℕ → Header → Reply
global_reply state h =
    cond (eqb h.kind 0x7D)
    reply.None
    (cond (eqb h.kind 0x4E && h.flag)
    (reply.Status state (because 101 (diagnostic.Octet 0x4E)))
    (reply.Status state (plain_cause 81)))
