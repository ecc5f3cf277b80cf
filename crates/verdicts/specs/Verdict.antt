-- What is decided of a call: what becomes of it, and the reply.
--   plain_cause, because     a cause without and with a diagnostic
--   notice_number           the number of a notice, 0 for none
--   silent, answered        the call stays, without and with a reply
--   moved, ended, lost      the call goes to another state; the call is gone; it is gone, and its pair is in doubt
-- Assumes nothing.
use Rattle.std.specs.Prelude.{ℕ, Option, Some, None}
use Rattle.calls.specs.declared.State.{State}
use Rattle.replies.specs.declared.Diagnostic.{Diagnostic}
use Rattle.replies.specs.declared.Diagnostic.TheVariants as diagnostic
use Rattle.replies.specs.declared.Cause.{Cause}
use Rattle.replies.specs.declared.Reply.{Reply}
use Rattle.replies.specs.declared.Reply.TheVariants as reply
use Rattle.verdicts.specs.declared.Fate.TheVariants.{Stay, To, Gone, InDoubt}
use Rattle.verdicts.specs.declared.Verdict.{Verdict}
use Rattle.verdicts.specs.declared.Notice.{Notice}
use Rattle.verdicts.specs.declared.Notice.TheVariants.{Asked, Answered, Gone as Ended}

abbrev pub because : ℕ → Diagnostic → Cause
because n d = record { number = n; diagnostic = d }

abbrev pub plain_cause : ℕ → Cause
plain_cause n = because n diagnostic.None

abbrev pub answered : Reply → Verdict
answered r = record { fate = Stay; reply = r }

abbrev pub silent : Verdict
silent = answered reply.None

-- "Where no notice is named it is 0."
abbrev pub notice_number : Option Notice → ℕ
notice_number None = 0
notice_number (Some Asked) = 1
notice_number (Some Answered) = 2
notice_number (Some Ended) = 3

abbrev pub moved : State → Reply → Option Notice → Verdict
moved q r notice = record { fate = To q notice; reply = r }

-- ""Gone" empties slot and pair, notice 3."
abbrev pub ended : Reply → Verdict
ended r = record { fate = Gone; reply = r }

-- document 02, R-2: "Now the pair is in doubt, not free; the slot is empty, notice 3."
abbrev pub lost : Verdict
lost = record { fate = InDoubt; reply = reply.None }
