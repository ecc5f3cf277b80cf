-- RELEASE that we send, and what a firing timer does (document 01, "Host and timers"; document 02, R-2).
--   diagnosed, clearing, released    RELEASE with its cause and diagnostic, in N12 with T308
--   waiting, expire_clearing          T308 fires
--   expire                           any timer fires
--   last_t308                         if the second T308 runs
-- Assumes nothing.
use Rattle.std.specs.Prelude.{ℕ, ◌+◌, Bool, true, false, cond, None}
use Rattle.calls.specs.declared.State.{State}
use Rattle.calls.specs.declared.State.TheVariants.{N3, N6, N9, N10, N12}
use Rattle.calls.specs.declared.Clearing.{Clearing}
use Rattle.calls.specs.Timers.{t308}
use Rattle.replies.specs.declared.Diagnostic.{Diagnostic}
use Rattle.replies.specs.declared.Diagnostic.TheVariants as diagnostic
use Rattle.replies.specs.declared.Reply.TheVariants as reply
use Rattle.verdicts.specs.declared.Verdict.{Verdict}
use Rattle.verdicts.specs.Verdict.{because, silent, moved, ended, lost}

-- the diagnostic "310" or none
abbrev pub diagnosed : Bool → Diagnostic
diagnosed expired = cond expired diagnostic.Timer diagnostic.None

-- RELEASE with its cause, and T308
abbrev pub clearing : ℕ → Bool → ℕ → Bool → State
clearing reading second cause expired = N12 (record { second = second; cause = cause; expired = expired }) (reading + t308)

abbrev pub released : ℕ → Bool → ℕ → Bool → Verdict
released reading second cause expired =
    moved (clearing reading second cause expired) (reply.Release (because cause (diagnosed expired))) None

-- document 02, R-2: "with 64, a second expiry keeps the call in N12 and starts T308 again, sending nothing"
abbrev pub waiting : ℕ → Clearing → Verdict
waiting reading k = moved (clearing reading true k.cause k.expired) reply.None None

-- "T308 30,000: first, RELEASE with the first cause and diagnostic again and T308; second, gone." (document 02, R-2: in doubt; full:
-- there are 64 pairs in doubt)
abbrev pub expire_clearing : Bool → Clearing → ℕ → Verdict
expire_clearing full k reading = cond k.second (cond full (waiting reading k) lost) (released reading true k.cause k.expired)

-- "T303 4,000 ms: gone, no message (house). T310 10,000: RELEASE 102, diagnostic "310", N12, T308." N3 and N10 run no timer
abbrev pub expire : Bool → State → ℕ → Verdict
expire full N3 reading = silent
expire full (N6 d) reading = ended reply.None
expire full (N9 d) reading = released reading false 102 true
expire full N10 reading = silent
expire full (N12 k d) reading = expire_clearing full k reading

-- document 02, R-2: "on the second T308 expiry": the second T308 runs in this state
abbrev pub last_t308 : State → Bool
last_t308 N3 = false
last_t308 (N6 d) = false
last_t308 (N9 d) = false
last_t308 N10 = false
last_t308 (N12 k d) = k.second
