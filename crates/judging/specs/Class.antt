-- What a message is to a live call: the decision over the type number and the state (steps 3 and 4).
--   when_n6, when_n6_or_n9, when_n10    expected in these states, and not expected in the others
--   classify                the decision
-- Assumes nothing.
use Rattle.std.specs.Prelude.{ℕ, cond, eqb}
use Rattle.calls.specs.declared.State.{State}
use Rattle.calls.specs.declared.State.TheVariants.{N3, N6, N9, N10, N12}
use Rattle.judging.specs.declared.Class.{Class}
use Rattle.judging.specs.declared.Class.TheVariants.{Ignored, Unknown, Unexpected, Expected}
use Rattle.judging.specs.declared.Kind.TheVariants.{CallProceeding, Connect, ConnectAcknowledge, Release, ReleaseComplete, StatusEnquiry, Status}

-- "CALL PROCEEDING: N6 to N9"
abbrev pub when_n6 : State → Class → Class
when_n6 N3 c = Unexpected
when_n6 (N6 d) c = c
when_n6 (N9 d) c = Unexpected
when_n6 N10 c = Unexpected
when_n6 (N12 k d) c = Unexpected

-- "CONNECT: N6 or N9 to N10"
abbrev pub when_n6_or_n9 : State → Class → Class
when_n6_or_n9 N3 c = Unexpected
when_n6_or_n9 (N6 d) c = c
when_n6_or_n9 (N9 d) c = c
when_n6_or_n9 N10 c = Unexpected
when_n6_or_n9 (N12 k d) c = Unexpected

-- "CONNECT ACKNOWLEDGE: N10, nothing."
abbrev pub when_n10 : State → Class → Class
when_n10 N3 c = Unexpected
when_n10 (N6 d) c = Unexpected
when_n10 (N9 d) c = Unexpected
when_n10 N10 c = c
when_n10 (N12 k d) c = Unexpected

-- "SETUP .. on a live call: ignored." "unknown type gets STATUS 97; a known type not expected gets STATUS 101"; RELEASE, RELEASE
-- COMPLETE, STATUS ENQUIRY and STATUS "are expected in every live state", RESTART and RESTART ACKNOWLEDGE in none
abbrev pub classify : ℕ → State → Class
classify kind state =
    cond (eqb kind 0x02) (when_n6 state (Expected CallProceeding))
    (cond (eqb kind 0x05) Ignored
    (cond (eqb kind 0x07) (when_n6_or_n9 state (Expected Connect))
    (cond (eqb kind 0x0F) (when_n10 state (Expected ConnectAcknowledge))
    (cond (eqb kind 0x46) Unexpected
    (cond (eqb kind 0x4D) (Expected Release)
    (cond (eqb kind 0x4E) Unexpected
    (cond (eqb kind 0x5A) (Expected ReleaseComplete)
    (cond (eqb kind 0x75) (Expected StatusEnquiry)
    (cond (eqb kind 0x7D) (Expected Status) Unknown)))))))))
