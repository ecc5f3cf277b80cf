-- The message types that have a rule.
--   number_of      the number of a type
--   Decodes        a number's type, or that it has none, with the number
-- Assumes nothing.
use Rattle.std.specs.Prelude.{ℕ, ◌≡◌, ◌≢◌, Result, MatchResult}
use Rattle.header.specs.declared.message_type.MessageType.{MessageType}
use Rattle.header.specs.declared.message_type.MessageType.TheVariants.{CallProceeding, Setup, Connect, ConnectAcknowledge, Restart, Release, RestartAcknowledge, ReleaseComplete, StatusEnquiry, Status}
use Rattle.header.specs.declared.message_type.UnknownType.{UnknownType}

-- "Types in hex: CALL PROCEEDING 02, SETUP 05, CONNECT 07, CONNECT ACKNOWLEDGE 0F, RESTART 46, RELEASE 4D,
-- RESTART ACKNOWLEDGE 4E, RELEASE COMPLETE 5A, STATUS ENQUIRY 75, STATUS 7D."
abbrev pub number_of : MessageType → ℕ
number_of CallProceeding = 0x02
number_of Setup = 0x05
number_of Connect = 0x07
number_of ConnectAcknowledge = 0x0F
number_of Restart = 0x46
number_of Release = 0x4D
number_of RestartAcknowledge = 0x4E
number_of ReleaseComplete = 0x5A
number_of StatusEnquiry = 0x75
number_of Status = 0x7D

pub record IsUnknown (n : ℕ) : Type 0 where
  pub call_proceeding : n ≢ 0x02
  pub setup : n ≢ 0x05
  pub connect : n ≢ 0x07
  pub connect_acknowledge : n ≢ 0x0F
  pub restart : n ≢ 0x46
  pub release : n ≢ 0x4D
  pub restart_acknowledge : n ≢ 0x4E
  pub release_complete : n ≢ 0x5A
  pub status_enquiry : n ≢ 0x75
  pub status : n ≢ 0x7D

abbrev pub Decodes : ℕ → Result MessageType UnknownType → Type 0
Decodes n r = MatchResult r (λ t. n ≡ number_of t) (λ e. IsUnknown n × (e.0 ≡ n))
