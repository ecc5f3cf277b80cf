-- What we send: the replies whose values fit their octets, and SETUP as a message. The code's types say all of `Fitting` but that a cause number is below 128.
--   FitsPair, FitsDiagnostic, FitsCause, FitsStatus     VPCI and VCI; a cause and its diagnostic; a state and why
--   Fitting                                             what a reply says
--   OfferBody, setup_meant                               the body of an offer, and the message that SETUP with it is
-- Assumes nothing.
use Rattle.std.specs.Prelude.{ℕ, ◌≤◌, ◌<◌, ◌≡◌, true, false, List, ◌∷◌, length}
use Rattle.items.specs.Items.{whole_from}
use Rattle.replies.specs.declared.Diagnostic.{Diagnostic}
use Rattle.replies.specs.declared.Diagnostic.TheVariants as diagnostic
use Rattle.replies.specs.declared.Cause.{Cause}
use Rattle.replies.specs.declared.Reply.{Reply}
use Rattle.replies.specs.declared.Reply.TheVariants as reply
use Rattle.replies.specs.Message.{Message, message}
use Rattle.replies.specs.Reply.{connection}
use Rattle.readback.specs.ReadBack.{Octets, elements_in}

pub record FitsPair (p v : ℕ) : Type 0 where
  pub vpci : p < 65536
  pub vci : v < 65536

abbrev pub FitsDiagnostic : Diagnostic → Type 0
FitsDiagnostic diagnostic.None = Unit {0}
FitsDiagnostic (diagnostic.Octet o) = o < 256
FitsDiagnostic (diagnostic.Elements m) = Unit {0}
FitsDiagnostic (diagnostic.Pair c) = FitsPair c.vpci c.vci
FitsDiagnostic diagnostic.Timer = Unit {0}

pub record FitsCause (c : Cause) : Type 0 where
  pub number : c.number < 128
  pub diagnostic : FitsDiagnostic c.diagnostic

pub record FitsStatus (s : ℕ) (c : Cause) : Type 0 where
  pub state : s < 256
  pub why : FitsCause c

abbrev pub Fitting : Reply → Type 0
Fitting reply.None = Unit {0}
Fitting (reply.CallProceeding c) = FitsPair c.vpci c.vci
Fitting reply.Connect = Unit {0}
Fitting reply.ConnectAcknowledge = Unit {0}
Fitting (reply.Release c) = FitsCause c
Fitting reply.ReleaseComplete = Unit {0}
Fitting (reply.ReleaseCompleteWith c) = FitsCause c
Fitting (reply.Status s c) = FitsStatus s c
Fitting reply.RestartAcknowledgeAll = Unit {0}
Fitting (reply.RestartAcknowledge c) = FitsPair c.vpci c.vci
Fitting reply.RestartAll = Unit {0}
Fitting (reply.Restart c) = FitsPair c.vpci c.vci

-- "a body of elements of at most 512 octets", "a whole number of elements, none overrunning"
pub record OfferBody (offered : List ℕ) : Type 0 where
  pub octets : Octets offered
  pub size : length offered ≤ 512
  pub whole : whole_from offered 0 ≡ true

-- "SETUP with 5A and then the body"
abbrev pub setup_meant : ℕ → ℕ → ℕ → List ℕ → Message
setup_meant r p v offered = message false r 0x05 (connection p v ∷ elements_in offered 0)
