-- What we send: every reply, and SETUP with an offer's body.
--   reply_well_formed, reply_reads_back      a reply is well-formed, and reads back as the message that it is
--   reply_size                               it has at most 1,024 octets
--   setup_written                            SETUP is the octets of a message: the Connection identifier, and the elements of the body
--   setup_well_formed, setup_reads_back      that message is well-formed, and SETUP reads back as it
--   setup-size                               it has at most 1,024 octets
-- Assumes nothing.
use Prim.Native.Nat.{ℕ, ◌+◌, ◌≤◌, ◌<◌}
use mathlib.Core.Path.{◌≡◌, ap, ◌∙◌}
use mathlib.Core.Bool.{Bool, true, false}
use mathlib.Core.List.{List, [], ◌∷◌}
use native.Mathlib.Omega.{arith}
use lib.ListN.{length}
use Rattle.octets.specs.Octets.{high, low}
use Rattle.octets.proofs.Cases.{by_test}
use Rattle.replies.specs.declared.Mandatory.{Mandatory}
use Rattle.replies.specs.declared.Diagnostic.{Diagnostic}
use Rattle.replies.specs.declared.Diagnostic.TheVariants as diagnostic
use Rattle.replies.specs.declared.Cause.{Cause}
use Rattle.replies.specs.declared.Reply.{Reply}
use Rattle.replies.specs.declared.Reply.TheVariants as reply
use Rattle.replies.specs.Message.{body, Message, octets}
use Rattle.replies.specs.Reply.{optional, identifiers, diagnostic_octets, cause, call_state, connection, restart, kind_of, elements_of, is_silent}
use Rattle.replies.specs.Reply.{meant, reply_octets, setup_octets}
use Rattle.replies.proofs.Whole.{body-size}
use Rattle.replies.proofs.Sizes.{identifiers-size}
use Rattle.readback.specs.ReadBack.{elements_in, read_message, reads, Octets, Fits, EachFits, none, more, WellFormed}
use Rattle.readback.specs.Replies.{FitsDiagnostic, FitsCause, Fitting, OfferBody, setup_meant}
use Rattle.readback.proofs.Octets.{no_octets, octets_cons, octets-append}
use Rattle.readback.proofs.ReadBack.{octets-read_back}
use Rattle.readback.proofs.WriteBack.{elements_write_back, elements_fit}

-- how long
optional-short : (there : Bool) → length (optional there 0) ≤ 1
optional-short true = omega arith
optional-short false = omega arith

diagnostic_short : (d : Diagnostic) → length (diagnostic_octets d) ≤ 4
diagnostic_short diagnostic.None = omega arith
diagnostic_short (diagnostic.Octet o) = omega arith
diagnostic_short (diagnostic.Elements m) =
    rw (identifiers-size m)
    (omega (arith, optional-short m.traffic, optional-short m.qos, optional-short m.bearer, optional-short m.called))
diagnostic_short (diagnostic.Pair c) = omega arith
diagnostic_short diagnostic.Timer = omega arith

cause-short : (c : Cause) → length (body (cause c ∷ [])) ≤ 10
cause-short c = omega (arith, body-size (cause c) [], diagnostic_short c.diagnostic)

elements-short : (a : Reply) → length (body (elements_of a)) ≤ 15
elements-short reply.None = omega arith
elements-short (reply.CallProceeding c) = omega arith
elements-short reply.Connect = omega arith
elements-short reply.ConnectAcknowledge = omega arith
elements-short (reply.Release c) = omega (arith, cause-short c)
elements-short reply.ReleaseComplete = omega arith
elements-short (reply.ReleaseCompleteWith c) = omega (arith, cause-short c)
elements-short (reply.Status s c) = omega (arith, body-size (call_state s) (cause c ∷ []), cause-short c)
elements-short reply.RestartAcknowledgeAll = omega arith
elements-short (reply.RestartAcknowledge c) = omega arith
elements-short reply.RestartAll = omega arith
elements-short (reply.Restart c) = omega arith

octets-size : (m : Message) → length (octets m) ≡ 9 + length (body m.elements)
octets-size m = omega arith

-- a reply that is one is the octets of its message
pub reply_written : (flag : Bool) (r : ℕ) (a : Reply) → is_silent a ≡ false → reply_octets flag r a ≡ octets (meant flag r a)
reply_written flag r a e = rw e

pub reply_size : (flag : Bool) (r : ℕ) (a : Reply) → length (reply_octets flag r a) ≤ 1024
reply_size flag r a =
    by_test (is_silent a) (λ e. rw e (omega arith)) (λ e. rw (e, octets-size (meant flag r a)) (omega (arith, elements-short a)))

-- what fits
one_octet : {o : ℕ} → o < 256 → Octets (o ∷ [])
one_octet h = octets_cons h no_octets

optional-octets : (there : Bool) (o : ℕ) → o < 256 → Octets (optional there o)
optional-octets true o h = one_octet h
optional-octets false o h = no_octets

pair_octets : (p v : ℕ) → Octets (high p ∷ low p ∷ high v ∷ low v ∷ [])
pair_octets p v =
    octets_cons (omega arith)
    (octets_cons (omega arith) (octets_cons (omega arith) (one_octet (omega arith))))

identifiers-octets : (m : Mandatory Bool) → Octets (identifiers m)
identifiers-octets m =
    octets-append
    (octets-append
    (octets-append (optional-octets m.traffic 0x59 (omega arith)) (optional-octets m.qos 0x5C (omega arith)))
    (optional-octets m.bearer 0x5E (omega arith)))
    (optional-octets m.called 0x70 (omega arith))

diagnostic_octets_lem : (d : Diagnostic) → FitsDiagnostic d → Octets (diagnostic_octets d)
diagnostic_octets_lem diagnostic.None h = no_octets
diagnostic_octets_lem (diagnostic.Octet o) h = one_octet h
diagnostic_octets_lem (diagnostic.Elements m) h = identifiers-octets m
diagnostic_octets_lem (diagnostic.Pair c) h = pair_octets c.vpci c.vci
diagnostic_octets_lem diagnostic.Timer h = octets_cons (omega arith) (octets_cons (omega arith) (one_octet (omega arith)))

cause-fits : (c : Cause) → FitsCause c → Fits (cause c)
cause-fits c h =
    record {
      ident = omega arith;
      action = omega arith;
      contents =
          octets_cons (omega arith)
          (octets_cons (omega arith) (diagnostic_octets_lem c.diagnostic h.diagnostic));
      size = omega (arith, diagnostic_short c.diagnostic);
    }

connection-fits : (p v : ℕ) → Fits (connection p v)
connection-fits p v =
    record { ident = omega arith; action = omega arith; contents = octets_cons (omega arith) (pair_octets p v); size = omega arith }

state_fits : (s : ℕ) → s < 256 → Fits (call_state s)
state_fits s h = record { ident = omega arith; action = omega arith; contents = one_octet h; size = omega arith }

restart-fits : (class : ℕ) → class < 256 → Fits (restart class)
restart-fits class h = record { ident = omega arith; action = omega arith; contents = one_octet h; size = omega arith }

elements_of_fit : (a : Reply) → Fitting a → EachFits (elements_of a)
elements_of_fit reply.None h = none
elements_of_fit (reply.CallProceeding c) h = more (connection-fits c.vpci c.vci) none
elements_of_fit reply.Connect h = none
elements_of_fit reply.ConnectAcknowledge h = none
elements_of_fit (reply.Release c) h = more (cause-fits c h) none
elements_of_fit reply.ReleaseComplete h = none
elements_of_fit (reply.ReleaseCompleteWith c) h = more (cause-fits c h) none
elements_of_fit (reply.Status s c) h = more (state_fits s h.state) (more (cause-fits c h.why) none)
elements_of_fit reply.RestartAcknowledgeAll h = more (restart-fits 0x82 (omega arith)) none
elements_of_fit (reply.RestartAcknowledge c) h = more (restart-fits 0x80 (omega arith)) (more (connection-fits c.vpci c.vci) none)
elements_of_fit reply.RestartAll h = more (restart-fits 0x82 (omega arith)) none
elements_of_fit (reply.Restart c) h = more (restart-fits 0x80 (omega arith)) (more (connection-fits c.vpci c.vci) none)

kind_fits : (a : Reply) → kind_of a < 256
kind_fits reply.None = omega arith
kind_fits (reply.CallProceeding c) = omega arith
kind_fits reply.Connect = omega arith
kind_fits reply.ConnectAcknowledge = omega arith
kind_fits (reply.Release c) = omega arith
kind_fits reply.ReleaseComplete = omega arith
kind_fits (reply.ReleaseCompleteWith c) = omega arith
kind_fits (reply.Status s c) = omega arith
kind_fits reply.RestartAcknowledgeAll = omega arith
kind_fits (reply.RestartAcknowledge c) = omega arith
kind_fits reply.RestartAll = omega arith
kind_fits (reply.Restart c) = omega arith

module _ (flag : Bool) (r : ℕ) (a : Reply) (small : r < 8388608) (fit : Fitting a) where
  pub reply_well_formed : WellFormed (meant flag r a)
  reply_well_formed =
      record { reference = small; kind = kind_fits a; elements = elements_of_fit a fit; size = omega (arith, elements-short a) }

  pub reply_reads_back : is_silent a ≡ false → read_message (reply_octets flag r a) ≡ reads (meant flag r a)
  reply_reads_back e = ap read_message (reply_written flag r a e) ∙ octets-read_back (meant flag r a) reply_well_formed

pub setup-size : (r p v : ℕ) (offered : List ℕ) → length offered ≤ 512 → length (setup_octets r p v offered) ≤ 1024
setup-size r p v offered h = omega arith

module _ (r p v : ℕ) (offered : List ℕ) (b : OfferBody offered) where
  same_body : body (elements_in offered 0) ≡ offered
  same_body = elements_write_back offered b.octets 0 b.whole

  pub setup_written : setup_octets r p v offered ≡ octets (setup_meant r p v offered)
  setup_written =
      let e : 9 + length offered ≡ length (body (connection p v ∷ elements_in offered 0)) = rw same_body (omega arith) in
      rw (e, same_body)

  pub setup_well_formed : r < 8388608 → WellFormed (setup_meant r p v offered)
  setup_well_formed small =
      record {
        reference = small;
        kind = omega arith;
        elements = more (connection-fits p v) (elements_fit offered b.octets 0);
        size = rw same_body (omega arith);
      }

  pub setup_reads_back : r < 8388608 → read_message (setup_octets r p v offered) ≡ reads (setup_meant r p v offered)
  setup_reads_back small = ap read_message setup_written ∙ octets-read_back (setup_meant r p v offered) (setup_well_formed small)
