-- What every event sends reads back as the message that was meant.
--   outgoing_back                  a reply, and SETUP
--   every_reply_reads_back         of every table that is reached by events that carry octets
--   every_reply_is_octets          what is sent are octets
--   every_reply_is_short           and at most 1,024 of them, on every table
-- Assumes nothing.
use Prim.Native.Nat.{ℕ, ◌≤◌, ◌<◌}
use mathlib.Core.Path.{◌≡◌, refl, ap}
use mathlib.Core.Bool.{Bool, cond}
use mathlib.Core.List.{List}
use native.Mathlib.Omega.{arith}
use lib.Dec.{eqb}
use lib.ListN.{length}
use borrow.Author.Tests.{eqb-true}
use Rattle.channels.proofs.Cases.{by_test}
use Rattle.replies.specs.declared.Outgoing.{Outgoing}
use Rattle.replies.specs.declared.Outgoing.TheVariants as outgoing
use Rattle.replies.specs.Reply.{is_silent, meant, reply_room, body_room, sent_octets}
use Rattle.readback.specs.ReadBack.{Octets}
use Rattle.readback.specs.Replies.{setup_meant}
use Rattle.readback.proofs.Octets.{no_octets}
use Rattle.readback.proofs.ReadBack.{octets-read_back, written_octets}
use Rattle.readback.proofs.Sent.{reply_well_formed, reply_size, setup_written, setup_well_formed, setup_reads_back, setup-size}
use Rattle.table.specs.declared.Table.{Table}
use Rattle.outcome.specs.Outcome.{Outcome}
use Rattle.control.specs.Happens.{Event, happens}
use Rattle.reached.specs.Reached.{Reached}
use Rattle.views.specs.Effects.{body_of, refusal_of, effect_of}
use Rattle.views.proofs.View.{does, by_event}
use Rattle.safety.specs.Sound.{Sound, InOctets, CarriedOctets, ReferencesFit}
use Rattle.safety.proofs.FixedAnswers.{accepted_reply, refused_reply, number}
use Rattle.safety.proofs.Sound.{reached_sound}
use Rattle.safety.proofs.References.{reached_fits}
use Rattle.demands.specs.Sent.{Sent, nothing, read_as, read_back, outgoing_meant, effect_meant, meant_by}
use Rattle.demands.proofs.Fitting.{FitsOutgoing, body-room, does_writable}

record Back (octets : List ℕ) (m : Sent) : Type 0 where
  pub same : read_back octets ≡ m
  pub in_octets : Octets octets

outgoing_back : (flag : Bool) (r : ℕ) (o : Outgoing) (body : List ℕ) → r < 8388608 → FitsOutgoing o body → Back (sent_octets flag r o body) (outgoing_meant flag r o body)
outgoing_back flag r (outgoing.Reply a) body small fits =
    let m = meant flag r a in
    let f = reply_well_formed flag r a small fits in
    by_test (is_silent a)
    (λ e. rw e (record { same = refl; in_octets = no_octets }))
    (λ e. rw e (record { same = ap read_as (octets-read_back m f); in_octets = written_octets m f }))
outgoing_back flag r (outgoing.Setup c) body small b = record {
  same = ap read_as (setup_reads_back r c.vpci c.vci body b small);
  in_octets = rw (setup_written r c.vpci c.vci body b) (written_octets (setup_meant r c.vpci c.vci body) (setup_well_formed r c.vpci c.vci body b small));
}

meant_unless : (t : Table) (e : Event) → meant_by t e ≡ cond (eqb (refusal_of t e) 0) (effect_meant (effect_of t e) (body_of e)) nothing
meant_unless t e = ap (λ (n : ℕ). cond (eqb n 0) (effect_meant (effect_of t e) (body_of e)) nothing) (number t e)

event_back : (t : Table) (e : Event) → Sound t → ReferencesFit t → InOctets e → Back (happens t e).reply (meant_by t e)
event_back t e s f o =
    by_test (eqb (refusal_of t e) 0)
    (λ y.
    let zero = eqb-true (refusal_of t e) 0 y in
    let x = effect_of t e in
    let w = does_writable t e s f o zero x (does t e zero) in
    rw (meant_unless t e, accepted_reply t e y, y) (outgoing_back x.flag x.reference x.outgoing (body_of e) w.reference w.fits))
    (λ n. rw (meant_unless t e, refused_reply t e n, n) (record { same = refl; in_octets = no_octets }))

module _ (t : Table) (r : Reached t) (carried : CarriedOctets t r) (e : Event) (o : InOctets e) where
  pub every_reply_reads_back : read_back (happens t e).reply ≡ meant_by t e
  every_reply_reads_back = (event_back t e (reached_sound t r) (reached_fits t r carried) o).same

  pub every_reply_is_octets : Octets (happens t e).reply
  every_reply_is_octets = (event_back t e (reached_sound t r) (reached_fits t r carried) o).in_octets

outgoing_short : (flag : Bool) (r : ℕ) (o : Outgoing) (body : List ℕ) → length body ≤ body_room → length (sent_octets flag r o body) ≤ reply_room
outgoing_short flag r (outgoing.Reply a) body short = reply_size flag r a
outgoing_short flag r (outgoing.Setup c) body short = setup-size r c.vpci c.vci body short

pub every_reply_is_short : (t : Table) (e : Event) → length (happens t e).reply ≤ reply_room
every_reply_is_short t e =
    by_event t e (λ (o : Outcome). length o.reply ≤ reply_room)
    (λ n. omega arith)
    (λ zero x d. outgoing_short x.flag x.reference x.outgoing (body_of e) (body-room t e zero))
