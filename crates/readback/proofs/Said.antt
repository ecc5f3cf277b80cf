-- What the controller's readers find in octets: what the elements of the message say.
--   look_in                     in any octets that are a whole number of elements
--   look_back                   in the octets of a well-formed message
--   cause_back, state_back, pair_back, restart_back      by the reader of each element
--   reply_says, setup_says      in a reply, and in SETUP
--   body_says                   in SETUP, of all but the Connection identifier: the same as in the offer's body
--   release-cause, release_complete_cause, status_cause, status_state        the values in each reply that holds some
--   proceeding_pair, restart_pair, restart_class_lem, restart_all_class, own_restart_pair, own_restart_class, own_restart_all_class
--   setup_pair                  the pair in SETUP
-- Assumes nothing.
use Rattle.identifier.specs.Pair.{pair}
use Prim.Native.Nat.{ℕ, ◌+◌, ◌%◌, ◌<◌}
use mathlib.Core.Path.{◌≡◌, refl, sym, ap, ◌∙◌}
use mathlib.Core.Bool.{Bool, true, false, cond, ◌&&◌, true≢false}
use mathlib.Core.List.{List, [], ◌∷◌}
use native.Mathlib.Omega.{arith}
use lib.Dec.{eqb}
use borrow.Author.Tests.{le-leb}
use lib.ListN.{length}
use Rattle.octets.specs.Octets.{part}
use Rattle.contents.specs.Contents.{cause_number, call_state_value, connection_in as pair_in, restart_class}
use Rattle.contents.specs.Fits.{fits}
use Rattle.octets.proofs.Cases.{by_test}
use Rattle.octets.proofs.Numbers.{number_back}
use Rattle.items.specs.declared.Item.{Item}
use Rattle.items.specs.declared.Item.TheVariants.{End, Overrun, Whole}
use Rattle.items.specs.Items.{items, first_of, ends_whole, whole_from}
use Rattle.elements.specs.declared.Read.TheVariants.{Absent, Unreadable, Readable}
use Rattle.elements.specs.Elements.{action_fits, judge, look_for}
use Rattle.elements.specs.Values.{read, pair_read, cause_in, call_state_in, connection_in, restart_in}
use Rattle.replies.specs.declared.Cause.{Cause}
use Rattle.replies.specs.declared.Reply.{Reply}
use Rattle.replies.specs.declared.Reply.TheVariants as reply
use Rattle.replies.specs.Message.{Element, body, Message, header, octets}
use Rattle.replies.specs.Reply.{cause, call_state, connection, elements_of, is_silent, meant, reply_octets, setup_octets}
use Rattle.readback.specs.ReadBack.{elements_among, elements_in, WellFormed}
use Rattle.readback.specs.Replies.{FitsPair, FitsCause, FitsStatus, Fitting, OfferBody, setup_meant}
use Rattle.readback.specs.Said.{value_in, cause_of, state_of, pair_of, restart_of}
use Rattle.readback.proofs.Walked.{walked}
use Rattle.readback.proofs.Sent.{reply_written, reply_well_formed, setup_written, setup_well_formed}

module _ {A : Type 0} (id : ℕ) (absent unread : A) (value : List ℕ → A) where
  judged : (m : List ℕ) (met action start end : ℕ) → read m absent unread value (judge m id (Whole met action start end))
      ≡ cond (action_fits id action && fits id (part m start end)) (value (part m start end)) unread
  judged m met action start end =
      by_test (action_fits id action && fits id (part m start end)) (λ e. rw e) (λ e. rw e)

  look_among : (m : List ℕ) (at : ℕ) (is : List Item) → ends_whole m at is ≡ true
      → read m absent unread value (judge m id (first_of id is)) ≡ value_in id absent unread value (elements_among m is)
  look_among m at [] e = refl
  look_among m at (End ∷ is) e = absurd (true≢false (sym e))
  look_among m at (Overrun met ∷ is) e = absurd (true≢false (sym e))
  look_among m at (Whole met action start end ∷ is) e =
      by_test (eqb met id) (λ same. rw same (judged m met action start end)) (λ other. rw other (look_among m end is e))

  pub look_in : (m : List ℕ) (from : ℕ) → whole_from m from ≡ true
      → read m absent unread value (look_for m from id) ≡ value_in id absent unread value (elements_in m from)
  look_in m from = look_among m from (items m from)

  pub look_back : (m : Message) → WellFormed m
      → read (octets m) absent unread value (look_for (octets m) 9 id) ≡ value_in id absent unread value m.elements
  look_back m w =
      let b = walked m.elements (octets m) (header m.flag m.reference m.kind (length (body m.elements))) refl w.elements in
      look_in (octets m) 9 b.whole ∙ ap (value_in id absent unread value) b.same

  pub reply_says : (flag : Bool) (r : ℕ) (a : Reply) → r < 8388608 → Fitting a → is_silent a ≡ false
      → read (reply_octets flag r a) absent unread value (look_for (reply_octets flag r a) 9 id) ≡ value_in id absent unread value (elements_of a)
  reply_says flag r a small fit e =
      ap (λ (w : List ℕ). read w absent unread value (look_for w 9 id)) (reply_written flag r a e)
      ∙ look_back (meant flag r a) (reply_well_formed flag r a small fit)

  module _ (r p v : ℕ) (offered : List ℕ) (b : OfferBody offered) (small : r < 8388608) where
    pub setup_says : read (setup_octets r p v offered) absent unread value (look_for (setup_octets r p v offered) 9 id)
        ≡ value_in id absent unread value (connection p v ∷ elements_in offered 0)
    setup_says =
        ap (λ (w : List ℕ). read w absent unread value (look_for w 9 id)) (setup_written r p v offered b)
        ∙ look_back (setup_meant r p v offered) (setup_well_formed r p v offered b small)

    -- "Its octets are sent as they came": the body's elements are found behind the Connection identifier
    pub body_says : eqb 0x5A id ≡ false
        → read (setup_octets r p v offered) absent unread value (look_for (setup_octets r p v offered) 9 id)
        ≡ read offered absent unread value (look_for offered 0 id)
    body_says other = setup_says ∙ rw other (sym (look_in offered 0 b.whole))

module _ (m : Message) (w : WellFormed m) where
  pub cause_back : cause_in (octets m) 9 ≡ cause_of m.elements
  cause_back = look_back 0x08 Absent Unreadable (λ c. Readable (cause_number c)) m w

  pub state_back : call_state_in (octets m) 9 ≡ state_of m.elements
  state_back = look_back 0x14 Absent Unreadable (λ c. Readable (call_state_value c)) m w

  pub pair_back : connection_in (octets m) 9 ≡ pair_of m.elements
  pair_back = look_back 0x5A Absent Unreadable (λ c. Readable (pair_in c)) m w

  pub restart_back : restart_in (octets m) 9 ≡ restart_of m.elements
  restart_back = look_back 0x79 Absent Unreadable (λ c. Readable (restart_class c)) m w

-- what each element that we write says
cause_said : (c : Cause) (es : List Element) → c.number < 128 → cause_of (cause c ∷ es) ≡ Readable c.number
cause_said c es h =
    let n : (c.number % 128 + 0x80) % 128 ≡ c.number = omega arith in
    rw (le-leb 2 (length (cause c).contents) (omega arith), le-leb 128 (c.number % 128 + 0x80) (omega arith), n)

state_said : (s : ℕ) (es : List Element) → s < 64 → state_of (call_state s ∷ es) ≡ Readable s
state_said s es h = rw (le-leb s 63 (omega arith))

pair_said : (p v : ℕ) (es : List Element) → FitsPair p v → pair_of (connection p v ∷ es) ≡ pair_read p v
pair_said p v es h = rw (number_back p h.vpci, number_back v h.vci)

module _ (flag : Bool) (r : ℕ) (small : r < 8388608) where
  sent_cause : (a : Reply) → Fitting a → cause_in (octets (meant flag r a)) 9 ≡ cause_of (elements_of a)
  sent_cause a h = cause_back (meant flag r a) (reply_well_formed flag r a small h)

  sent_pair : (a : Reply) → Fitting a → connection_in (octets (meant flag r a)) 9 ≡ pair_of (elements_of a)
  sent_pair a h = pair_back (meant flag r a) (reply_well_formed flag r a small h)

  sent_restart : (a : Reply) → Fitting a → restart_in (octets (meant flag r a)) 9 ≡ restart_of (elements_of a)
  sent_restart a h = restart_back (meant flag r a) (reply_well_formed flag r a small h)

  pub release-cause : (c : Cause) → FitsCause c → cause_in (reply_octets flag r (reply.Release c)) 9 ≡ Readable c.number
  release-cause c h = sent_cause (reply.Release c) h ∙ cause_said c [] h.number

  pub release_complete_cause : (c : Cause) → FitsCause c → cause_in (reply_octets flag r (reply.ReleaseCompleteWith c)) 9 ≡ Readable c.number
  release_complete_cause c h = sent_cause (reply.ReleaseCompleteWith c) h ∙ cause_said c [] h.number

  pub status_cause : (s : ℕ) (c : Cause) → FitsStatus s c → cause_in (reply_octets flag r (reply.Status s c)) 9 ≡ Readable c.number
  status_cause s c h = sent_cause (reply.Status s c) h ∙ cause_said c [] h.why.number

  -- "14 Call state: 1; 0 to 63."
  pub status_state : (s : ℕ) (c : Cause) → FitsStatus s c → s < 64 → call_state_in (reply_octets flag r (reply.Status s c)) 9 ≡ Readable s
  status_state s c h state =
      state_back (meant flag r (reply.Status s c)) (reply_well_formed flag r (reply.Status s c) small h) ∙ state_said s (cause c ∷ []) state

  pub proceeding_pair : (p v : ℕ) → FitsPair p v → connection_in (reply_octets flag r (reply.CallProceeding (pair p v))) 9 ≡ pair_read p v
  proceeding_pair p v h = sent_pair (reply.CallProceeding (pair p v)) h ∙ pair_said p v [] h

  pub restart_pair : (p v : ℕ) → FitsPair p v → connection_in (reply_octets flag r (reply.RestartAcknowledge (pair p v))) 9 ≡ pair_read p v
  restart_pair p v h = sent_pair (reply.RestartAcknowledge (pair p v)) h ∙ pair_said p v [] h

  pub restart_class_lem : (p v : ℕ) → FitsPair p v → restart_in (reply_octets flag r (reply.RestartAcknowledge (pair p v))) 9 ≡ Readable 0x80
  restart_class_lem p v h = sent_restart (reply.RestartAcknowledge (pair p v)) h

  pub restart_all_class : restart_in (reply_octets flag r reply.RestartAcknowledgeAll) 9 ≡ Readable 0x82
  restart_all_class = sent_restart reply.RestartAcknowledgeAll tt

  -- document 02, R-4: our own RESTART
  pub own_restart_pair : (p v : ℕ) → FitsPair p v → connection_in (reply_octets flag r (reply.Restart (pair p v))) 9 ≡ pair_read p v
  own_restart_pair p v h = sent_pair (reply.Restart (pair p v)) h ∙ pair_said p v [] h

  pub own_restart_class : (p v : ℕ) → FitsPair p v → restart_in (reply_octets flag r (reply.Restart (pair p v))) 9 ≡ Readable 0x80
  own_restart_class p v h = sent_restart (reply.Restart (pair p v)) h

  pub own_restart_all_class : restart_in (reply_octets flag r reply.RestartAll) 9 ≡ Readable 0x82
  own_restart_all_class = sent_restart reply.RestartAll tt

  pub setup_pair : (p v : ℕ) (offered : List ℕ) → OfferBody offered → FitsPair p v → connection_in (setup_octets r p v offered) 9 ≡ pair_read p v
  setup_pair p v offered b h =
      ap (λ (w : List ℕ). connection_in w 9) (setup_written r p v offered b)
      ∙ pair_back (setup_meant r p v offered) (setup_well_formed r p v offered b small)
      ∙ pair_said p v (elements_in offered 0) h
