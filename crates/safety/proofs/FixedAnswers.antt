-- Demand 1 holds of every event on every table that has its slots.
--   accepted_reply, refused_reply what it sends
--   stores, number                an accepted event stores its reading; the number of an event's answer
--   fixed_answer
-- Assumes nothing.
use Prim.Native.Nat.{ℕ}
use mathlib.Core.Path.{◌≡◌, refl, sym, ap, ◌∙◌}
use mathlib.Core.Logic.{◌≢◌}
use mathlib.Core.Bool.{true, false}
use mathlib.Core.List.{[]}
use native.Mathlib.Omega.{arith}
use lib.Dec.{eqb}
use borrow.Author.Tests.{eqb-true, eqb-false, ne_eqb, eq-eqb}
use Rattle.channels.proofs.Cases.{by_test}
use Rattle.table.specs.declared.Table.{Table}
use Rattle.outcome.specs.Outcome.{Outcome, unless_refused}
use Rattle.control.specs.Happens.{Event, happens}
use Rattle.views.specs.Tables.{HasSlots}
use Rattle.views.specs.Effects.{reading_of, refusal_of, outcome_of}
use Rattle.views.proofs.View.{happens_is}
use Rattle.safety.specs.FixedAnswers.{Unchanged, Stored, FixedAnswer}
use Rattle.safety.proofs.Refusals.{applied, reaches}

pub unless_number : (t : Table) (n : ℕ) (o : Outcome) → (n ≡ 0 → o.answer.refusal ≡ 0) → (unless_refused t n o).answer.refusal ≡ n
unless_number t n o h = by_test (eqb n 0) (λ e. rw e (h (eqb-true n 0 e) ∙ sym (eqb-true n 0 e))) (λ e. rw e)

unless_unchanged : (t : Table) (n : ℕ) (o : Outcome) → n ≢ 0 → Unchanged t (unless_refused t n o)
unless_unchanged t n o h = rw (ne_eqb n 0 h)
    (record { table = refl; size = refl; notice = refl; flags = refl; more = refl; reply = refl; room = λ room. refl })

unless_stored : (t : Table) (reading n : ℕ) (o : Outcome) → n ≡ 0 → Stored t reading o → Stored t reading (unless_refused t n o)
unless_stored t reading n o h s = rw (eq-eqb n 0 h) s

-- what is sent
pub accepted_reply : (t : Table) (e : Event) → eqb (refusal_of t e) 0 ≡ true → (happens t e).reply ≡ (outcome_of t e).reply
accepted_reply t e y = ap (λ (o : Outcome). o.reply) (happens_is t e) ∙ rw y

pub refused_reply : (t : Table) (e : Event) → eqb (refusal_of t e) 0 ≡ false → (happens t e).reply ≡ []
refused_reply t e n = ap (λ (o : Outcome). o.reply) (happens_is t e) ∙ rw n

-- an accepted event stores its reading
pub stores : (t : Table) (e : Event) → Stored t (reading_of e) (outcome_of t e)
stores t e = record { last = refl; pool = refl; size = refl }

pub number : (t : Table) (e : Event) → (happens t e).answer.refusal ≡ refusal_of t e
number t e = ap (λ (o : Outcome). o.answer.refusal) (happens_is t e) ∙ unless_number t (refusal_of t e) (outcome_of t e) (λ h. refl)

pub fixed_answer : (t : Table) (e : Event) → HasSlots t → FixedAnswer t e
fixed_answer t e w = record {
  applies = rw (number t e) (applied t e w);
  lowest = λ n below a. let r = reaches t e n w a in omega (arith, number t e);
  accepted = λ zero n a. let r = reaches t e n w a in omega (arith, number t e);
  none_otherwise = λ none.
      by_test (eqb (refusal_of t e) 0)
      (λ y. number t e ∙ eqb-true _ _ y)
      (λ n. absurd (none (refusal_of t e) (applied t e w (eqb-false _ _ n))));
  unchanged = λ given. rw (happens_is t e) (unless_unchanged t (refusal_of t e) (outcome_of t e) (λ z. given (number t e ∙ z)));
  stored = λ zero. let z = sym (number t e) ∙ zero in rw (happens_is t e) (unless_stored t (reading_of e) (refusal_of t e) (outcome_of t e) z (stores t e));
}
