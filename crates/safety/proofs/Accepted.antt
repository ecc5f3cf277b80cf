-- What happens, by what was decided.
--   as_accepted, as_refused      an event that is accepted, and one that is refused
--   accepted_effect              an accepted event, by what it decides
-- Assumes nothing.
use mathlib.Core.Path.{◌≡◌, sym, ap, ◌∙◌}
use mathlib.Core.Bool.{true, false}
use lib.Dec.{eqb}
use borrow.Author.Tests.{eq-eqb}
use Rattle.effects.specs.declared.Effect.{Effect}
use Rattle.table.specs.declared.Table.{Table}
use Rattle.outcome.specs.Outcome.{sending, refused_with}
use Rattle.control.specs.Happens.{Event, happens}
use Rattle.views.specs.Effects.{reading_of, body_of, refusal_of, effect_of, more_of, outcome_of}
use Rattle.views.proofs.View.{happens_is}
use Rattle.safety.proofs.FixedAnswers.{number}

module _ (t : Table) (e : Event) where
  pub as_accepted : eqb (refusal_of t e) 0 ≡ true → happens t e ≡ outcome_of t e
  as_accepted y = happens_is t e ∙ rw y

  pub as_refused : eqb (refusal_of t e) 0 ≡ false → happens t e ≡ refused_with t (refusal_of t e)
  as_refused n = happens_is t e ∙ rw n

  pub accepted_effect : (happens t e).answer.refusal ≡ 0 → (x : Effect) → effect_of t e ≡ x
      → happens t e ≡ sending t (reading_of e) x (more_of t e) (body_of e)
  accepted_effect zero x same =
      as_accepted (eq-eqb (refusal_of t e) 0 (sym (number t e) ∙ zero)) ∙ ap (λ (y : Effect). sending t (reading_of e) y (more_of t e) (body_of e)) same
