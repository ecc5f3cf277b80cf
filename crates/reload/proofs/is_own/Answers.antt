-- `reload::is_own` meets its contract: the form that was written is compared.
-- Assumes nothing.
use native.Mathlib.Omega.{arith}
use Prim.Native.Nat.{ℕ}
use mathlib.Core.Path.{ap, ◌∙◌}
use mathlib.Core.List.{List}
use Rattle.octets.specs.Octets.{equal}
use Rattle.fields.proofs.Filed.{kept}
use Rattle.reload.proofs.is_own.Goals as goal

pub returns : goal.returns
returns c = c.eq.ensures ∙ ap (λ (own : List ℕ). equal own c.args.form.now) (kept c.put_form-n.ensures.wrote (omega arith))
