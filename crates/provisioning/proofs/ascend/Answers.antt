use Rattle.std.proofs.Common.{sym, ◌∙◌, arith}
use Rattle.provisioning.specs.Provisioning.{fits}
use Rattle.provisioning.proofs.Below.{not_below}
use Rattle.provisioning.proofs.ascend.Goals as goal

pub returns-then-not-fits : goal.returns-then-not-fits
returns-then-not-fits g c = λ f gives. sym (not_below (fits f) c.args.n c.loop-k.k (omega arith) (sym (c.fits.ensures f (λ j r h p. gives j r h p)) ∙ c.if-not-fits.true))
