-- `traffic::any_from` meets its contract: what the test of the subfield at the present place says. Assumes nothing.
use Rattle.std.proofs.Common.{sym, ◌∙◌, false}
use Rattle.traffic.proofs.Subfields.{met}
use Rattle.traffic.proofs.any_from.Goals as goal

pub loop-test-preserved : goal.loop-test-preserved
loop-test-preserved g c test computes =
    c.loop-test.invariant test computes ∙ rw (
      met c.args.c.now c.loop-test.at (sym c.in-Whole.is ∙ c.subfield_at.ensures),
      sym (computes c.in-Whole.id false c.if-test.ensures),
    )
