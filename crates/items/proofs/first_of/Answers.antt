-- `items::first_of` meets its contract: where an element of another identifier stands, the first is behind it. Assumes nothing.
use mathlib.Core.Path.{sym, ◌∙◌}
use borrow.Author.Tests.{ne_eqb}
use Rattle.items.proofs.Items.{met}
use Rattle.items.proofs.first_of.Goals as goal

pub loop-met-preserved : goal.loop-met-preserved
loop-met-preserved c = c.loop-met.invariant ∙ rw (
  met c.args.m.now c.loop-met.at (sym c.in-Whole.is ∙ c.item_at.ensures),
  ne_eqb _ _ c.if-met-id-2.true,
)
