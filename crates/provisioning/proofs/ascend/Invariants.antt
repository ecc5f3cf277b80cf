-- `ascend`: the ranges passed ascend.
use Rattle.std.proofs.Common.{◌≡◌, ℕ, true}
use Rattle.channels.specs.declared.Range.{Range}
use Rattle.provisioning.specs.Provisioning.{Gives, ascending}
use Rattle.provisioning.proofs.ascend.Given as goal

abbrev pub invariant-loop-k : goal.invariant-loop-k
invariant-loop-k g l = goal.F-IsAlwaysCallable g l.at × ((f : ℕ → Range) → Gives (goal.F-post g l.fn.at) f → ascending f l.k ≡ true)
