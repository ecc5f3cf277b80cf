-- Of a RESTART the flags are set if and only if some call is named.
use Rattle.std.proofs.Common.{sym, ◌∙◌}
use Rattle.slots.proofs.Each.{some_set}
use Rattle.calls.specs.Calls.{is_named}
use Rattle.table.proofs.Table.notice.Goals as goal

pub returns-in-Restart : goal.returns-in-Restart
returns-in-Restart c = rw (c.in-Restart.is, some_set (is_named c.in-Restart.named) c.args.self.slots.all, sym c.any_named.ensures ∙ c.if-any_named.true)

pub returns-in-Restart-2 : goal.returns-in-Restart-2
returns-in-Restart-2 c = rw (c.in-Restart.is, some_set (is_named c.in-Restart.named) c.args.self.slots.all, sym c.any_named.ensures ∙ c.if-any_named.false)
