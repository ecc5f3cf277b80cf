-- `Flags::only` meets its contract: a slot that the table lacks has no flag. Assumes nothing.
use mathlib.Core.Path.{sym, ap}
use mathlib.Core.Bool.{true, false}
use lib.ListN.{replicate, length-replicate}
use lib.Seq.{set_out}
use Rattle.slots.specs.Slots.{slot_count, flags_of}
use Rattle.slots.proofs.Flags.only.Goals as goal

pub returns-else-i-lt-SLOTS : goal.returns-else-i-lt-SLOTS
returns-else-i-lt-SLOTS c = ap flags_of (sym (set_out (replicate slot_count false) c.args.i true (rw (length-replicate slot_count false) c.if-i-lt-SLOTS.false)))
