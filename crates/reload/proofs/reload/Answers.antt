-- `reload::reload` meets its contract: by its three tests, of a table whose lists are accepted.
-- Assumes nothing.
use Rattle.std.proofs.Common.{Some, true, arith}
use mathlib.Core.Path.{◌≡◌, refl, sym, ◌∙◌}
use borrow.Author.Tests.{le-leb, lt-leb}
use Rattle.slots.specs.Slots.{slot_count}
use Rattle.provisioning.specs.Provisioning.{Provision, provision}
use Rattle.reading.specs.Reading.{range_numbers, pair_numbers}
use Rattle.reload.proofs.Answered.{over_limit, not_kept, not_own, all_pass}
use Rattle.reload.proofs.reload.Goals as goal

pub returns-then-is_own : goal.returns-then-is_own
returns-then-is_own c =
    let some : c.pool_of.result ≡ Some c.in_ok-pool.pool = grind arith in
    let lists : ◌≡◌ {A = Provision} (record { accepted = true; pool = c.in_ok-pool.pool }) (provision (range_numbers c.args.form.now) (pair_numbers c.args.form.now)) = rw some at c.pool_of.ensures in
    all_pass slot_count c.args.form.now _ lists _ c.table_of-table.ensures refl (le-leb _ _ c.if-table-le-LARGEST_READING.true) (sym c.is_kept.ensures ∙ c.if-is_kept.true)
    (sym c.is_own.ensures ∙ c.if-is_own.true)

pub returns-else-table-le-LARGEST_READING : goal.returns-else-table-le-LARGEST_READING
returns-else-table-le-LARGEST_READING c =
    let some : c.pool_of.result ≡ Some c.in_ok-pool.pool = grind arith in
    let lists : ◌≡◌ {A = Provision} (record { accepted = true; pool = c.in_ok-pool.pool }) (provision (range_numbers c.args.form.now) (pair_numbers c.args.form.now)) = rw some at c.pool_of.ensures in
    elim c.else-table-le-LARGEST_READING.branch [
      | goal.else-table-le-LARGEST_READING-via-then-table-le-LARGEST_READING+then-is_kept+else-is_own w ↦
          not_own slot_count c.args.form.now _ lists _ c.table_of-table.ensures refl (le-leb _ _ w.if-table-le-LARGEST_READING.true) (sym w.is_kept.ensures ∙ w.if-is_kept.true)
          (sym w.is_own.ensures ∙ w.if-is_own.false)
      | goal.else-table-le-LARGEST_READING-via-then-table-le-LARGEST_READING+else-is_kept w ↦
          not_kept slot_count c.args.form.now _ lists _ c.table_of-table.ensures refl (le-leb _ _ w.if-table-le-LARGEST_READING.true) (sym w.is_kept.ensures ∙ w.if-is_kept.false)
      | goal.else-table-le-LARGEST_READING-via-else-table-le-LARGEST_READING w ↦
          over_limit slot_count c.args.form.now _ lists _ c.table_of-table.ensures refl (lt-leb _ _ w.if-table-le-LARGEST_READING.false)
    ]
