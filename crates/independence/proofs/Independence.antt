-- Demand 3, proved.
--   same_results         the law for every table, reached or not
--   calls_do_not_lean    the demand
-- Assumes nothing.
use Prim.Native.Nat.{ℕ, ◌<◌}
use mathlib.Core.List.{List}
use lib.ListN.{length, get_or}
use Rattle.reorder.specs.Reorder.{Order}
use Rattle.reorder.proofs.Reorder.{reorder, reorder_each}
use Rattle.table.specs.declared.Table.{Table}
use Rattle.independence.specs.Independence.{Heard, Given, hear, AcceptedIn, Qualifies, KeepsOrder, SameResults, CallsDoNotLean}
use Rattle.independence.proofs.Hearing.{hears, still_accepted}
use Rattle.independence.proofs.Commutes.{heard_commute}

hear_accepted : (reading : ℕ) (t : Table) (m : Heard) → Qualifies m → AcceptedIn t reading → AcceptedIn (hear reading t m).1 reading
hear_accepted reading t m q a = rw (hears t reading m a q) (still_accepted t reading m a)

module _ (t : Table) (reading : ℕ) (xs : List Heard) (ps : List ℕ) (m : Heard) (a : Given) where
  pub same_results : AcceptedIn t reading → ((i : ℕ) → i < length xs → Qualifies (get_or xs i m)) → Order KeepsOrder m xs ps → SameResults reading t xs ps m a
  same_results accepted ok order =
      let keep = hear_accepted reading in
      let commute = heard_commute reading in
      let inv : Table → Type 0 = λ x. AcceptedIn x reading in
      let law = reorder (hear reading) Qualifies KeepsOrder inv keep commute m a xs ps t accepted ok order in
      record {
        all = law.0;
        each = reorder_each (hear reading) Qualifies KeepsOrder inv keep commute m a xs ps t accepted ok order;
        table = law.1;
      }

pub calls_do_not_lean : CallsDoNotLean
calls_do_not_lean t reading xs ps m a reached accepted ok order = same_results t reading xs ps m a accepted ok order
