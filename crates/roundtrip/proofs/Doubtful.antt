-- Pairs in doubt, or out of service, saved and read back.
--   number_in               a number of the list is that of one of the pairs
--   pairs_fit               they have room in the form
--   Alone                   what is so of each pair: permitted, on no call, and in no other list
--   pairs_kept_lem              they keep the rules
-- Over tidy pairs. Assumes nothing.
use Prim.Native.Nat.{ℕ, ◌/◌, ◌%◌, ◌<◌}
use mathlib.Core.Path.{◌≡◌, refl}
use mathlib.Core.Bool.{true, false}
use native.Mathlib.Omega.{arith}
use lib.Dec.{ltb}
use lib.ListN.{length, get_or, get_or-eq_default}
use borrow.Author.Tests.{eq-eqb, ltb-true, ltb-false}
use Rattle.std.specs.List.{list_any}
use Rattle.channels.specs.Channels.{permitted}
use Rattle.channels.proofs.Cases.{by_test}
use Rattle.channels.proofs.Some.{some_at, some_none}
use Rattle.pairs.specs.declared.Pairs.{Pairs}
use Rattle.pairs.specs.Pairs.{is_number, listed, in_pairs, Tidy}
use Rattle.pairs.proofs.Laws.{tidy_listed}
use Rattle.calls.specs.Calls.{holds_pair}
use Rattle.table.specs.declared.Table.{Table}
use Rattle.rules.specs.Rules.{is_lost, pairs_kept}
use Rattle.roundtrip.proofs.Tables.{Listed}

pub number_in : (ps : Pairs) (k : ℕ) → k < length (listed ps) → in_pairs ps (get_or (listed ps) k 0 / 65536) (get_or (listed ps) k 0 % 65536) ≡ true
number_in ps k h =
    let n = get_or (listed ps) k 0 in
    some_at (is_number (n / 65536) (n % 65536)) 0 (listed ps) k h (rw (eq-eqb (n / 65536) (n / 65536) refl, eq-eqb (n % 65536) (n % 65536) refl))

-- a VPCI has room in two octets
pub pairs_fit : (ps : Pairs) → Tidy ps → ((p v : ℕ) → in_pairs ps p v ≡ true → p < 65536) → Listed ps
pairs_fit ps t each = record {
  few = omega (arith, tidy_listed ps t, t.most);
  small = λ k.
      by_test (ltb k (length (listed ps)))
      (λ y. omega (arith, each _ _ (number_in ps k (ltb-true k (length (listed ps)) y))))
      (λ n. rw (get_or-eq_default (listed ps) 0 {n = k} (ltb-false k (length (listed ps)) n)) (omega arith));
  zeros = t.zeros;
}

pub record Alone (t : Table) (others : Pairs) (p v : ℕ) : Type 0 where
  pub allowed : permitted t.pool p v ≡ true
  pub unheld : list_any (holds_pair p v) t.slots.all ≡ false
  pub elsewhere : in_pairs others p v ≡ false

pub pairs_kept_lem : (t : Table) (others ps : Pairs) → Tidy ps → ((p v : ℕ) → in_pairs ps p v ≡ true → Alone t others p v) → pairs_kept t others ps ≡ true
pairs_kept_lem t others ps d each =
    let ns = listed ps in
    rw (
      d.order,
      some_none (is_lost t others) 0 ns (λ k h. let e = each (get_or ns k 0 / 65536) (get_or ns k 0 % 65536) (number_in ps k h) in rw (e.allowed, e.unheld, e.elsewhere)),
    )
