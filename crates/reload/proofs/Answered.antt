-- What the reader answers, by its tests.
--   over_limit, not_kept, not_own                each refusal of a table whose lists are accepted
--   all_pass                                     the table
-- Over the number of slots; p is what start makes of the lists, t the table that is read. Assumes nothing.
use Prim.Native.Nat.{ℕ}
use mathlib.Core.Path.{◌≡◌, ap, ◌∙◌}
use mathlib.Core.Bool.{Bool, true, false, cond, ◌&&◌}
use mathlib.Core.List.{List}
use lib.Dec.{leb}
use Rattle.octets.specs.Octets.{equal}
use Rattle.provisioning.specs.Provisioning.{Provision, provision}
use Rattle.table.specs.declared.Table.{Table}
use Rattle.outcome.specs.declared.Started.{Started}
use Rattle.calls.specs.Timers.{largest_reading}
use Rattle.saved.specs.Form.{form_of}
use Rattle.reading.specs.Reading.{range_numbers, pair_numbers, table_with}
use Rattle.rules.specs.Rules.{table_kept}
use Rattle.reload.specs.Reload.{no_table, reload_in}

abbrev answer : Bool → Bool → Bool → Bool → Table → Started
answer a b c d t = cond (a && (b && (c && d))) (record { refusal = 0; table = t }) no_table

module _ (a b c d : Bool) (t : Table) where
  second : a ≡ true → b ≡ false → no_table ≡ answer a b c d t
  second x y = rw (x, y)

  third : a ≡ true → b ≡ true → c ≡ false → no_table ≡ answer a b c d t
  third x y z = rw (x, y, z)

  fourth : a ≡ true → b ≡ true → c ≡ true → d ≡ false → no_table ≡ answer a b c d t
  fourth x y z w = rw (x, y, z, w)

  passed : a ≡ true → b ≡ true → c ≡ true → d ≡ true → record { refusal = 0; table = t } ≡ answer a b c d t
  passed x y z w = rw (x, y, z, w)

module _ (count : ℕ) (f : List ℕ) where
  abbrev reading : Table → Bool
  reading t = leb t.last largest_reading

  abbrev rules : Table → Bool
  rules t = table_kept count t

  abbrev own : Table → Bool
  own t = equal (form_of t) f

  abbrev answered : Provision → Table → Started
  answered p t = answer p.accepted (reading t) (rules t) (own t) t

  module _ (p : Provision) (made : p ≡ provision (range_numbers f) (pair_numbers f)) where
    module _ (t : Table) (same : t ≡ table_with p.pool count f) (accepted : p.accepted ≡ true) where
      as_answer : answered p t ≡ reload_in count f
      as_answer = ap (answered p) same ∙ ap (λ (x : Provision). answered x (table_with x.pool count f)) made

      pub over_limit : reading t ≡ false → no_table ≡ reload_in count f
      over_limit e = second p.accepted (reading t) (rules t) (own t) t accepted e ∙ as_answer

      module _ (read : reading t ≡ true) where
        pub not_kept : rules t ≡ false → no_table ≡ reload_in count f
        not_kept e = third p.accepted (reading t) (rules t) (own t) t accepted read e ∙ as_answer

        pub not_own : rules t ≡ true → own t ≡ false → no_table ≡ reload_in count f
        not_own k e = fourth p.accepted (reading t) (rules t) (own t) t accepted read k e ∙ as_answer

        pub all_pass : rules t ≡ true → own t ≡ true → record { refusal = 0; table = t } ≡ reload_in count f
        all_pass k e = passed p.accepted (reading t) (rules t) (own t) t accepted read k e ∙ as_answer
