-- Lists of pairs of VPCI and VCI, ascending, of at most 64: the pairs in doubt (document 02, R-2).
--   room                        how many there can be
--   pair_number, is_number        the number of a pair; if a number is that of a pair
--   listed                      the numbers of the pairs that there are
--   packed, no_pairs             pairs from the list of their numbers; none
--   size, is_full, in_pairs       how many there are; if there is no room for one more; if a pair is one of them
--   inserted, with_pair          a number put in at its place; one pair more
--   removed, without_pair        a pair taken out; one pair less
--   names, unless_named          if a RESTART names a pair; without the pairs that it names
--   leads, ascending, Tidy      the numbers ascend; pairs as our functions make them
-- `inserted`, `removed`, `leads` and `ascending` are over lists of any length. Assumes nothing.
use Rattle.std.specs.Prelude.{ℕ, ◌+◌, ◌-◌, ◌*◌, ◌/◌, ◌%◌, ◌≤◌, ◌≡◌, Bool, true, cond, ◌&&◌, List, [], ◌∷◌, ◌++◌, eqb, leb, ltb, length, take, replicate}
use Rattle.std.specs.List.{list_any}
use Rattle.channels.specs.declared.Named.{Named}
use Rattle.channels.specs.declared.Named.TheVariants.{All, One}
use Rattle.pairs.specs.declared.Pairs.{Pairs}

-- "At most 64 pairs are in doubt"
abbrev pub room : ℕ
room = 64

-- pairs ascend by VPCI and then VCI as their numbers do
abbrev pub pair_number : ℕ → ℕ → ℕ
pair_number p v = p * 65536 + v

abbrev pub is_number : ℕ → ℕ → ℕ → Bool
is_number p v n = eqb (n / 65536) p && eqb (n % 65536) v

abbrev pub listed : Pairs → List ℕ
listed ps = take ps.count ps.numbers

-- behind the pairs stand zeros
abbrev pub packed : List ℕ → Pairs
packed ns = record { count = length ns; numbers = ns ++ replicate (room - length ns) 0 }

abbrev pub no_pairs : Pairs
no_pairs = packed []

abbrev pub size : Pairs → ℕ
size ps = cond (ltb ps.count room) ps.count room

abbrev pub is_full : Pairs → Bool
is_full ps = leb room ps.count

abbrev pub in_pairs : Pairs → ℕ → ℕ → Bool
in_pairs ps p v = list_any (is_number p v) (listed ps)

-- a number goes in before the first that is not lower
abbrev pub inserted : ℕ → List ℕ → List ℕ
inserted n [] = n ∷ []
inserted n (x ∷ xs) = cond (ltb x n) (x ∷ inserted n xs) (n ∷ inserted x xs)

abbrev pub with_pair : Pairs → ℕ → ℕ → Pairs
with_pair ps p v = cond (is_full ps) ps (packed (inserted (pair_number p v) (listed ps)))

abbrev pub removed : ℕ → ℕ → List ℕ → List ℕ
removed p v [] = []
removed p v (x ∷ xs) = cond (is_number p v x) (removed p v xs) (x ∷ removed p v xs)

abbrev pub without_pair : Pairs → ℕ → ℕ → Pairs
without_pair ps p v = packed (removed p v (listed ps))

-- "names it, or all"
abbrev pub names : Named → ℕ → ℕ → Bool
names All q w = true
names (One pv) q w = eqb pv.vpci q && eqb pv.vci w

-- "A user's RESTART that names it, or all, ends the doubt."
abbrev pub unless_named : Pairs → Named → Pairs
unless_named ps All = no_pairs
unless_named ps (One pv) = without_pair ps pv.vpci pv.vci

abbrev pub leads : ℕ → List ℕ → Bool
leads n [] = true
leads n (x ∷ xs) = ltb n x

abbrev pub ascending : List ℕ → Bool
ascending [] = true
ascending (x ∷ xs) = leads x xs && ascending xs

pub record Tidy (ps : Pairs) : Type 0 where
  pub most : ps.count ≤ room
  pub zeros : ps ≡ packed (listed ps)
  pub order : ascending (listed ps) ≡ true
