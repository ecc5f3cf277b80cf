-- Which marks a pair sets, and what pairs that are read one after the other set.
--   stands                      if a pair is that of a VCI of a range
--   Upto                        the pair's marks are set in the first j ranges
--   read_then, read_same        one after the other; by another test that says the same
-- Assumes nothing.
use Prim.Native.Nat.{ℕ, ◌+◌, ◌*◌, ◌≤◌, ◌<◌}
use mathlib.Core.Path.{◌≡◌, ap, ◌∙◌}
use mathlib.Core.Bool.{Bool, false, ◌&&◌, ◌||◌, or_assoc}
use mathlib.Core.List.{List}
use native.Mathlib.Omega.{arith}
use lib.Dec.{eqb}
use lib.ListN.{length, get_or}
use Rattle.identifier.specs.declared.Pair.{Pair}
use Rattle.channels.specs.declared.Range.{Range}
use Rattle.search.specs.Marks.{near, range_at, Read}
use Rattle.search.specs.declared.Marks.{Marks}

-- if the pair c is that of the VCI o behind the first of a range
abbrev pub stands : Range → Pair → ℕ → Bool
stands r c o = eqb c.vpci r.vpci && eqb c.vci (r.first + o)

-- in no other range
pub record Upto (rs : List Range) (j : ℕ) (c : Pair) (old new : List Bool) : Type 0 where
  pub wide : length new ≡ length old
  pub mark : (k o : ℕ) → k < j → o < near → get_or new (k * near + o) false ≡ (get_or old (k * near + o) false || stands (range_at rs k) c o)
  pub rest : (k o : ℕ) → j ≤ k → o < near → get_or new (k * near + o) false ≡ get_or old (k * near + o) false

module _ (rs : List Range) where
  pub read_then : {t u : ℕ → ℕ → Bool} {i j : ℕ} {old on new : Marks} → Read rs t i old on → Read rs u j on new → Read rs (λ p v. t p v || u p v) (i + j) old new
  read_then {t} {u} {i} {j} {old} a b =
      let first = a.count in
      let second = b.count in
      record {
        count = omega arith;
        wide = b.wide ∙ a.wide;
        mark = λ k o low h.
            let p = (range_at rs k).vpci in
            let v = (range_at rs k).first + o in
            b.mark k o low h ∙ rw (a.mark k o low h) (or_assoc (get_or old.on (k * near + o) false) (t p v) (u p v));
      }

  pub read_same : {t u : ℕ → ℕ → Bool} {i j : ℕ} {old new : Marks} → ((p v : ℕ) → t p v ≡ u p v) → i ≡ j → Read rs t i old new → Read rs u j old new
  read_same {t} {u} {i} {j} {old} e n a =
      let count = a.count in
      record {
        count = omega arith;
        wide = a.wide;
        mark = λ k o low h. a.mark k o low h ∙ ap (λ (b : Bool). get_or old.on (k * near + o) false || b) (e (range_at rs k).vpci ((range_at rs k).first + o));
      }
