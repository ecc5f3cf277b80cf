-- Laws of the loop over pairs: numbers that ascend, where those passed do; what is left begins with the one before the i-th.
--   ascending_end     none is left
-- Assumes nothing.
use Prim.Native.Nat.{ℕ, suc, ◌-◌, ◌≤◌, ◌<◌}
use mathlib.Core.Path.{◌≡◌, sym, ◌∙◌}
use mathlib.Core.Bool.{true}
use mathlib.Core.List.{List, ◌∷◌}
use native.Mathlib.Omega.{arith}
use lib.Dec.{ltb}
use lib.ListN.{length, get_or, drop, drop_of_length-le}
use lib.Seq.{drop-cons}
use borrow.Author.Tests.{ltb-true, ltb-false}
use Rattle.channels.proofs.Cases.{by_test}
use Rattle.pairs.specs.Pairs.{ascending}

module _ (xs : List ℕ) (i : ℕ) (low : 1 ≤ i) where
  one_left : i - 1 < length xs → drop (i - 1) xs ≡ get_or xs (i - 1) 0 ∷ drop i xs
  one_left h = let next : suc (i - 1) ≡ i = omega arith in drop-cons xs (i - 1) 0 h ∙ rw next

  pub ascending_end : length xs ≤ i → ascending xs ≡ ascending (drop (i - 1) xs) → true ≡ ascending xs
  ascending_end h left =
      by_test (ltb (i - 1) (length xs))
      (λ t. sym (left ∙ rw (one_left (ltb-true (i - 1) (length xs) t), drop_of_length-le xs {i = i} h)))
      (λ t. let k = ltb-false (i - 1) (length xs) t in sym (left ∙ rw (drop_of_length-le xs {i = i - 1} k)))
