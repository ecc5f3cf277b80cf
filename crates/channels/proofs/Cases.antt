-- Cases of a test.
--   by_test     a test is true or false
--   clash       no test is both
--   both        two tests that pass together pass
-- Assumes nothing.
use mathlib.Core.Path.{◌≡◌, refl, sym, ◌∙◌}
use mathlib.Core.Bool.{Bool, true, false, ◌&&◌, true≢false}

module _ {ℓ} {P : Type ℓ} where
  pub by_test : (t : Bool) → (t ≡ true → P) → (t ≡ false → P) → P
  by_test true f g = f refl
  by_test false f g = g refl

  pub clash : {t : Bool} → t ≡ true → t ≡ false → P
  clash a b = absurd (true≢false (sym a ∙ b))

pub both : (a b : Bool) → (a && b) ≡ true → (a ≡ true) × (b ≡ true)
both true b e = (refl, e)
both false b e = clash e refl
