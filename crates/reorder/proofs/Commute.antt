-- How two steps are shown to commute.
--   commute_sym      the other way round
--   commute_by       steps that are equal where they are taken
--   commute_idle     a step that changes nothing and always answers the same
--   commute_look     a step that leaves the state and answers the same before and after the other
--   commute_refused  steps behind a refusal that looks at the message alone: t and u say if the two messages are refused, a and b are their answers then
-- Assumes nothing.
use mathlib.Core.Path.{◌≡◌, refl, sym}
use mathlib.Core.Bool.{Bool, true, false, cond}
use Rattle.reorder.specs.Reorder.{Commute}

module _ {S A : Type 0} where
  pub commute_sym : (f g : S → A × S) (s : S) → Commute f g s → Commute g f s
  commute_sym f g s c = record { first = c.second; second = c.first; both = sym c.both }

  pub commute_by : (f f' g g' : S → A × S) (s : S) → f s ≡ f' s → g s ≡ g' s → f (g' s).1 ≡ f' (g' s).1 → g (f' s).1 ≡ g' (f' s).1
      → Commute f' g' s → Commute f g s
  commute_by f f' g g' s a b a' b' c = record { first = cc; second = cc; both = cc }

  pub commute_idle : (a : A) (g : S → A × S) (s : S) → Commute (λ (x : S). (a, x)) g s
  commute_idle a g s = record { first = refl; second = refl; both = refl }

  pub commute_look : (f g : S → A × S) (s : S) → (f s).1 ≡ s → (f (g s).1).1 ≡ (g s).1 → (f s).0 ≡ (f (g s).1).0 → Commute f g s
  commute_look f g s here there same = record { first = same; second = cc; both = cc }

  pub commute_refused : (t u : Bool) (a b : A) (f g : S → A × S) (s : S) → (t ≡ false → u ≡ false → Commute f g s)
      → Commute (λ (x : S). cond t (a, x) (f x)) (λ (x : S). cond u (b, x) (g x)) s
  commute_refused true u a b f g s c = commute_idle a (λ (x : S). cond u (b, x) (g x)) s
  commute_refused false true a b f g s c = commute_sym (λ (x : S). (b, x)) f s (commute_idle b f s)
  commute_refused false false a b f g s c = c refl refl
