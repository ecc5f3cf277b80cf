-- An order that keeps dependent messages in order changes no answer and no final state.
--   bubble         one message, taken before all that came before it
--   in_order       the messages at positions that ascend, taken in another order of these positions
--   reorder        the law: every answer, and the final state
--   reorder_each   the law, read at one message
-- P is what every message of the list meets, D says which pairs keep their order, and Inv is what every state on the way meets.
-- A position stays a number of the first list throughout, so that nothing is renumbered. Assumes nothing.
use Prim.Native.Nat.{ℕ, suc, ◌<◌}
use native.Mathlib.Omega.{arith}
use mathlib.Core.Path.{◌≡◌, refl, sym, ap, ◌∙◌}
use mathlib.Core.Logic.{◌≢◌, ⊎_elim}
use mathlib.Core.List.Memᴰ.{cases_cons as cases}
use mathlib.Core.List.Memᴰ.{head as here}
use mathlib.Core.List.Memᴰ.{tail as there}
use mathlib.Core.List.{List, [], ◌∷◌, map, Memᴰ as Mem}
use lib.ListN.{length, get_or}
use Rattle.reorder.specs.Reorder.{answers, final, Order, reordered, Commute}
use Rattle.reorder.proofs.Positions.{without, left_in, still_in, length_without, Spread, more, spread, spread_without, cover, every}
use Rattle.reorder.proofs.Positions.{upto, length_upto, in_upto, of_upto, upto_ascends, read_all, read-map}

module _ {S M A : Type 0} (step : S → M → A × S) where
  length-answers : (s : S) (ms : List M) → length (answers step s ms) ≡ length ms
  length-answers s [] = refl
  length-answers s (m ∷ ms) = ap suc (length-answers (step s m).1 ms)

module _ {S M A : Type 0} (step : S → M → A × S) (P : M → Type 0) (D : M → M → Type 0) (Inv : S → Type 0) where
  module _ (keep : (s : S) (m : M) → P m → Inv s → Inv (step s m).1)
      (commute : (s : S) (m n : M) → P m → P n → Inv s → ¬ D m n → Commute (λ (x : S). step x m) (λ (x : S). step x n) s) where
    -- `at` is the message at a position, and `g` the answer that it got in the first order
    module _ (at : ℕ → M) (g : ℕ → A) where
      bubble : (p : ℕ) (us : List ℕ) (s : S) (m : Mem p us) → Inv s → ((q : ℕ) → Mem q us → P (at q)) → Spread ◌<◌ us
          → ((q : ℕ) → Mem q us → q < p → ¬ D (at p) (at q)) → answers step s (map at us) ≡ map g us
          → ((step s (at p)).0 ≡ g p)
          × (answers step (step s (at p)).1 (map at (without m)) ≡ map g (without m))
          × (final step s (map at us) ≡ final step (step s (at p)).1 (map at (without m)))
      bubble p us s (here e) inv ok up free same = (cc, cc, cc)
      bubble p us s (there {x = u} {xs = vs} m) inv ok (more ahead rest) free same =
          let c = commute s (at p) (at u) (ok p (there m)) (ok u (here refl)) inv (free u (here refl) (ahead p m)) in
          let kept = keep s (at u) (ok u (here refl)) inv in
          let later = bubble p vs (step s (at u)).1 m kept (λ q n. ok q (there n)) rest (λ q n. free q (there n)) (cc) in
          (cc, cc, cc)

      in_order : (ps us : List ℕ) (s : S) → Inv s → ((q : ℕ) → Mem q us → P (at q)) → Spread ◌≢◌ ps → Spread (λ (i j : ℕ). D (at i) (at j) → i < j) ps
          → Spread ◌<◌ us → length ps ≡ length us → ((q : ℕ) → Mem q ps → Mem q us) → answers step s (map at us) ≡ map g us
          → (answers step s (map at ps) ≡ map g ps) × (final step s (map at ps) ≡ final step s (map at us))
      in_order [] [] s inv ok once kept up long in-us same = (refl, refl)
      in_order [] (u ∷ us) s inv ok once kept up long in-us same = absurd (omega arith)
      in_order (p ∷ ps) us s inv ok (more other once) (more before kept) up long in-us same =
          let m : Mem p us = in-us p (here refl) in
          let all = cover (p ∷ ps) us (more other once) long in-us in
          let free : (q : ℕ) → Mem q us → q < p → ¬ D (at p) (at q) = λ q n less dep. ⊎_elim (λ e. omega arith) (λ k. omega (arith, before q k dep)) (cases (all q n)) in
          let now = bubble p us s m inv ok up free same in
          let inv' = keep s (at p) (ok p m) inv in
          let still = still_in m other (λ q n. in-us q (there n)) in
          let long' : length ps ≡ length (without m) = omega (arith, length_without m) in
          let later = in_order ps (without m) (step s (at p)).1 inv' (λ q n. ok q (left_in m n)) once kept (spread_without m up) long' still now.1 in
          (cc, cc)

    pub reorder : (d : M) (a : A) (xs : List M) (ps : List ℕ) (s : S) → Inv s → ((i : ℕ) → i < length xs → P (get_or xs i d)) → Order D d xs ps
        → (answers step s (reordered xs ps d) ≡ map (λ (i : ℕ). get_or (answers step s xs) i a) ps) × (final step s (reordered xs ps d) ≡ final step s xs)
    reorder d a xs ps s inv ok o =
        let n = length xs in
        let at : ℕ → M = λ i. get_or xs i d in
        let g : ℕ → A = λ i. get_or (answers step s xs) i a in
        let all : map at (upto 0 n) ≡ xs = read_all d xs in
        let same : map g (upto 0 n) ≡ answers step s xs = rw (length-answers step s xs) at (read_all a (answers step s xs)) in
        let once = spread ◌≢◌ ps o.once in
        let kept = spread (λ (i j : ℕ). D (at i) (at j) → i < j) ps o.kept in
        let long : length ps ≡ length (upto 0 n) = omega (arith, o.long, length_upto 0 n) in
        let below : (q : ℕ) → Mem q ps → q < n = every (λ (i : ℕ). i < n) ps o.within in
        let in-us : (q : ℕ) → Mem q ps → Mem q (upto 0 n) = λ q m. in_upto 0 n q (omega arith) (omega (arith, below q m)) in
        let fine : (q : ℕ) → Mem q (upto 0 n) → P (at q) = λ q m. ok q (omega (arith, of_upto 0 n q m)) in
        let r = in_order at g ps (upto 0 n) s inv fine once kept (upto_ascends 0 n) long in-us (ap (answers step s) all ∙ sym same) in
        (r.0, r.1 ∙ ap (final step s) all)

    pub reorder_each : (d : M) (a : A) (xs : List M) (ps : List ℕ) (s : S) → Inv s → ((i : ℕ) → i < length xs → P (get_or xs i d)) → Order D d xs ps
        → (k : ℕ) → k < length ps → get_or (answers step s (reordered xs ps d)) k a ≡ get_or (answers step s xs) (get_or ps k 0) a
    reorder_each d a xs ps s inv ok o k h = rw (reorder d a xs ps s inv ok o).0 (read-map (λ (i : ℕ). get_or (answers step s xs) i a) a ps k h)
