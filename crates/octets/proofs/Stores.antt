-- Laws of stores one after the other. Every writer of every crate cites `chain`, every reply `chained`, and a loop that writes texts or elements `Begun`.
--   sets-append     a run of stores, then another behind it, is the run of both
--   chain           two writers, the second where the first ended
--   chained         a run from place 0 that fits fills the front
--   wrote_none      a writer that puts nothing
--   Begun, begun-none, begun_more, begun_all     a run that is written piece by piece: a part is written, and the rest is left
-- Assumes nothing.
use Prim.Native.Nat.{ℕ, suc, ◌+◌, ◌≤◌}
use mathlib.Core.Path.{◌≡◌, refl, sym, ap, ◌∙◌}
use mathlib.Core.List.{List, [], ◌∷◌, ◌++◌, append_assoc, append-nil}
use native.Mathlib.Omega.{arith}
use lib.ListN.{length, drop, set, length-append}
use lib.Seq.{sets, sets-eq}
use Rattle.octets.specs.Octets.{Wrote, front}

pub sets-append : (vs ws l : List ℕ) (i : ℕ) → sets l i (vs ++ ws) ≡ sets (sets l i vs) (i + length vs) ws
sets-append [] ws l i =
    let e : i + 0 ≡ i = omega arith in
    ap (λ (k : ℕ). sets l k ws) (sym e)
sets-append (v ∷ vs) ws l i =
    let e : suc i + length vs ≡ i + suc (length vs) = omega arith in
    sets-append vs ws (set l i v) (suc i) ∙ ap (λ (k : ℕ). sets (sets (set l i v) (suc i) vs) k ws) e

pub chain : {l vs l₁ ws l₂ : List ℕ} {i j k : ℕ} → Wrote l i vs l₁ j → Wrote l₁ j ws l₂ k → Wrote l i (vs ++ ws) l₂ k
chain {l} {vs} {l₁} {ws} {l₂} {i} a b =
    record {
      run = b.run ∙ rw (a.run, a.past, sets-append vs ws l i);
      past = omega (arith, a.past, b.past, length-append vs ws);
    }

pub chained : {l vs l₁ : List ℕ} {k : ℕ} → Wrote l 0 vs l₁ k → length vs ≤ length l → (k ≡ length vs) × (l₁ ≡ front vs l)
chained {l} {vs} a h =
    let z : 0 + length vs ≡ length vs = omega arith in
    (omega (arith, a.past), a.run ∙ sets-eq vs l 0 (omega arith) ∙ ap (λ (n : ℕ). vs ++ drop n l) z)

pub wrote_none : (old : List ℕ) (at : ℕ) → Wrote old at [] old at
wrote_none old at = record { run = refl; past = omega arith }

-- of `whole`, all but `rest` was written at place `at` of `old`, which left `new`; the rest goes to `next`
pub record Begun (whole rest old : List ℕ) (at : ℕ) (new : List ℕ) (next : ℕ) : Type 0 where
  pub written : List ℕ
  pub left : whole ≡ written ++ rest
  pub wrote : Wrote old at written new next

pub begun-none : (whole old : List ℕ) (at : ℕ) → Begun whole whole old at old at
begun-none whole old at = record { written = []; left = refl; wrote = wrote_none old at }

pub begun_more : {whole rest piece more old new newer : List ℕ} {at next end : ℕ}
    → Begun whole rest old at new next → rest ≡ piece ++ more → Wrote new next piece newer end → Begun whole more old at newer end
begun_more {piece = piece} b e w =
    record { written = b.written ++ piece; left = b.left ∙ rw (e, append_assoc); wrote = chain b.wrote w }

pub begun_all : {whole rest old new : List ℕ} {at next : ℕ} → Begun whole rest old at new next → rest ≡ [] → Wrote old at whole new next
begun_all {whole = whole} b e =
    let all : whole ≡ b.written = b.left ∙ rw (e, append-nil) in
    rw all b.wrote
