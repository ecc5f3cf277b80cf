-- Laws of the reading of octets in hex, pair by pair.
--   hex_step        what is left from a pair on
--   Read            what was read so far: these octets are stored, and the others are left
--   read_none, read_more, read_bad, read_all   the loop's start, its step and its two ends
-- Assumes nothing.
use Rattle.std.proofs.Common.{◌≡◌, ℕ, suc, ◌+◌, ◌*◌, ◌-◌, ◌≤◌, ◌<◌, List, [], ◌∷◌, ◌++◌, Option, Some, None, length, drop, get_or, set, refl, ◌∙◌, append_assoc, append-nil, arith}
use lib.Seq.{get_or-drop, drop-drop}
use borrow.Author.Tests.{eq-eqb, ne_eqb}
use Rattle.octets.specs.Octets.{Wrote, front}
use Rattle.octets.proofs.Stores.{chain, chained}
use Rattle.script.specs.Hex.{hex_pair, before, hex_octets, decoded}

abbrev pub pair_at : List ℕ → ℕ → Option ℕ
pair_at w i = hex_pair (get_or w (2 * i) 0) (get_or w (2 * i + 1) 0)

hex_step : (m : ℕ) (w : List ℕ) (i : ℕ) → hex_octets (suc m) (drop (2 * i) w) ≡ before (pair_at w i) (hex_octets m (drop (2 * (i + 1)) w))
hex_step m w i =
    let z : 2 * i + 0 ≡ 2 * i = omega arith in
    let t : 2 * (i + 1) ≡ 2 * i + 2 = omega arith in
    rw (get_or-drop (2 * i) w 0 0, get_or-drop (2 * i) w 1 0, drop-drop 2 (2 * i) w, z, t)

pub record Read (n : ℕ) (w old new : List ℕ) (i : ℕ) : Type 0 where
  pub octets : List ℕ
  pub left : hex_octets n w ≡ octets ++ hex_octets (n - i) (drop (2 * i) w)
  pub stored : Wrote old 0 octets new i

pub read_none : (n : ℕ) (w old : List ℕ) → Read n w old old 0
read_none n w old =
    let z : n - 0 ≡ n = omega arith in
    record { octets = []; left = rw z; stored = record { run = refl; past = refl } }

module _ (n : ℕ) (w old new : List ℕ) (i : ℕ) (r : Read n w old new i) where
  pub read_more : i < n → (o : ℕ) → pair_at w i ≡ Some o → Read n w old (set new i o) (i + 1)
  read_more h o p =
      let s : n - i ≡ suc (n - (i + 1)) = omega arith in
      record {
        octets = r.octets ++ (o ∷ []);
        left = r.left ∙ rw (s, hex_step (n - (i + 1)) w i, p, append_assoc);
        stored = chain r.stored (record { run = refl; past = refl });
      }

  pub read_bad : i < n → pair_at w i ≡ None → n ≤ length old → (None ≡ decoded n w) × (new ≡ front (hex_octets n w) old)
  read_bad h p f =
      let s : n - i ≡ suc (n - (i + 1)) = omega arith in
      let e : hex_octets n w ≡ r.octets = r.left ∙ rw (s, hex_step (n - (i + 1)) w i, p, append-nil) in
      let l : length r.octets ≡ i = omega (arith, r.stored.past) in
      (rw (e, ne_eqb (length r.octets) n (λ q. absurd (omega arith))), rw e (chained r.stored (omega arith)).1)

  pub read_all : i ≡ n → n ≤ length old → (Some n ≡ decoded n w) × (new ≡ front (hex_octets n w) old)
  read_all h f =
      let s : n - i ≡ 0 = omega arith in
      let e : hex_octets n w ≡ r.octets = r.left ∙ rw (s, append-nil) in
      let l : length r.octets ≡ n = omega (arith, r.stored.past) in
      (rw (e, eq-eqb (length r.octets) n l), rw e (chained r.stored (omega arith)).1)
