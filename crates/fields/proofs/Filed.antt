-- Contents that are written before their field.
--   kept      what was written at the front of a room is there
--   filed     a field, from its contents and their length
-- Assumes nothing.
use Prim.Native.Nat.{ℕ, ◌≤◌}
use native.Mathlib.Omega.{arith}
use mathlib.Core.Path.{◌≡◌}
use mathlib.Core.List.{List}
use lib.ListN.{length, take, drop}
use lib.Seq.{take-append_seam}
use Rattle.octets.specs.Octets.{Wrote}
use Rattle.octets.proofs.Stores.{chained}
use Rattle.fields.specs.Fields.{field}

pub kept : {l vs l₁ : List ℕ} {k : ℕ} → Wrote l 0 vs l₁ k → k ≤ length l → take k l₁ ≡ vs
kept {l} {vs} w h =
    let c = chained w (omega (arith, w.past)) in
    rw (c.0, c.1) (take-append_seam vs (drop (length vs) l))

-- contents written to the front of a room of their own, and then put behind a tag and their length
pub filed : {l vs l₁ old new : List ℕ} {k at tag end : ℕ}
    → Wrote l 0 vs l₁ k → k ≤ length l → Wrote old at (field tag (take k l₁)) new end → Wrote old at (field tag vs) new end
filed c h w = rw (kept c h) at w
