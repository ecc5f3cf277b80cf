-- A whole message is its header and then its elements: what the writers of messages cite.
--   body-size       how long elements one after the other are
--   whole           a header with the right length field, and then the elements, is the message
-- Assumes nothing.
use Prim.Native.Nat.{ℕ, ◌+◌, ◌≤◌}
use mathlib.Core.Path.{◌≡◌}
use mathlib.Core.Bool.{Bool}
use mathlib.Core.List.{List, ◌∷◌, ◌++◌}
use native.Mathlib.Omega.{arith}
use lib.ListN.{length, length-append}
use Rattle.octets.specs.Octets.{Wrote, Fills}
use Rattle.octets.proofs.Stores.{chained}
use Rattle.replies.specs.Message.{Element, element_octets, body, header, message, octets}

pub body-size : (e : Element) (es : List Element) → length (body (e ∷ es)) ≡ 4 + length e.contents + length (body es)
body-size e es = rw (length-append (element_octets e) (body es)) (omega arith)

pub whole : (flag : Bool) (r kind size : ℕ) (es : List Element) {l l₁ : List ℕ} {n : ℕ}
    → length (body es) ≡ size
    → 9 + size ≤ length l
    → Wrote l 0 (header flag r kind size ++ body es) l₁ n
    → Fills l (octets (message flag r kind es)) l₁ n
whole flag r kind size es {l} {l₁} {n} e fits w =
    let w' : Wrote l 0 (octets (message flag r kind es)) l₁ n = rw e w in
    chained w' (rw (length-append (header flag r kind (length (body es))) (body es), e) fits)
