-- The calls that were written, read back.
--   StateFits, CallFits      a call whose numbers have room in its field
--   call_back                one call's field
--   slots_back               the fields of a list of slots
-- Assumes nothing.
use Prim.Native.Nat.{ℕ, suc, ◌+◌, ◌≤◌, ◌<◌}
use mathlib.Core.Path.{◌≡◌, refl, ap, ◌∙◌}
use mathlib.Core.Bool.{Bool, true, false, cond}
use mathlib.Core.List.{List, [], ◌∷◌, ◌++◌}
use native.Mathlib.Omega.{arith}
use lib.Dec.{eqb}
use lib.ListN.{length}
use borrow.Author.Tests.{eq-eqb, ne_eqb, lt-ltb}
use Rattle.octets.proofs.Numbers.{number_back, flag_back, reference_back}
use Rattle.calls.specs.declared.Clearing.{Clearing}
use Rattle.calls.specs.declared.State.{State}
use Rattle.calls.specs.declared.State.TheVariants.{N3, N6, N9, N10, N12}
use Rattle.calls.specs.declared.Call.{Call}
use Rattle.calls.specs.declared.Hold.{Hold}
use Rattle.calls.specs.declared.Hold.TheVariants.{Empty, Live}
use Rattle.calls.specs.declared.Slot.{Slot}
use Rattle.fields.specs.Fields.{field, state_octets, call_octets, hold_field}
use Rattle.saved.specs.Form.{call_fields}
use Rattle.reading.specs.Reading.{state_in, call_in, begins, slots_in}
use Rattle.roundtrip.proofs.Numbers.{eight_back}
use Rattle.roundtrip.proofs.Fields.{rest_back}

-- a deadline has room in eight octets; the cause says the diagnostic
abbrev pub StateFits : State → Type 0
StateFits N3 = Unit {0}
StateFits (N6 d) = d < 18446744073709551616
StateFits (N9 d) = d < 18446744073709551616
StateFits N10 = Unit {0}
StateFits (N12 k d) = (d < 18446744073709551616) × (k.expired ≡ eqb k.cause 102)

pub record CallFits (c : Call) (q : State) : Type 0 where
  pub vpci : c.pair.vpci < 65536
  pub vci : c.pair.vci < 65536
  pub reference : c.reference < 8388608
  pub state : StateFits q

second_back : (b : Bool) → eqb (cond b 2 1) 2 ≡ b
second_back true = refl
second_back false = refl

clearing_back : (k : Clearing) (n d : ℕ) → n ≡ d → k.expired ≡ eqb k.cause 102
    → N12 (record { second = eqb (cond k.second 2 1) 2; cause = k.cause; expired = eqb k.cause 102 }) n ≡ N12 k d
clearing_back k n d e x = rw (e, second_back k.second, ← x)

-- eleven octets, and then the state
state_back : (a b c d e f g h i j k : ℕ) (p : State) (post : List ℕ) → StateFits p
    → state_in (a ∷ b ∷ c ∷ d ∷ e ∷ f ∷ g ∷ h ∷ i ∷ j ∷ k ∷ (state_octets p ++ post)) ≡ p
state_back a b c d e f g h i j k N3 post s = refl
state_back a b c d e f g h i j k (N6 n) post s = ap N6 (eight_back n s)
state_back a b c d e f g h i j k (N9 n) post s = ap N9 (eight_back n s)
state_back a b c d e f g h i j k N10 post s = refl
state_back a b c d e f g h i j k (N12 q n) post s = clearing_back q _ n (eight_back n s.0) s.1

pub call_back : (slot : ℕ) (c : Call) (q : State) (post : List ℕ) → CallFits c q → call_in (field 4 (call_octets slot c q) ++ post) ≡ c
call_back slot c q post s =
    rw (
      flag_back c.network c.reference,
      reference_back c.network c.reference s.reference,
      number_back c.pair.vpci s.vpci,
      number_back c.pair.vci s.vci,
    )

-- a call's field is short
state_short : (p : State) → length (state_octets p) ≤ 11
state_short N3 = omega arith
state_short (N6 d) = omega arith
state_short (N9 d) = omega arith
state_short N10 = omega arith
state_short (N12 k d) = omega arith

pub call_short : (slot : ℕ) (c : Call) (q : State) → length (call_octets slot c q) ≤ 19
call_short slot c q = omega (arith, state_short q)

-- a call's field says whose it is
named : (slot other : ℕ) (c : Call) (q : State) (post : List ℕ) → begins slot (field 4 (call_octets other c q) ++ post) ≡ eqb other slot
named slot other c q post = rw (lt-ltb 0 (length (field 4 (call_octets other c q) ++ post)) (omega arith))

-- no field of a later slot is taken for this slot's
hold_not_begun : (slot later : ℕ) (x : Hold) (behind : List ℕ) → slot < later → begins slot behind ≡ false → begins slot (hold_field later x ++ behind) ≡ false
hold_not_begun slot later Empty behind h e = e
hold_not_begun slot later (Live c q) behind h e = named slot later c q behind ∙ ne_eqb later slot (λ z. absurd (omega arith))

not_begun : (slot later : ℕ) (ss : List Slot) → slot < later → begins slot (call_fields later ss) ≡ false
not_begun slot later [] h = refl
not_begun slot later (s ∷ ss) h = hold_not_begun slot later s.hold (call_fields (later + 1) ss) h (not_begun slot (later + 1) ss (omega arith))

-- every call of a list of slots
abbrev pub HoldFits : Hold → Type 0
HoldFits Empty = Unit {0}
HoldFits (Live c q) = CallFits c q

abbrev pub AllFit : List Slot → Type 0
AllFit [] = Unit {0}
AllFit (s ∷ ss) = HoldFits s.hold × AllFit ss

hold_back : (slot : ℕ) (x : Hold) (ss : List Slot) → HoldFits x → slots_in (slot + 1) (call_fields (slot + 1) ss) (length ss) ≡ ss
    → slots_in slot (hold_field slot x ++ call_fields (slot + 1) ss) (suc (length ss)) ≡ record { hold = x } ∷ ss
unfolding slots_in
hold_back slot Empty ss f ih =
    let none : begins slot (call_fields (slot + 1) ss) ≡ false = not_begun slot (slot + 1) ss (omega arith) in
    rw (none, ih)
hold_back slot (Live c q) ss f ih =
    let post = call_fields (slot + 1) ss in
    let begun : begins slot (field 4 (call_octets slot c q) ++ post) ≡ true = named slot slot c q post ∙ eq-eqb slot slot refl in
    let behind = rest_back 4 (call_octets slot c q) post (omega (arith, call_short slot c q)) in
    rw (begun, call_back slot c q post f, state_back _ _ _ _ _ _ _ _ _ _ _ q post f.state, behind, ih)

pub slots_back : (slot : ℕ) (ss : List Slot) → AllFit ss → slots_in slot (call_fields slot ss) (length ss) ≡ ss
unfolding slots_in
slots_back slot [] f = refl
slots_back slot (s ∷ ss) f = hold_back slot s.hold ss f.0 (slots_back (slot + 1) ss f.1)
