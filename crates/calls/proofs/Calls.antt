-- Laws of one slot: what names a call, and what a slot holds.
--   call_not_empty         a slot with a call is not empty
--   call_named_once        a slot's call has one side and one reference
--   hold_pair              the entry of a slot is a pair if and only if its call is on it
-- Assumes nothing.
use Prim.Native.Nat.{ℕ}
use mathlib.Core.Path.{◌≡◌, refl}
use mathlib.Core.Bool.{Bool, true, false, beq}
use lib.Dec.{eqb}
use borrow.Author.Tests.{eqb-true}
use Rattle.identifier.specs.Pair.{is_pair}
use Rattle.channels.proofs.Cases.{by_test, clash}
use Rattle.calls.specs.declared.Call.{Call}
use Rattle.calls.specs.declared.State.{State}
use Rattle.calls.specs.declared.Hold.{Hold}
use Rattle.calls.specs.declared.Hold.TheVariants.{Empty, Live}
use Rattle.calls.specs.declared.Slot.{Slot}
use Rattle.calls.specs.Calls.{is_empty, empty_hold, refers_to, is_call, pair_held, pair_of}

pub hold_not_empty : (n : Bool) (r : ℕ) (h : Hold) → refers_to n r h ≡ true → empty_hold h ≡ false
hold_not_empty n r Empty e = clash e refl
hold_not_empty n r (Live c q) e = refl

pub call_not_empty : (n : Bool) (r : ℕ) (s : Slot) → is_call n r s ≡ true → is_empty s ≡ false
call_not_empty n r s e = hold_not_empty n r s.hold e

pub beq_true : (a b : Bool) → beq a b ≡ true → a ≡ b
beq_true true true e = refl
beq_true true false e = clash e refl
beq_true false true e = clash e refl
beq_true false false e = refl

pub record Named (n : Bool) (r : ℕ) (c : Call) : Type 0 where
  pub side : c.network ≡ n
  pub value : c.reference ≡ r

pub call_named : (n : Bool) (r : ℕ) (c : Call) (q : State) → refers_to n r (Live c q) ≡ true → Named n r c
call_named n r c q e =
    by_test (beq c.network n)
    (λ t. by_test (eqb c.reference r)
    (λ u. record { side = beq_true _ _ t; value = eqb-true _ _ u })
    (λ u. clash e (rw (t, u))))
    (λ t. clash e (rw t))

pub hold_named_once : (n m : Bool) (r s : ℕ) (h : Hold) → refers_to n r h ≡ true → refers_to m s h ≡ true → (n ≡ m) × (r ≡ s)
hold_named_once n m r s Empty e g = clash e refl
hold_named_once n m r s (Live c q) e g =
    let a = call_named n r c q e in
    let b = call_named m s c q g in
    (cc (a.side, b.side), cc (a.value, b.value))

pub call_named_once : (n m : Bool) (r q : ℕ) (s : Slot) → is_call n r s ≡ true → is_call m q s ≡ true → (n ≡ m) × (r ≡ q)
call_named_once n m r q s e g = hold_named_once n m r q s.hold e g

pub hold_pair : (p v : ℕ) (h : Hold) → is_pair p v (pair_of h) ≡ pair_held p v h
hold_pair p v Empty = refl
hold_pair p v (Live c q) = refl
