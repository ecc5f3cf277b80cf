-- Two messages that need not keep their order commute.
--   deeds_commute        two decisions that see the same before and after each other, and whose changes do not meet
--   turns_commute        two messages on different references, neither of them SETUP
--   easy_commutes        one of the four easy kinds, and any message on another reference
--   keeps_order_sym      which two messages keep their order does not hang on which is named first
--   heard_commute        two messages of the list, refused or not
-- Assumes nothing.
use Prim.Native.Nat.{ℕ}
use mathlib.Core.Path.{◌≡◌, ap, sym, ◌∙◌}
use mathlib.Core.Bool.{Bool, true, false, not}
use mathlib.Core.List.{List}
use lib.Dec.{eqb}
use borrow.Author.Tests.{eqb-true}
use Rattle.reorder.specs.Reorder.{Commute}
use Rattle.reorder.proofs.Commute.{commute_sym, commute_by, commute_refused}
use Rattle.channels.proofs.Cases.{by_test, clash}
use Rattle.calls.specs.declared.Slot.{Slot}
use Rattle.calls.specs.Calls.{no_slot, is_empty}
use Rattle.first.proofs.First.{Off, first-after, place_after, upd_comm}
use Rattle.header.specs.declared.Header.{Header}
use Rattle.table.specs.declared.Table.{Table}
use Rattle.independence.specs.Independence.{Heard, hear, AcceptedIn, headed, Qualifies, IsSetup, KeepsOrder, within_reference, setup-before, before-setup, easy}
use Rattle.independence.proofs.Deeds.{Deed, turns, fills, given, reaches, changed, perform, sight, decide, decision, mine, Ground, ground_of, fated}
use Rattle.independence.proofs.Hearing.{after_deed, does, takes, hears, still_accepted, refusal_of, refused_with}
use Rattle.independence.proofs.Local.{Of, of_turn, of_fill, decide_of, Turning, turn, decide_turning, decide_alone, Other, other_call, calm_empty, calm_free}
use Rattle.independence.proofs.Easy.{CalmDeed, calm, easy_calm, easy_not_setup}

-- neither change meets what the other changes
pub record Apart (p q : Slot → Bool) (d e : Deed) : Type 0 where
  pub left : Off (reaches q e) (reaches p d) (changed d)
  pub right : Off (reaches p d) (reaches q e) (changed e)

module _ (reading : ℕ) (p q : Slot → Bool) (a b : Ground → List Slot → Deed) (t : Table) where
  abbrev slots_of_lem : List Slot
  slots_of_lem = t.slots.all

  abbrev one : Deed
  one = a (ground_of t) slots_of_lem

  abbrev two : Deed
  two = b (ground_of t) slots_of_lem

  pub deeds_commute : Apart p q one two → a (ground_of t) (perform q two slots_of_lem) ≡ one → b (ground_of t) (perform p one slots_of_lem) ≡ two
      → Commute (λ (x : Table). after_deed reading p x (a (ground_of x) x.slots.all)) (λ (x : Table). after_deed reading q x (b (ground_of x) x.slots.all)) t
  deeds_commute apart same-a same-b =
      let met : perform q (b (ground_of t) (perform p one slots_of_lem)) (perform p one slots_of_lem) ≡ perform p (a (ground_of t) (perform q two slots_of_lem)) (perform q two slots_of_lem)
      = ap (λ (d : Deed). perform q d (perform p one slots_of_lem)) same-b
      ∙ sym (upd_comm (reaches p one) (reaches q two) (changed one) (changed two) apart.left apart.right slots_of_lem)
      ∙ ap (λ (d : Deed). perform p d (perform q two slots_of_lem)) (sym same-a) in
      record {
        first = ap given (sym same-a);
        second = ap given (sym same-b);
        both = λ i. record { slots = record { all = met i }; last = reading; doubts = t.doubts; global = t.global; out = t.out; pool = t.pool };
      }

other_sym : (h k : Header) → Other h k → Other k h
other_sym h k other f r = other (sym f) (sym r)

turns_apart : (h k : Header) (d e : Deed) → Other h k → Turning d → Turning e → Apart (mine h) (mine k) d e
turns_apart h k d e other (turn g f) (turn i j) = record {
  left = other_call k h (turns g f) (other_sym h k other) (of_turn g f);
  right = other_call h k (turns i j) other (of_turn i j);
}

easy-apart : (h k : Header) (d e : Deed) → Other h k → Of h d → CalmDeed e → Apart (mine h) (mine k) d e
easy-apart h k d e other (of_turn g f) (calm i {f = j} c) = turns_apart h k (turns g f) (turns i j) other (turn g f) (turn i j)
easy-apart h k d e other (of_fill g p v setup user) (calm i {f = j} c) = record {
  left = other_call k h (fills g h.reference p v) (other_sym h k other) (of_fill g p v setup user);
  right = calm_empty k j c;
}

-- a message on another reference sees its call where it was, and as it was
sees_call : (h k : Header) (ground : Ground) (d : Deed) (ss : List Slot) → Other h k → Of k d
    → (sight (mine h) ground (perform (mine k) d ss)).call ≡ (sight (mine h) ground ss).call
sees_call h k ground d ss other of = place_after (reaches (mine k) d) (mine h) (changed d) (other_call h k d other of) ss

sees_slot : (h k : Header) (ground : Ground) (d : Deed) (ss : List Slot) → Other h k → Of k d
    → (sight (mine h) ground (perform (mine k) d ss)).slot ≡ (sight (mine h) ground ss).slot
sees_slot h k ground d ss other of = first-after (reaches (mine k) d) (mine h) (changed d) (other_call h k d other of) no_slot ss

-- after a deed that ends no call it sees the empty slots and the pairs as they were, too
sees_all : (h k : Header) (ground : Ground) (d : Deed) (ss : List Slot) → Other h k → CalmDeed d → sight (mine h) ground (perform (mine k) d ss) ≡ sight (mine h) ground ss
sees_all h k ground d ss other (calm g {f} c) =
    λ i.
    record {
      call = sees_call h k ground (turns g f) ss other (of_turn g f) i;
      slot = sees_slot h k ground (turns g f) ss other (of_turn g f) i;
      empty = place_after (mine k) is_empty (fated f) (calm_empty k f c) ss i;
      pair = calm_free (mine k) f ground ss c i;
    }

-- what is decided of a message other than SETUP is decided of it after a message on another reference, too
same_decision : (reading : ℕ) (m n : List ℕ) (h k : Header) (ground : Ground) (ss : List Slot) → Other h k → eqb h.kind 0x05 ≡ false
    → decision m h reading ground (perform (mine k) (decision n k reading ground ss) ss) ≡ decision m h reading ground ss
same_decision reading m n h k ground ss other e =
    let of = decide_of n k reading (sight (mine k) ground ss) in
    decide_alone m h reading _ _ e (sees_call h k ground (decision n k reading ground ss) ss other of) (sees_slot h k ground (decision n k reading ground ss) ss other of)

module _ (reading : ℕ) (m n : List ℕ) (h k : Header) (t : Table) (other : Other h k) where
  pub turns_commute : eqb h.kind 0x05 ≡ false → eqb k.kind 0x05 ≡ false → Commute (does reading m h) (does reading n k) t
  turns_commute e f =
      deeds_commute reading (mine h) (mine k) (decision m h reading) (decision n k reading) t
      (turns_apart h k _ _ other
      (decide_turning m h reading (sight (mine h) (ground_of t) t.slots.all) e)
      (decide_turning n k reading (sight (mine k) (ground_of t) t.slots.all) f))
      (same_decision reading m n h k (ground_of t) t.slots.all other e)
      (same_decision reading n m k h (ground_of t) t.slots.all (other_sym h k other) f)

  pub easy_commutes : easy k.kind ≡ true → Commute (does reading m h) (does reading n k) t
  easy_commutes e =
      let calm-deed = easy_calm n k reading (sight (mine k) (ground_of t) t.slots.all) e in
      deeds_commute reading (mine h) (mine k) (decision m h reading) (decision n k reading) t
      (easy-apart h k _ _ other (decide_of m h reading (sight (mine h) (ground_of t) t.slots.all)) calm-deed)
      (ap (decide m h reading) (sees_all h k (ground_of t) (decision n k reading (ground_of t) t.slots.all) t.slots.all other calm-deed))
      (same_decision reading n m k h (ground_of t) t.slots.all (other_sym h k other) (easy_not_setup k.kind e))

-- messages that need not keep their order name different calls
other_reference : (m n : Heard) → ¬ KeepsOrder m n → Other (headed m) (headed n)
other_reference m n free f r = free (within_reference (record { flag = f; value = r }))

beside_setup : (m n : Heard) → ¬ KeepsOrder m n → IsSetup m → easy (headed n).kind ≡ true
beside_setup m n free s = by_test (easy (headed n).kind) (λ e. e) (λ e. absurd (free (setup-before s (λ x. clash x.kind e))))

pub keeps_order_sym : (m n : Heard) → KeepsOrder m n → KeepsOrder n m
keeps_order_sym m n (within_reference s) = within_reference (record { flag = sym s.flag; value = sym s.value })
keeps_order_sym m n (setup-before s x) = before-setup s x
keeps_order_sym m n (before-setup s x) = setup-before s x

deeds_of_heard : (reading : ℕ) (m n : Heard) (t : Table) → ¬ KeepsOrder m n
    → Commute (does reading m.octets (headed m)) (does reading n.octets (headed n)) t
deeds_of_heard reading m n t free =
    let other = other_reference m n free in
    by_test (eqb (headed m).kind 0x05)
    (λ s. easy_commutes reading m.octets n.octets (headed m) (headed n) t other (beside_setup m n free (eqb-true _ _ s)))
    (λ s. by_test (eqb (headed n).kind 0x05)
    (λ u. commute_sym _ _ t
    (easy_commutes reading n.octets m.octets (headed n) (headed m) t (other_sym (headed m) (headed n) other) (beside_setup n m (λ x. free (keeps_order_sym n m x)) (eqb-true _ _ u))))
    (λ u. turns_commute reading m.octets n.octets (headed m) (headed n) t other s u))

pub heard_commute : (reading : ℕ) (t : Table) (m n : Heard) → Qualifies m → Qualifies n → AcceptedIn t reading → ¬ KeepsOrder m n
    → Commute (λ (x : Table). hear reading x m) (λ (x : Table). hear reading x n) t
heard_commute reading t m n p q a free =
    commute_by _ (takes reading m) _ (takes reading n) t
    (hears t reading m a p)
    (hears t reading n a q)
    (hears _ reading m (still_accepted t reading n a) p)
    (hears _ reading n (still_accepted t reading m a) q)
    (commute_refused (not (eqb (refusal_of m) 0)) (not (eqb (refusal_of n) 0)) (refused_with (refusal_of m)) (refused_with (refusal_of n))
    (does reading m.octets (headed m)) (does reading n.octets (headed n)) t (λ x y. deeds_of_heard reading m n t free))
