-- Three lists of two messages whose order matters: to exchange them changes an answer. By computation.
--   setups_lean            two SETUPs on two references, and one pair: the second is refused
--   setup_release_lean     a RELEASE, and a SETUP on another reference that needs the pair
--   one_reference_leans    two messages on one reference: a STATUS ENQUIRY and a RELEASE
--   exchange               two messages that need not keep their order may change places
--   enquiry_free           so may a SETUP and a STATUS ENQUIRY on another reference
-- Assumes nothing.
use Prim.Native.Nat.{ℕ, zero, suc, ◌<◌}
use mathlib.Core.Path.{◌≡◌, refl, ap}
use mathlib.Core.Logic.{◌≢◌}
use mathlib.Core.List.{[], ◌∷◌}
use native.Mathlib.Omega.{arith}
use lib.ListN.{length, get_or}
use Rattle.reorder.specs.Reorder.{Order}
use Rattle.reached.specs.Reached.{start, Reached}
use Rattle.independence.specs.Independence.{Heard, Given, Qualifies, KeepsOrder, within_reference, setup-before, before-setup}
use Rattle.independence.specs.Leaning.{setup, release, enquiry, ranges, one_pair, first_call, held, Leans}

two_qualify : (x y d : Heard) → Qualifies x → Qualifies y → (i : ℕ) → i < length (x ∷ y ∷ []) → Qualifies (get_or (x ∷ y ∷ []) i d)
two_qualify x y d p q zero h = p
two_qualify x y d p q (suc zero) h = q
two_qualify x y d p q (suc (suc i)) h = absurd (omega arith)

one_pair_reached : Reached one_pair
one_pair_reached = record { beginning = start ranges []; accepted = refl; events = []; gives = refl }

held_reached : Reached held
held_reached = record { beginning = start ranges []; accepted = refl; events = first_call; gives = refl }

setup_qualifies : (r : ℕ) → ¬ (r ≡ 0) → Qualifies (setup r)
setup_qualifies r other = record { passes = refl; local = λ e. other (omega arith) }

pub setups_lean : Leans one_pair 0 (setup 1 ∷ setup 2 ∷ []) (1 ∷ 0 ∷ []) (setup 1)
setups_lean = record {
  reached = one_pair_reached;
  accepted = record { not_above = omega arith; not_below = omega arith };
  qualify = two_qualify (setup 1) (setup 2) (setup 1) (setup_qualifies 1 (λ e. omega arith)) (setup_qualifies 2 (λ e. omega arith));
  differ = λ a same. let notices : ◌≡◌ {A = ℕ} 1 0 = ap (λ (g : Given). g.notice) (same.each 0 (omega arith)) in omega arith;
}

pub setup_release_lean : Leans held 0 (release 1 ∷ setup 2 ∷ []) (1 ∷ 0 ∷ []) (setup 2)
setup_release_lean = record {
  reached = held_reached;
  accepted = record { not_above = omega arith; not_below = omega arith };
  qualify = two_qualify (release 1) (setup 2) (setup 2) (record { passes = refl; local = λ e. omega arith }) (setup_qualifies 2 (λ e. omega arith));
  differ = λ a same. let notices : ◌≡◌ {A = ℕ} 0 1 = ap (λ (g : Given). g.notice) (same.each 0 (omega arith)) in omega arith;
}

-- octet 14 of the STATUS is the call's state
pub one_reference_leans : Leans held 0 (enquiry 1 ∷ release 1 ∷ []) (1 ∷ 0 ∷ []) (enquiry 1)
one_reference_leans = record {
  reached = held_reached;
  accepted = record { not_above = omega arith; not_below = omega arith };
  qualify = two_qualify (enquiry 1) (release 1) (enquiry 1) (record { passes = refl; local = λ e. omega arith }) (record { passes = refl; local = λ e. omega arith });
  differ = λ a same. let states : ◌≡◌ {A = ℕ} 0 3 = ap (λ (g : Given). get_or g.reply 13 0) (same.each 1 (omega arith)) in omega arith;
}

module _ (x y d : Heard) where
  two_within : (k : ℕ) → k < 2 → get_or {A = ℕ} (1 ∷ 0 ∷ []) k 0 < 2
  two_within zero h = omega arith
  two_within (suc zero) h = omega arith
  two_within (suc (suc k)) h = absurd (omega arith)

  two_once : (k l : ℕ) → k < l → l < 2 → get_or {A = ℕ} (1 ∷ 0 ∷ []) k 0 ≢ get_or {A = ℕ} (1 ∷ 0 ∷ []) l 0
  two_once zero zero a b = absurd (omega arith)
  two_once zero (suc zero) a b = λ e. omega arith
  two_once zero (suc (suc l)) a b = absurd (omega arith)
  two_once (suc k) l a b = absurd (omega arith)

  two_kept : ¬ KeepsOrder y x → (k l : ℕ) → k < l → l < 2
      → KeepsOrder (get_or (x ∷ y ∷ []) (get_or (1 ∷ 0 ∷ []) k 0) d) (get_or (x ∷ y ∷ []) (get_or (1 ∷ 0 ∷ []) l 0) d)
      → get_or {A = ℕ} (1 ∷ 0 ∷ []) k 0 < get_or {A = ℕ} (1 ∷ 0 ∷ []) l 0
  two_kept free zero zero a b keeps = absurd (omega arith)
  two_kept free zero (suc zero) a b keeps = absurd (free keeps)
  two_kept free zero (suc (suc l)) a b keeps = absurd (omega arith)
  two_kept free (suc k) l a b keeps = absurd (omega arith)

  pub exchange : ¬ KeepsOrder y x → Order KeepsOrder d (x ∷ y ∷ []) (1 ∷ 0 ∷ [])
  exchange free = record { long = refl; within = two_within; once = two_once; kept = two_kept free }

not_kept : ¬ KeepsOrder (enquiry 1) (setup 2)
not_kept (within_reference s) = omega (arith, s.value)
not_kept (setup-before s x) = omega arith
not_kept (before-setup s x) = x (record { kind = refl; another = λ same. omega (arith, same.value) })

pub enquiry_free : Order KeepsOrder (setup 2) (setup 2 ∷ enquiry 1 ∷ []) (1 ∷ 0 ∷ [])
enquiry_free = exchange (setup 2) (enquiry 1) (setup 2) not_kept
