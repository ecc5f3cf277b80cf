-- What the lowest free pair of a pool is, where what is taken is held, in doubt, out of service, named by our RESTART, or permanent.
--   neither             two tests that fail together fail
--   singly, all_taken   where not all pairs are taken at once, each is taken by itself; where they are, each is taken
--   Unfree              a pair that is not free, for another reason than that it is permanent
--   Free, free_permitted    a pair that is found is permitted, and free
--   none_free           if none is found, no permitted pair is free
--   none_left           and the other way round
-- Over lists of any length. Assumes nothing.
use Rattle.std.specs.Prelude.{Option, Some, None}
use Prim.Native.Nat.{ℕ}
use mathlib.Core.Path.{◌≡◌, refl}
use mathlib.Core.Bool.{Bool, true, false, ◌||◌, or-true, or-false}
use mathlib.Core.List.{List}
use Rattle.std.specs.List.{list_any}
use Rattle.identifier.specs.Pair.{pair, is_pair}
use Rattle.channels.specs.Channels.{lowest, in_ranges, permanent, permitted}
use Rattle.identifier.specs.declared.Pair.{Pair}
use Rattle.channels.specs.declared.Named.TheVariants as named
use Rattle.channels.specs.declared.Pool.{Pool}
use Rattle.channels.proofs.Cases.{by_test, clash}
use Rattle.channels.proofs.Lowest.{lowest_free_lem, lowest-none, none-lowest}
use Rattle.pairs.specs.Pairs.{in_pairs}
use Rattle.pairs.specs.declared.Pairs.{Pairs}
use Rattle.calls.specs.Calls.{holds_pair}
use Rattle.calls.specs.declared.Slot.{Slot}
use Rattle.service.specs.Service.{under_restart, is_out, names_all, is_all_taken, one_pair}
use Rattle.service.specs.declared.GlobalState.{GlobalState}
use Rattle.service.specs.declared.GlobalState.TheVariants.{Null, RestartRequest}
use Rattle.service.specs.declared.OutOfService.{OutOfService}
use Rattle.search.specs.Search.{taken_singly, taken}

pub neither : (a b : Bool) → (a || b) ≡ false → (a ≡ false) × (b ≡ false)
neither true b e = clash refl e
neither false b e = (refl, e)

-- one RESTART alone names one pair, or all
one_named : (g : GlobalState) (p v : ℕ) → names_all g ≡ false → is_pair p v (one_pair g) ≡ under_restart g p v
one_named Null p v e = refl
one_named (RestartRequest named.All s d) p v e = clash refl e
one_named (RestartRequest (named.One qw) s d) p v e = refl

all_named : (g : GlobalState) (p v : ℕ) → names_all g ≡ true → under_restart g p v ≡ true
all_named Null p v e = clash e refl
all_named (RestartRequest named.All s d) p v e = refl
all_named (RestartRequest (named.One qw) s d) p v e = clash e refl

module _ (ss : List Slot) (ds : Pairs) (out : OutOfService) (g : GlobalState) (es : List (Option Pair)) where
  pub singly : is_all_taken out g ≡ false → (p v : ℕ) → taken_singly ss ds out g es p v ≡ taken ss ds out g es p v
  singly e p v = let n = neither out.all (names_all g) e in rw (n.0, one_named g p v n.1)

  pub all_taken : is_all_taken out g ≡ true → (p v : ℕ) → taken ss ds out g es p v ≡ true
  all_taken e p v =
      by_test out.all
      (λ a. rw (a, or-true (in_pairs ds p v), or-true (list_any (holds_pair p v) ss)))
      (λ a.
      rw (all_named g p v (rw a at e), or-true (is_out out p v), or-true (in_pairs ds p v), or-true (list_any (holds_pair p v) ss)))

-- held, in doubt, out of service, named by our RESTART
abbrev pub unfree : List Slot → Pairs → OutOfService → GlobalState → ℕ → ℕ → Bool
unfree ss ds out g p v = list_any (holds_pair p v) ss || (in_pairs ds p v || (is_out out p v || under_restart g p v))

last_of : (a b c d e : Bool) → (a || (b || (c || (d || e)))) ≡ ((a || (b || (c || d))) || e)
last_of true b c d e = refl
last_of false true c d e = refl
last_of false false true d e = refl
last_of false false false d e = refl

module _ (ss : List Slot) (ds : Pairs) (out : OutOfService) (g : GlobalState) (pool : Pool) where
  abbrev lowest_free : Option Pair
  lowest_free = lowest (taken ss ds out g pool.permanents) pool.ranges

  taken_is : (p v : ℕ) → taken ss ds out g pool.permanents p v ≡ (unfree ss ds out g p v || permanent pool p v)
  taken_is p v = last_of (list_any (holds_pair p v) ss) (in_pairs ds p v) (is_out out p v) (under_restart g p v) (permanent pool p v)

  pub record Free (p v : ℕ) : Type 0 where
    pub permits : permitted pool p v ≡ true
    pub not_held : list_any (holds_pair p v) ss ≡ false
    pub not_doubtful : in_pairs ds p v ≡ false
    pub not_out : is_out out p v ≡ false
    pub not_named : under_restart g p v ≡ false

  pub free_permitted : (p v : ℕ) → lowest_free ≡ Some (pair p v) → Free p v
  free_permitted p v e =
      let l = lowest_free_lem (taken ss ds out g pool.permanents) pool.ranges p v e in
      let a = neither (list_any (holds_pair p v) ss) _ l.1 in
      let b = neither (in_pairs ds p v) _ a.1 in
      let c = neither (is_out out p v) _ b.1 in
      let d = neither (under_restart g p v) (permanent pool p v) c.1 in
      record { permits = rw (l.0, d.1); not_held = a.0; not_doubtful = b.0; not_out = c.0; not_named = d.0 }

  pub none_free : lowest_free ≡ None → (p v : ℕ) → permitted pool p v ≡ true → unfree ss ds out g p v ≡ true
  none_free e p v h =
      by_test (in_ranges p v pool.ranges)
      (λ t. by_test (permanent pool p v)
      (λ u. clash h (rw (t, u)))
      (λ u. rw (taken_is p v, u, or-false (unfree ss ds out g p v)) at (lowest-none (taken ss ds out g pool.permanents) pool.ranges e p v t)))
      (λ t. clash h (rw t))

  pub none_left : ((p v : ℕ) → permitted pool p v ≡ true → unfree ss ds out g p v ≡ true) → lowest_free ≡ None
  none_left h =
      none-lowest (taken ss ds out g pool.permanents) pool.ranges
      (λ p v t. by_test (permanent pool p v)
      (λ u. rw (taken_is p v, u) (or-true (unfree ss ds out g p v)))
      (λ u. rw (taken_is p v, h p v (rw (t, u)))))
