-- Provisioning: start's two lists, in the paper's order.
--   range_at, single_at, entry_at     the k-th range, the k-th pair as the range of its one VCI, and the k-th pair as an entry
--   range_ok                        the limits of one range
--   before, apart                  the order of pairs, and of ranges
--   all_below                       a test of each number below another
--   Gives                          a list of ranges that a closure gives
--   fits, ascending                the k-th of a list of ranges keeps the limits and comes behind the one before it; and so the first n
--   ranges_ok, pairs_ok              a list that breaks no rule
--   Provision, numbered, pool_of, refused, provision     what start makes of its lists
--   provision_of                   the same, said by a pool or none
-- Assumes nothing.
use Rattle.std.specs.Prelude.{ℕ, zero, suc, ◌+◌, ◌-◌, ◌*◌, ◌/◌, ◌%◌, ◌^◌, ◌<◌, ◌≡◌, Bool, true, false, cond, ◌&&◌, ◌||◌, List, [], ◌∷◌, eqb, leb, ltb, length, get_or, Option, Some, None}
use Rattle.identifier.specs.Pair.{pair}
use Rattle.channels.specs.Channels.{no_range, empty_pool}
use Rattle.identifier.specs.declared.Pair.{Pair}
use Rattle.channels.specs.declared.Range.{Range}
use Rattle.channels.specs.declared.Pool.{Pool}

-- "permitted ranges as a lent list of 16-bit numbers, three for each range (VPCI, first VCI, last VCI)"
abbrev pub range_at : List ℕ → ℕ → Range
range_at s k =
    cond (ltb k (length s / 3))
    (record { vpci = get_or s (k * 3) 0; first = get_or s (k * 3 + 1) 0; last = get_or s (k * 3 + 2) 0 })
    no_range

-- "permanent pairs as a second such list, two for each pair"
abbrev pub single_at : List ℕ → ℕ → Range
single_at s k =
    cond (ltb k (length s / 2))
    (record { vpci = get_or s (k * 2) 0; first = get_or s (k * 2 + 1) 0; last = get_or s (k * 2 + 1) 0 })
    no_range

abbrev pub entry_at : List ℕ → ℕ → Option Pair
entry_at s k =
    cond (ltb k (length s / 2))
    (Some (pair (get_or s (k * 2) 0) (get_or s (k * 2 + 1) 0)))
    None

abbrev pub all_below : (ℕ → Bool) → ℕ → Bool
all_below p zero = true
all_below p (suc n) = all_below p n && p n

-- "VPCI 0 to 255; VCI 32 to 65535; first at most last."
abbrev pub range_ok : Range → Bool
range_ok r = leb r.vpci 255 && (leb 32 r.first && (leb r.last 65535 && leb r.first r.last))

-- "by (VPCI, VCI)"
abbrev pub before : ℕ → ℕ → ℕ → ℕ → Bool
before p v q w = ltb p q || (eqb p q && ltb v w)

abbrev pub apart : Range → Range → Bool
apart a b = before a.vpci a.last b.vpci b.first

-- a list of ranges that a closure gives one by one
abbrev pub Gives : (ℕ → Range → Type 0) → (ℕ → Range) → Type 0
Gives post at = (k : ℕ) (r : Range) → k < 2 ^ 64 → post k r → r ≡ at k

-- "Ranges ascend and are disjoint by (VPCI, VCI); pairs strictly ascend.": each ends before the next begins
abbrev pub fits : (ℕ → Range) → ℕ → Bool
fits at k = range_ok (at k) && (eqb k 0 || apart (at (k - 1)) (at k))

abbrev pub ascending : (ℕ → Range) → ℕ → Bool
ascending at n = all_below (fits at) n

-- "1 to 4 ranges, 0 to 8 pairs"; "a length not a multiple included"
abbrev pub ranges_ok : List ℕ → Bool
ranges_ok s = eqb (length s % 3) 0 && (leb 1 (length s / 3) && (leb (length s / 3) 4 && ascending (range_at s) (length s / 3)))

abbrev pub pairs_ok : List ℕ → Bool
pairs_ok s = eqb (length s % 2) 0 && (leb (length s / 2) 8 && ascending (single_at s) (length s / 2))

-- n values from the k-th on
abbrev pub numbered : {A : Type 0} → (ℕ → A) → ℕ → ℕ → List A
numbered f k zero = []
numbered f k (suc n) = f k ∷ numbered f (k + 1) n

abbrev pub pool_of : List ℕ → List ℕ → Pool
pool_of ranges pairs = record { ranges = numbered (range_at ranges) 0 4; permanents = numbered (entry_at pairs) 0 8 }

-- if the lists are accepted, and their pool
pub record Provision : Type 0 where
  pub accepted : Bool
  pub pool : Pool

-- "A refused start gives no table to use.": the empty pool stands for none
abbrev pub refused : Provision
refused = record { accepted = false; pool = empty_pool }

abbrev pub provision : List ℕ → List ℕ → Provision
provision ranges pairs = cond (ranges_ok ranges && pairs_ok pairs) (record { accepted = true; pool = pool_of ranges pairs }) refused

abbrev pub provision_of : Option Pool → Provision
provision_of (Some pool) = record { accepted = true; pool = pool }
provision_of None = refused
