-- A field that was written, read: its length, its contents, and what is behind it.
--   size_back, rest_back          of any field
--   numbers_back, list_back       a field of numbers
--   fours_back, doubts_back       the field of the pairs in doubt
--   out_back                      the field of the pairs out of service
--   RequestFits, request_short, request_back    the field of our RESTART
-- Assumes nothing.
use Prim.Native.Nat.{ℕ, suc, ◌+◌, ◌*◌, ◌/◌, ◌≤◌, ◌<◌}
use mathlib.Core.Path.{◌≡◌, refl, ap}
use mathlib.Core.Bool.{Bool, true, false, cond}
use mathlib.Core.List.{List, [], ◌∷◌, ◌++◌}
use native.Mathlib.Omega.{arith}
use lib.Dec.{eqb}
use lib.ListN.{length, get_or}
use lib.Seq.{drop-append_seam}
use borrow.Author.Tests.{le-ltb}
use Rattle.octets.proofs.Numbers.{number_back}
use Rattle.pairs.specs.Pairs.{room, packed}
use Rattle.channels.specs.declared.Named.TheVariants.{All, One}
use Rattle.service.specs.declared.GlobalState.{GlobalState}
use Rattle.service.specs.declared.GlobalState.TheVariants.{Null, RestartRequest}
use Rattle.fields.specs.Fields.{two, four, field, request_octets}
use Rattle.saved.specs.Form.{joined}
use Rattle.reading.specs.Reading.{two_at, rest, numbers_in, list_in, fours_in, doubts_in, out_in, request_in}
use Rattle.roundtrip.proofs.Numbers.{four_back, eight_back}

module _ (tag : ℕ) (contents post : List ℕ) (short : length contents < 65536) where
  pub size_back : two_at (field tag contents ++ post) 1 ≡ length contents
  size_back = number_back (length contents) short

  pub rest_back : rest (field tag contents ++ post) ≡ post
  rest_back =
      let three : 3 + length contents ≡ suc (suc (suc (length contents))) = omega arith in
      rw (size_back, three) (drop-append_seam contents post)

pub joined-two : (ns : List ℕ) → length (joined two ns) ≡ length ns * 2
joined-two [] = refl
joined-two (n ∷ ns) = let ih = joined-two ns in omega (arith, ih)

pub numbers_back : (ns post : List ℕ) → ((k : ℕ) → get_or ns k 0 < 65536) → numbers_in (joined two ns ++ post) (length ns) ≡ ns
numbers_back [] post h = refl
numbers_back (n ∷ ns) post h = rw (number_back n (h 0), numbers_back ns post (λ k. h (suc k)))

pub list_back : (most tag : ℕ) (ns post : List ℕ) → ((k : ℕ) → get_or ns k 0 < 65536) → length ns ≤ most → most < 32768
    → list_in most (field tag (joined two ns) ++ post) ≡ ns
list_back most tag ns post h few small =
    let size : length (joined two ns) / 2 ≡ length ns = rw (joined-two ns) (omega arith) in
    let short : length (joined two ns) < 65536 = rw (joined-two ns) (omega arith) in
    rw (size_back tag (joined two ns) post short, size, le-ltb most (length ns) few) (numbers_back ns post h)

pub joined-four : (ns : List ℕ) → length (joined four ns) ≡ length ns * 4
joined-four [] = refl
joined-four (n ∷ ns) = let ih = joined-four ns in omega (arith, ih)

pub fours_back : (ns post : List ℕ) → ((k : ℕ) → get_or ns k 0 < 4294967296) → fours_in (joined four ns ++ post) (length ns) ≡ ns
fours_back [] post h = refl
fours_back (n ∷ ns) post h = rw (four_back n (h 0), fours_back ns post (λ k. h (suc k)))

pub doubts_back : (tag : ℕ) (ns post : List ℕ) → ((k : ℕ) → get_or ns k 0 < 4294967296) → length ns ≤ room
    → doubts_in (field tag (joined four ns) ++ post) ≡ packed ns
doubts_back tag ns post h few =
    let size : length (joined four ns) / 4 ≡ length ns = rw (joined-four ns) (omega arith) in
    let short : length (joined four ns) < 65536 = rw (joined-four ns) (omega arith) in
    rw (size_back tag (joined four ns) post short, size, le-ltb room (length ns) few) (ap packed (fours_back ns post h))

pub out_short : (all : Bool) (ns : List ℕ) → length ns ≤ room → length (cond all 1 0 ∷ joined four ns) < 65536
out_short all ns few = let size = joined-four ns in omega arith

pub out_back : (tag : ℕ) (all : Bool) (ns post : List ℕ) → ((k : ℕ) → get_or ns k 0 < 4294967296) → length ns ≤ room
    → out_in (field tag (cond all 1 0 ∷ joined four ns) ++ post) ≡ record { all = all; pairs = packed ns }
out_back tag all ns post h few =
    let contents : List ℕ = cond all 1 0 ∷ joined four ns in
    let long = joined-four ns in
    let size : length contents / 4 ≡ length ns = omega arith in
    rw (size_back tag contents post (out_short all ns few), size, le-ltb room (length ns) few, fours_back ns post h, marked all)
  where
    marked : (a : Bool) → eqb (cond a 1 0) 1 ≡ a
    marked true = refl
    marked false = refl

-- our RESTART has room in its field
abbrev pub RequestFits : GlobalState → Type 0
RequestFits Null = Unit {0}
RequestFits (RestartRequest All second d) = d < 18446744073709551616
RequestFits (RestartRequest (One pv) second d) = (pv.vpci < 65536) × (pv.vci < 65536) × (d < 18446744073709551616)

pub request_short : (g : GlobalState) → length (request_octets g) < 65536
request_short Null = omega arith
request_short (RestartRequest All second d) = omega arith
request_short (RestartRequest (One pv) second d) = omega arith

second_back : (s : Bool) → eqb (cond s 2 1) 2 ≡ s
second_back true = refl
second_back false = refl

pub request_back : (tag : ℕ) (g : GlobalState) (post : List ℕ) → RequestFits g → request_in (field tag (request_octets g) ++ post) ≡ g
request_back tag Null post fits = refl
request_back tag (RestartRequest All second d) post fits = rw (second_back second, eight_back d fits)
request_back tag (RestartRequest (One pv) second d) post fits =
    rw (second_back second, number_back pv.vpci fits.0, number_back pv.vci fits.1, eight_back d fits.2)
