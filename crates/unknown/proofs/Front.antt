-- Identifiers gathered at the front of an array.
--   Gathering       so many are gathered, and those from a place on are left
--   octets_back     identifiers are the octets that a STATUS tells
-- Assumes nothing.
use Prim.Native.Nat.{ℕ, ◌≤◌}
use mathlib.Core.Path.{◌≡◌, ◌∙◌}
use mathlib.Core.List.{List, ◌++◌}
use native.Mathlib.Omega.{arith}
use lib.ListN.{length, take, drop, replicate}
use lib.Seq.{take_all, take-append-le}
use Rattle.items.specs.Items.{items}
use Rattle.unknown.specs.Unknown.{unknown_in, skipped_of, skipped_octets}

abbrev zeros : List ℕ
zeros = replicate 8 0

pub record Gathering (m : List ℕ) (from : ℕ) (ids : List ℕ) (count at : ℕ) : Type 0 where
  pub few : count ≤ 8
  pub long : length ids ≡ 8
  pub split : unknown_in (items m from) ≡ take count ids ++ unknown_in (items m at)
  pub behind : drop count ids ≡ drop count zeros

pub octets_back : (ids : List ℕ) → skipped_octets (skipped_of ids) ≡ ids
octets_back ids = take-append-le (length ids) ids (drop (length ids) zeros) (omega arith) ∙ take_all (length ids) ids (omega arith)
