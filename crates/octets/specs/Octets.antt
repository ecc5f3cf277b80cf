-- Octets: numbers of two octets, a part of a message, and what a room holds after a write.
--   high, low, number      a 16-bit number in two octets, high octet first
--   top_bit                 if an octet has its top bit set
--   part                   the octets of a message from one place up to another
--   equal                  if two runs of octets are the same
--   front                  a room after a reply was written to its front
--   Fills                  what the writer of a whole reply did
--   Wrote                  what a writer at a place did, as one statement that chains
-- Assumes nothing.
use Rattle.std.specs.Prelude.{ℕ, ◌+◌, ◌*◌, ◌-◌, ◌/◌, ◌%◌, ◌≡◌, Bool, true, false, ◌&&◌, List, [], ◌∷◌, ◌++◌, eqb, leb, length, take, drop}
use Rattle.std.proofs.lemmas.List.Edits.{sets}

-- "two octets of length, .. high octet first"
abbrev pub high : ℕ → ℕ
high n = n / 256 % 256

abbrev pub low : ℕ → ℕ
low n = n % 256

abbrev pub number : ℕ → ℕ → ℕ
number h l = h * 256 + l

-- "top bit set"
abbrev pub top_bit : ℕ → Bool
top_bit octet = leb 128 octet

-- the octets from place a up to, and not with, place e
abbrev pub part : List ℕ → ℕ → ℕ → List ℕ
part m a e = take (e - a) (drop a m)

-- the same octets
abbrev pub equal : List ℕ → List ℕ → Bool
equal [] [] = true
equal [] (b ∷ t) = false
equal (a ∷ s) [] = false
equal (a ∷ s) (b ∷ t) = eqb a b && equal s t

-- "A reply fills the front of the room; octets after it are unchanged. With no reply the room is unchanged."
abbrev pub front : List ℕ → List ℕ → List ℕ
front reply room = reply ++ drop (length reply) room

-- a writer filled the front of `old` with a reply, which left `new`, and answered the reply's length
abbrev pub Fills : List ℕ → List ℕ → List ℕ → ℕ → Type 0
Fills old reply new size = (size ≡ length reply) × (new ≡ front reply old)

-- a writer put `octets` at place `at` of `old`, which left `new`, and answered the place behind them
pub record Wrote (old : List ℕ) (at : ℕ) (octets new : List ℕ) (next : ℕ) : Type 0 where
  pub run : new ≡ sets old at octets
  pub past : next ≡ at + length octets
