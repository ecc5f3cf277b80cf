-- What the answer means for privacy, said outright: of every message `m` and every subscription record `s`.
--   InFirst      a part lies in the contents of the first 6C, which is readable
--   Private      what is shown, and what is not
-- Assumes nothing.
use Rattle.std.specs.Prelude.{ℕ, ◌+◌, ◌≤◌, ◌≡◌, true, false, List, [], length, drop}
use Rattle.octets.specs.Octets.{part}
use Rattle.header.specs.Header.{head_of}
use Rattle.items.specs.declared.Item.TheVariants.{Whole}
use Rattle.items.specs.Items.{items, first_of}
use Rattle.shown.specs.declared.Extent.TheVariants.{Message, Record}
use Rattle.shown.specs.Calling.{calling_fits, address_at, allowed}
use Rattle.shown.specs.Shown.{passes, extent_of, length_of, shown_of}

-- the message is a SETUP that passes, its first 6C is readable, and n octets from where its address begins lie in its contents
pub record InFirst (m : List ℕ) (at n : ℕ) : Type 0 where
  pub start : ℕ
  pub end : ℕ
  pub passed : passes (head_of m) ≡ true
  pub first : first_of 0x6C (items m 9) ≡ Whole 0x6C 0x80 start end
  pub readable : calling_fits (part m start end) ≡ true
  pub begins : at ≡ start + address_at (part m start end)
  pub inside : at + n ≤ end
  pub within : end ≤ length m

pub record Private (m s : List ℕ) : Type 0 where
  -- "Any presentation but allowed shows the empty part of the message": not one octet of the message is in the part, whatever
  -- else its first 6C says
  pub restricted : (id action start end at n : ℕ) → first_of 0x6C (items m 9) ≡ Whole id action start end
      → allowed (part m start end) ≡ false → extent_of m s ≡ Message at n → (n ≡ 0) × (shown_of m s ≡ [])
  -- .. "where the address begins": a readable number of a SETUP that passes, with any presentation but allowed, shows that empty part
  -- and not the record
  pub empty_part : (start end : ℕ) → passes (head_of m) ≡ true → first_of 0x6C (items m 9) ≡ Whole 0x6C 0x80 start end
      → calling_fits (part m start end) ≡ true → allowed (part m start end) ≡ false
      → extent_of m s ≡ Message (start + address_at (part m start end)) 0
  -- "a part of the subscription record, namely all of it as lent": a record is shown whole or not at all
  pub record_whole : (at n : ℕ) → extent_of m s ≡ Record at n → (at ≡ 0) × (n ≡ length s) × (shown_of m s ≡ s)
  -- what is shown of a message lies in the contents of its first 6C, and only a readable one is shown
  pub message_inside : (at n : ℕ) → extent_of m s ≡ Message at n → InFirst m at n
  -- "Say which one and which octets.": the length that is said is that of the part
  pub length_told : length (shown_of m s) ≡ length_of (extent_of m s)
  -- "the address shown": with presentation allowed, it is the readable contents without octets 5 and 5a, no octet more or less
  pub address_whole : (start end : ℕ) → passes (head_of m) ≡ true → first_of 0x6C (items m 9) ≡ Whole 0x6C 0x80 start end
      → calling_fits (part m start end) ≡ true → allowed (part m start end) ≡ true
      → shown_of m s ≡ drop (address_at (part m start end)) (part m start end)
