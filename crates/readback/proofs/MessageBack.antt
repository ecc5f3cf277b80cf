-- Octets that read as a message are what that message is written as, if octet 7, which is not examined, is as we write it.
--   header_writes_back      the header
--   message_writes_back     the whole message
-- So no two such lists of octets read as one message. Assumes nothing.
use Prim.Native.Nat.{ℕ, ◌+◌, ◌*◌, ◌-◌, ◌/◌, ◌%◌, ◌≤◌, ◌<◌}
use mathlib.Core.Path.{◌≡◌, sym, ap, ◌∙◌}
use mathlib.Core.Bool.{true, cond}
use mathlib.Core.List.{List, ◌∷◌, ◌++◌}
use native.Mathlib.Omega.{arith}
use lib.Dec.{eqb, leb, ltb}
use borrow.Author.Tests.{ltb-false, leb-true, leb-false, eqb-true}
use lib.ListN.{length, get_or, drop, length-drop}
use Rattle.octets.specs.Octets.{high, low, number}
use Rattle.header.specs.Header.{header_in}
use Rattle.octets.proofs.Cases.{by_test}
use Rattle.items.specs.Items.{whole_from}
use Rattle.replies.specs.Message.{Message, header, message, octets as written}
use Rattle.readback.specs.ReadBack.{elements_in, unreadable, reads, read_message, Octets}
use Rattle.readback.proofs.WriteBack.{one_more, four_more, elements_write_back}

never : {P : Type 0} (read : Message) → unreadable ≡ reads read → P
never read e = let z : ◌≡◌ {A = ℕ} 0 1 = cc in absurd (omega arith)

same_message : (a b : Message) → reads a ≡ reads b → a ≡ b
same_message a b e = cc

top_octet : (a b c : ℕ) → a < 256 → b < 256 → c < 256 → cond (leb 128 a) 0x80 0 + ((a % 128) * 65536 + b * 256 + c) / 65536 % 128 ≡ a
top_octet a b c ha hb hc =
    by_test (leb 128 a) (λ e. rw e (omega (arith, leb-true 128 a e))) (λ e. rw e (omega (arith, leb-false 128 a e)))

-- the message that whole octets with a right header are
abbrev heard : List ℕ → Message
heard m = message (header_in m).flag (header_in m).reference (header_in m).kind (elements_in m 9)

module _ (m : List ℕ) (octets : Octets m) where
  nine_more : 9 ≤ length m
      → m ≡ get_or m 0 0 ∷ get_or m 1 0 ∷ get_or m 2 0 ∷ get_or m 3 0 ∷ get_or m 4 0 ∷ get_or m 5 0 ∷ get_or m 6 0 ∷ get_or m 7 0 ∷ get_or m 8 0 ∷ drop 9 m
  nine_more h =
      four_more m 0 (omega arith)
      ∙ ap (λ l. get_or m 0 0 ∷ get_or m 1 0 ∷ get_or m 2 0 ∷ get_or m 3 0 ∷ l)
      (four_more m 4 (omega arith) ∙ ap (λ l. get_or m 4 0 ∷ get_or m 5 0 ∷ get_or m 6 0 ∷ get_or m 7 0 ∷ l) (one_more m 8 (omega arith)))

  -- the header that is read, written again; octet 7 is not examined, and is written 80
  pub header_writes_back : 9 ≤ length m → get_or m 0 0 ≡ 0x09 → get_or m 1 0 ≡ 0x03 → get_or m 6 0 ≡ 0x80
      → number (get_or m 7 0) (get_or m 8 0) ≡ length m - 9
      → header (header_in m).flag (header_in m).reference (header_in m).kind (length m - 9) ++ drop 9 m ≡ m
  header_writes_back h e₀ e₁ e₆ e =
      let a = octets.at 2 in
      let b = octets.at 3 in
      let c = octets.at 4 in
      let x = octets.at 7 in
      let y = octets.at 8 in
      let r : ℕ = (header_in m).reference in
      let b₃ : r / 256 % 256 ≡ get_or m 3 0 = omega arith in
      let b₄ : r % 256 ≡ get_or m 4 0 = omega arith in
      let b₇ : high (length m - 9) ≡ get_or m 7 0 = rw (← e) (omega arith) in
      let b₈ : low (length m - 9) ≡ get_or m 8 0 = rw (← e) (omega arith) in
      rw (top_octet (get_or m 2 0) (get_or m 3 0) (get_or m 4 0) a b c, b₃, b₄, b₇, b₈) (sym (rw (e₀, e₁, e₆) at (nine_more h)))

  heard_writes_back : 9 ≤ length m → get_or m 0 0 ≡ 0x09 → get_or m 1 0 ≡ 0x03 → get_or m 6 0 ≡ 0x80
      → number (get_or m 7 0) (get_or m 8 0) ≡ length m - 9 → whole_from m 9 ≡ true → written (heard m) ≡ m
  heard_writes_back h e₀ e₁ e₆ e whole =
      rw (elements_write_back m octets 9 whole, length-drop 9 m) (header_writes_back h e₀ e₁ e₆ e)

  pub message_writes_back : (read : Message) → get_or m 6 0 ≡ 0x80 → read_message m ≡ reads read → written read ≡ m
  message_writes_back read e₆ same =
      by_test (ltb (length m) 9) (λ short. never read (rw short at same))
      (λ nine. by_test (eqb (get_or m 0 0) 0x09)
      (λ first. by_test (eqb (get_or m 1 0) 0x03)
      (λ second. by_test (eqb (number (get_or m 7 0) (get_or m 8 0)) (length m - 9))
      (λ sized. by_test (whole_from m 9)
      (λ whole. let e : heard m ≡ read = same_message (heard m) read (rw (nine, first, second, sized, whole) at same) in
      rw (← e) (heard_writes_back (ltb-false _ _ nine) (eqb-true _ _ first) (eqb-true _ _ second) e₆ (eqb-true _ _ sized) whole))
      (λ rest. never read (rw (nine, first, second, sized, rest) at same)))
      (λ rest. never read (rw (nine, first, second, rest) at same)))
      (λ rest. never read (rw (nine, first, rest) at same)))
      (λ rest. never read (rw (nine, rest) at same)))
