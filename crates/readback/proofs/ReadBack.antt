-- What is written reads back as the same message.
--   octets-read_back     the octets of every well-formed message read as that message
--   written_octets       and each of them is below 256
-- Assumes nothing.
use Rattle.std.specs.Prelude.{Some}
use Prim.Native.Nat.{ℕ, ◌+◌, ◌-◌, ◌/◌, ◌%◌, ◌<◌}
use mathlib.Core.Path.{◌≡◌, refl, ◌∙◌}
use mathlib.Core.Bool.{Bool, true, false, cond}
use mathlib.Core.List.{List, ◌++◌}
use native.Mathlib.Omega.{arith}
use borrow.Author.Tests.{le-ltb, eq-eqb}
use lib.ListN.{length}
use Rattle.octets.specs.Octets.{high, low, number}
use Rattle.octets.proofs.Numbers.{number_back, flag_back, reference_back}
use Rattle.header.specs.Header.{head_of}
use Rattle.replies.specs.Message.{Element, body, Message, header, octets}
use Rattle.readback.specs.ReadBack.{read_message, reads, Octets, EachFits, none, more, WellFormed}
use Rattle.readback.proofs.Octets.{no_octets, octets_cons, octets-append}
use Rattle.readback.proofs.Walked.{walked}

-- the header of a written message says what it was given
header_back : (flag : Bool) (r kind : ℕ) (rest : List ℕ) → r < 8388608 → length rest < 65536
    → head_of (header flag r kind (length rest) ++ rest) ≡ Some (record { flag = flag; reference = r; kind = kind; whole = true })
header_back flag r kind rest h small =
    let m = header flag r kind (length rest) ++ rest in
    rw (
      le-ltb (length m) 9 (omega arith),
      flag_back flag r,
      reference_back flag r h,
      eq-eqb (number (high (length rest)) (low (length rest))) (length m - 9) (number_back (length rest) small ∙ omega arith),
    )

pub octets-read_back : (m : Message) → WellFormed m → read_message (octets m) ≡ reads m
octets-read_back m w =
    let es = m.elements in
    let b = walked es (octets m) (header m.flag m.reference m.kind (length (body es))) refl w.elements in
    rw (header_back m.flag m.reference m.kind (body es) w.reference w.size, b.whole, b.same)

first_octet : (flag : Bool) (r : ℕ) → cond flag 0x80 0 + r / 65536 % 128 < 256
first_octet true r = omega arith
first_octet false r = omega arith

header-octets : (flag : Bool) (r kind size : ℕ) → kind < 256 → Octets (header flag r kind size)
header-octets flag r kind size h =
    let sized = octets_cons {o = high size} (omega arith) (octets_cons {o = low size} (omega arith) no_octets) in
    let typed = octets_cons h (octets_cons {o = 0x80} (omega arith) sized) in
    let middle = octets_cons {o = r / 256 % 256} (omega arith) (octets_cons {o = r % 256} (omega arith) typed) in
    octets_cons (omega arith) (octets_cons (omega arith) (octets_cons (first_octet flag r) middle))

body-octets : {es : List Element} → EachFits es → Octets (body es)
body-octets none = no_octets
body-octets (more {e} f fs) =
    let n = length e.contents in
    let sized = octets_cons {o = high n} (omega arith) (octets_cons {o = low n} (omega arith) f.contents) in
    octets-append (octets_cons f.ident (octets_cons f.action sized)) (body-octets fs)

pub written_octets : (m : Message) → WellFormed m → Octets (octets m)
written_octets m w =
    octets-append (header-octets m.flag m.reference m.kind (length (body m.elements)) w.kind) (body-octets w.elements)
