-- Laws of decimal numbers.
--   few_digits     how many digits a number has at most
--   spelled        what `io::decimal` says of its digits makes them the number's text
-- Assumes nothing.
use Prim.Native.Nat.{ℕ, zero, suc, ◌+◌, ◌*◌, ◌-◌, ◌/◌, ◌%◌, ◌^◌, ◌≤◌, ◌<◌}
use native.Mathlib.Omega.{arith}
use native.Mathlib.Nat.{pow-suc, one-le-pow}
use mathlib.Core.Path.{◌≡◌, ◌∙◌}
use lib.Dec.{ltb}
use lib.ListN.{length, length-append}
use borrow.Author.Tests.{lt-ltb, le-ltb}
use Rattle.octets.proofs.Cases.{by_test}
use Rattle.io.specs.Digits.{last_digits, hex_digit_ascii, IsDigitCount}
use Rattle.ascii.specs.Ascii.{decimal_within, decimal_text}

few_within : (k steps n : ℕ) → n < 10 ^ suc k → length (decimal_within steps n) ≤ suc k
few_within k zero n h = omega arith
few_within zero (suc steps) n h = rw (lt-ltb n 10 h) (omega arith)
few_within (suc k) (suc steps) n h = by_test (ltb n 10)
    (λ e. rw e (omega arith))
    (λ e. rw (e, length-append) (omega (arith, few_within k steps (n / 10) (omega (arith, pow-suc 10 (suc k))))))

pub few_digits : (k n : ℕ) → n < 10 ^ suc k → length (decimal_text n) ≤ suc k
unfolding decimal_text
few_digits k n h = few_within k 19 n h

last : (n : ℕ) → hex_digit_ascii (n % 10) ≡ 48 + n % 10
last n = rw (lt-ltb (n % 10) 10 (omega arith))

only : (n : ℕ) → n < 10 → hex_digit_ascii (n % 10) ≡ 48 + n
only n h = last n ∙ omega arith

least : (n k : ℕ) → IsDigitCount 10 1 n (suc (suc k)) → 10 ^ k * 10 ≤ n
least n k f =
    let e : suc (suc k) - 1 ≡ suc k = omega arith in
    rw (e, pow-suc 10 k) at (f.2 (omega arith))

-- without its last digit a number has one digit fewer
tenth : (n k : ℕ) → IsDigitCount 10 1 n (suc (suc k)) → IsDigitCount 10 1 (n / 10) (suc k)
tenth n k f =
    let e : suc k - 1 ≡ k = omega arith in
    (omega arith, omega (arith, pow-suc 10 (suc k)), λ h. rw e (omega (arith, least n k f)))

spelled_within : (k steps n : ℕ) → n < 10 ^ suc steps → IsDigitCount 10 1 n k → last_digits 10 k n ≡ decimal_within steps n
spelled_within zero steps n h f = absurd (omega (arith, f.0))
spelled_within (suc zero) zero n h f = rw (only n h)
spelled_within (suc zero) (suc steps) n h f = rw (lt-ltb n 10 f.1, only n f.1)
spelled_within (suc (suc k)) zero n h f = absurd (omega (arith, least n k f, one-le-pow k 10 (omega arith)))
spelled_within (suc (suc k)) (suc steps) n h f =
    let many : 10 ≤ n = omega (arith, least n k f, one-le-pow k 10 (omega arith)) in
    rw (le-ltb n 10 many, last n, ← spelled_within (suc k) steps (n / 10) (omega (arith, pow-suc 10 (suc steps))) (tenth n k f))

pub spelled : (n k : ℕ) → n < 10 ^ 20 → IsDigitCount 10 1 n k → last_digits 10 k n ≡ decimal_text n
unfolding decimal_text
spelled n k h f = spelled_within k 19 n h f
