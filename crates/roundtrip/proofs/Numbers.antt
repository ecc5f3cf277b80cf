-- Numbers of four and of eight octets, read back.
--   four_back, eight_back
-- Assumes nothing.
use Prim.Native.Nat.{ℕ, ◌+◌, ◌*◌, ◌/◌, ◌%◌, ◌<◌}
use mathlib.Core.Path.{◌≡◌}
use native.Mathlib.Omega.{arith}
use Rattle.octets.specs.Octets.{high, low, number}

two-low : (n : ℕ) → number (high n) (low n) ≡ n % 65536
two-low n = omega arith

pub four_back : (n : ℕ) → n < 4294967296 → number (high (n / 65536)) (low (n / 65536)) * 65536 + number (high n) (low n) ≡ n
four_back n h = rw (two-low (n / 65536), two-low n) (omega arith)

-- the quotients, one after the other
second : (n : ℕ) → n / 4294967296 ≡ n / 65536 / 65536
second n = omega arith

third : (n : ℕ) → n / 281474976710656 ≡ n / 4294967296 / 65536
third n = omega arith

eight_parts : (n : ℕ) → n < 18446744073709551616
    → (n / 281474976710656 % 65536) * 281474976710656 + (n / 4294967296 % 65536) * 4294967296 + (n / 65536 % 65536) * 65536 + n % 65536 ≡ n
eight_parts n h =
    let a : n ≡ n / 65536 * 65536 + n % 65536 = omega arith in
    let b : n / 65536 ≡ n / 4294967296 * 65536 + n / 65536 % 65536 = rw (second n) (omega arith) in
    let c : n / 4294967296 ≡ n / 281474976710656 * 65536 + n / 4294967296 % 65536 = rw (third n) (omega arith) in
    let d : n / 281474976710656 % 65536 ≡ n / 281474976710656 = omega arith in
    omega (arith, a, b, c, d)

pub eight_back : (n : ℕ) → n < 18446744073709551616
    → number (high (n / 281474976710656)) (low (n / 281474976710656)) * 281474976710656
    + number (high (n / 4294967296)) (low (n / 4294967296)) * 4294967296
    + number (high (n / 65536)) (low (n / 65536)) * 65536
    + number (high n) (low n)
    ≡ n
eight_back n h = rw (two-low (n / 281474976710656), two-low (n / 4294967296), two-low (n / 65536), two-low n) (eight_parts n h)
