-- The field of 256 elements: polynomials over the field of two elements modulo x^8 + x^4 + x^3 + x + 1 (FIPS 197, section 4).
-- A byte is a polynomial: bit i is the coefficient of x^i.
use Rattle.std.specs.Prelude.{ℕ, zero, suc, ◌*◌, ◌/◌, ◌%◌, bit_xor}
use Rattle.std.proofs.lemmas.Nat.{mod_below}
use Rattle.std.proofs.Common.{lit<}
use Rattle.p3_field.specs.declared.gf256.Gf256.{Gf256}
use Rattle.p3_field.specs.Ring.{Ring, pow}

-- x times a byte: each bit moves up one place, and x^8 is x^4 + x^3 + x + 1, which is 27
abbrev pub times_x : ℕ → ℕ
times_x a = bit_xor (2 * a % 256) (27 * (a / 128))

-- a times the low `n` bits of b: with b = b0 + x b' it is b0 a + x (a b')
unfoldable pub byte_mul : ℕ → ℕ → ℕ → ℕ
byte_mul zero a b = 0
byte_mul (suc n) a b = bit_xor (b % 2 * a) (times_x (byte_mul n a (b / 2)))

-- the value with this byte
abbrev pub of_byte : ℕ → Gf256
of_byte n = record { value = n % 256; in_range = mod_below n 256 (lit< tt) }

-- sums are bitwise, each value is its own opposite, and products are those of polynomials
unfoldable pub gf256_ring : Ring Gf256
gf256_ring = record {
  zero = of_byte 0;
  one = of_byte 1;
  add = λ x y. of_byte (bit_xor x.value y.value);
  mul = λ x y. of_byte (byte_mul 8 x.value y.value);
  neg = λ x. x;
}

-- the inverse of a value that isn't zero: x^254, since x^255 is one
unfoldable pub gf256_inv : Gf256 → Gf256
gf256_inv x = pow gf256_ring x 254
