-- A number of 128 bits modulo the order, by its two words.
use Rattle.std.proofs.Common.{◌≡◌, ℕ, ◌+◌, ◌*◌, ◌/◌, ◌%◌, arith, sym, ◌∙◌}
use Rattle.p3_field.specs.Ring.{of_nat}
use Rattle.p3_field.specs.BabyBear.{reduce, baby_bear_ring}
use Rattle.p3_field.specs.Laws.BabyBearLaws.{same_baby_bear, baby_bear_of_nat}

-- the two words' remainders give the number's: 1172168163 is 2 ^ 64 modulo the order
words_value : (n : ℕ) → ((n / 18446744073709551616) % 2013265921 * 1172168163 + (n % 18446744073709551616) % 2013265921) % 2013265921 ≡ n % 2013265921
words_value n = omega arith

pub words_reduce : (n : ℕ) → of_nat baby_bear_ring ((n / 18446744073709551616) % 2013265921 * 1172168163 + (n % 18446744073709551616) % 2013265921) ≡ reduce n
words_reduce n =
    let m = (n / 18446744073709551616) % 2013265921 * 1172168163 + (n % 18446744073709551616) % 2013265921 in
    sym (baby_bear_of_nat m) ∙ same_baby_bear (reduce m) (reduce n) (words_value n)
