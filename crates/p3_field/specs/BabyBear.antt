-- The BabyBear field: numbers modulo p = 15 * 2^27 + 1 = 2013265921 (Plonky3's p3-baby-bear).
use Rattle.std.specs.Prelude.{ℕ, ◌+◌, ◌*◌, ◌-◌, ◌%◌, ◌^◌}
use Rattle.std.proofs.lemmas.Nat.{mod_below}
use Rattle.std.proofs.Common.{lit<}
use Rattle.p3_field.specs.declared.baby_bear.BabyBear.{BabyBear}
use Rattle.p3_field.specs.Ring.{Ring, pow}

-- p
abbrev pub order : ℕ
order = 2013265921

-- the value that is `n` modulo p
abbrev pub reduce : ℕ → BabyBear
reduce n = record { value = n % 2013265921; in_range = mod_below n 2013265921 (lit< tt) }

-- sums, products and opposites modulo p
unfoldable pub baby_bear_ring : Ring BabyBear
baby_bear_ring = record {
  zero = reduce 0;
  one = reduce 1;
  add = λ x y. reduce (x.value + y.value);
  mul = λ x y. reduce (x.value * y.value);
  neg = λ x. reduce (2013265921 - x.value);
}

-- the inverse of a value that isn't zero, by Fermat: x^(p-2)
unfoldable pub baby_bear_inv : BabyBear → BabyBear
baby_bear_inv x = pow baby_bear_ring x 2013265919

-- the generator of the subgroup of size 2^k, for k up to 27: 31^(15 * 2^(27-k))
unfoldable pub baby_bear_root : ℕ → BabyBear
baby_bear_root k = pow baby_bear_ring (reduce 31) (15 * 2 ^ (27 - k))
