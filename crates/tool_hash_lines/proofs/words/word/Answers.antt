use Rattle.std.proofs.Common.{◌≡◌, ◌<◌, ◌+◌, ◌-◌, ◌^◌, ℕ, map, arith, sym, subst, inl, inr}
use Rattle.std.proofs.lemmas.Bool.{cases_eq}
use Rattle.tool_hash_lines.specs.Columns.{polynomial_cells_at}
use Rattle.tool_hash_lines.specs.RowWords.{cell_number, word_at}
use Rattle.air_gadgets.specs.Words.{bits_number}
use Rattle.tool_hash_lines.proofs.Digits.{nothing_read, number_below, one_digit_more}
use Rattle.tool_hash_lines.proofs.words.word.Goals as goal

pub loop-bit-init : goal.loop-bit-init
loop-bit-init c =
    let f = λ (b : ℕ). cell_number (polynomial_cells_at (map (λ f. f.items) c.args.polynomials.now) c.args.point) (c.args.column + b) in
    record { within = omega arith; bits = λ b a h. absurd (omega (arith, a, h)); so_far = nothing_read f }

pub overflow_mul-number : goal.overflow_mul-number
overflow_mul-number c =
    let f = λ (b : ℕ). cell_number (polynomial_cells_at (map (λ f. f.items) c.args.polynomials.now) c.args.point) (c.args.column + b) in
    let below : c.loop-bit.number < 2 ^ 32 = number_below f c.loop-bit.bit c.loop-bit.number c.loop-bit.invariant.within c.loop-bit.invariant.bits c.loop-bit.invariant.so_far in
    omega (arith, below)

pub overflow_add-number : goal.overflow_add-number
overflow_add-number c =
    let f = λ (b : ℕ). cell_number (polynomial_cells_at (map (λ f. f.items) c.args.polynomials.now) c.args.point) (c.args.column + b) in
    let below : c.loop-bit.number < 2 ^ 32 = number_below f c.loop-bit.bit c.loop-bit.number c.loop-bit.invariant.within c.loop-bit.invariant.bits c.loop-bit.invariant.so_far in
    omega (arith, below)

pub loop-bit-preserved : goal.loop-bit-preserved
loop-bit-preserved c =
    let f = λ (b : ℕ). cell_number (polynomial_cells_at (map (λ f. f.items) c.args.polynomials.now) c.args.point) (c.args.column + b) in
    let k = c.loop-bit.bit in
    let pos : 0 < k = omega arith in
    let here : c.cell-digit.result ≡ f (k - 1) = c.cell-digit.ensures in
    let bit : f (k - 1) < 2 = omega (arith, here) in
    record {
      within = omega (arith, c.loop-bit.invariant.within);
      bits = λ b a h. elim (cases_eq b (k - 1)) [
        | inl e ↦ subst (λ (j : ℕ). f j < 2) (sym e) bit
        | inr d ↦ c.loop-bit.invariant.bits b (omega (arith, a, d, pos)) h
      ];
      so_far = one_digit_more f k c.loop-bit.number c.cell-digit.result pos c.loop-bit.invariant.within here c.loop-bit.invariant.so_far;
    }

pub overflow_cast-result : goal.overflow_cast-result
overflow_cast-result c =
    let f = λ (b : ℕ). cell_number (polynomial_cells_at (map (λ f. f.items) c.args.polynomials.now) c.args.point) (c.args.column + b) in
    let below : c.loop-bit.number < 2 ^ 32 = number_below f c.loop-bit.bit c.loop-bit.number c.loop-bit.invariant.within c.loop-bit.invariant.bits c.loop-bit.invariant.so_far in
    omega (arith, below)

pub returns : goal.returns
unfolding word_at
returns c =
    let done : c.loop-bit.bit ≡ 0 = omega arith in (
      λ b h. c.loop-bit.invariant.bits b (omega (arith, done)) h,
      subst (λ (k : ℕ). (n : ℕ) → k + n ≡ 32 → c.loop-bit.number ≡ bits_number (λ b. cell_number (polynomial_cells_at (map (λ f. f.items) c.args.polynomials.now) c.args.point) (c.args.column + b)) k n)
          done c.loop-bit.invariant.so_far 32 (omega arith),
    )
