use Rattle.std.proofs.Common.{◌≡◌, ℕ, ◌+◌, List, take, get_or, sym, arith, subst, refl, ◌∙◌}
use Rattle.std.specs.Str.Parse.{digits_value, AllDigits}
use Rattle.std.proofs.lemmas.Grind.{common_steps}
use Rattle.tool_lines.proofs.Numbers.{not-empty, not-digit, not-zero, not-large, not-cut, is-line, more-digits, is-digit, no-digit}
use Rattle.tool_lines.proofs.texts.first_number.Goals as goal

pub returns-then-i-eq0 : goal.returns-then-i-eq0
returns-then-i-eq0 c n rest k e = not-empty c.args.bytes.now rest n (omega arith) (grind (arith, c.if-i-eq0.true, c.if-byte-eq10.true)) e

pub returns-else-i-eq0 : goal.returns-else-i-eq0
returns-else-i-eq0 c =
    let v = c.loop-i.invariant.value in (
      omega arith,
      omega arith,
      rw v (is-line c.args.bytes.now c.loop-i.i c.loop-i.invariant.digits (omega arith) c.loop-i-test.true
          c.if-byte-eq10.true (λ z. (c.loop-i.invariant.zero z).0) (omega (arith, v))),
    )

pub returns-then-not-is_ascii_digit : goal.returns-then-not-is_ascii_digit
returns-then-not-is_ascii_digit c n rest k e =
    not-digit c.args.bytes.now rest n c.loop-i.i (omega arith) c.loop-i.invariant.digits c.loop-i-test.true c.if-byte-eq10.false
    (no-digit _ _ c.is_ascii_digit.ensures.value c.if-not-is_ascii_digit.true) e

pub returns-then-is_leading_zero : goal.returns-then-is_leading_zero
returns-then-is_leading_zero c n rest k e =
    let h : (c.loop-i.i ≡ 1) × (c.loop-i.value ≡ 0) = c.if-is_leading_zero.ensures.0 refl in
    let one = h.0 in
    let value : digits_value 10 (take c.loop-i.i c.args.bytes.now) ≡ 0 = sym c.loop-i.invariant.value ∙ h.1 in
    not-zero c.args.bytes.now rest n (omega arith) (rw one at c.loop-i.invariant.digits) (rw one at c.loop-i-test.true)
    (rw one at c.if-byte-eq10.false) (rw one at value) e

pub returns-then-value-most : goal.returns-then-value-most
returns-then-value-most c n rest k e =
    let m = more-digits c.args.bytes.now c.loop-i.i c.loop-i.value c.loop-i-test.true c.loop-i.invariant.digits c.loop-i.invariant.value
    (is-digit _ _ c.is_ascii_digit.ensures.value c.if-not-is_ascii_digit.false) in
    not-large c.args.bytes.now rest n (c.loop-i.i + 1) c.args.most (omega arith) k m.0 (omega arith) (omega (arith, m.1, c.if-value-most.true)) e

pub loop-i-preserved : goal.loop-i-preserved
loop-i-preserved c =
    let r = is-digit _ _ c.is_ascii_digit.ensures.value c.if-not-is_ascii_digit.false in
    let m = more-digits c.args.bytes.now c.loop-i.i c.loop-i.value c.loop-i-test.true c.loop-i.invariant.digits c.loop-i.invariant.value r in
    record {
      digits = m.0;
      value = m.1;
      small = omega arith;
      zero = λ z.
          let h = c.loop-i.invariant.zero z in
          let nil : c.loop-i.i ≡ 1 → ⊥ = λ one. let t = c.if-is_leading_zero.ensures.1 (one, h.1) in grind (arith, t) in
          let none : c.loop-i.i ≡ 0 = grind (arith, nil, h) in
          let first : get_or c.args.bytes.now c.loop-i.i 0 ≡ 48 = rw none z in
          (omega arith, omega (arith, first, h.1));
    }

pub returns : goal.returns
returns c n rest k e =
    let all : take c.loop-i.i c.args.bytes.now ≡ c.args.bytes.now = grind (arith, common_steps) in
    not-cut c.args.bytes.now rest n (omega arith) (subst (λ (v : List ℕ). AllDigits 10 v) all c.loop-i.invariant.digits) e
