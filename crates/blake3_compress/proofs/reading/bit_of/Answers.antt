use Rattle.std.proofs.Common.{◌≡◌, ℕ, zero, suc, ◌<◌, refl, sym, ◌∙◌, arith, rules}
use Rattle.p3_field.specs.Ring.{Ring, RingLaws, of_nat}
use Rattle.p3_field.specs.Field.{FieldLaws}
use Rattle.blake3_compress.proofs.reading.bit_of.Goals as goal

is_zero : {A : Type 0} (r : Ring A) (L : RingLaws r) (inv : A → A) (K : FieldLaws r inv) (x : A) (b : ℕ) → b < 2 → x ≡ of_nat r b → x ≡ r.zero → 0 ≡ b
unfolding of_nat
is_zero r L inv K x zero lt e z = refl
is_zero r L inv K x (suc zero) lt e z = absurd (K.one_differs (sym (L.add_zero r.one) ∙ (sym e ∙ z)))
is_zero r L inv K x (suc (suc b)) lt e z = absurd (omega (arith, lt))

not_zero : {A : Type 0} (r : Ring A) (x : A) (b : ℕ) → b < 2 → x ≡ of_nat r b → (x ≡ r.zero → ⊥) → 1 ≡ b
unfolding of_nat
not_zero r x zero lt e z = absurd (z e)
not_zero r x (suc zero) lt e z = refl
not_zero r x (suc (suc b)) lt e z = absurd (omega (arith, lt))

pub returns-then-is_zero-clause-bit : goal.returns-then-is_zero-clause-bit
returns-then-is_zero-clause-bit g c b lt e =
    let f = c.if-is_zero.true in
    is_zero g.F.RingCore.ring g.met.F.RingCore.ring_laws g.F.FieldCore.inv g.met.F.FieldCore.field_laws c.args.x b lt e (c.is_zero.ensures.0 (search rules))

pub returns-else-is_zero-clause-bit : goal.returns-else-is_zero-clause-bit
returns-else-is_zero-clause-bit g c b lt e =
    let f = c.if-is_zero.false in
    let t = c.is_zero.ensures in
    not_zero g.F.RingCore.ring c.args.x b lt e (λ z. let u = t.1 z in search rules)
