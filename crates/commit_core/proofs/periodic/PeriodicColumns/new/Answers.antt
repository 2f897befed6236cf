use Rattle.std.proofs.Common.{◌≡◌, length, refl, sym, ◌∙◌, inl, inr, arith}
use Rattle.std.specs.Int.{IsPowerOfTwo}
use Rattle.std.proofs.lemmas.Nat.Gcd.{dvd_of_mod-eq-zero, mod-eq-zero_of_dvd}
use Rattle.p3_field.specs.Checks.{FirstFails}
use Rattle.commit_core.specs.declared.periodic.PeriodicColumnShapeError.TheVariants.{LengthNotPowerOfTwo, LengthNotDividingHeight}
use Rattle.commit_core.proofs.Periods.{first_unfit, more_fit}
use Rattle.commit_core.proofs.periodic.PeriodicColumns.new.Goals as goal

pub returns-then-not-is_power_of_two : goal.returns-then-not-is_power_of_two
unfolding FirstFails
returns-then-not-is_power_of_two g c =
    let v = c.index-columns-index.result in
    let n : c.len-length.result ≡ length v.items = omega (arith, v.ok.0) in
    let none : IsPowerOfTwo c.len-length.result → ⊥ = λ p. let e = sym c.if-not-is_power_of_two.true ∙ c.is_power_of_two.ensures.1 p in cc in
    first_unfit (λ w. length w.items) c.args.height c.args.columns.now c.loop-index.index c.len-length.result v (LengthNotPowerOfTwo c.loop-index.index c.len-length.result)
    (omega arith) c.index-columns-index.is n c.loop-index.invariant (inr (none, refl))

pub returns-then-rest-ne0 : goal.returns-then-rest-ne0
unfolding FirstFails
returns-then-rest-ne0 g c =
    let v = c.index-columns-index.result in
    let n : c.len-length.result ≡ length v.items = omega (arith, v.ok.0) in
    first_unfit (λ w. length w.items) c.args.height c.args.columns.now c.loop-index.index c.len-length.result v
    (LengthNotDividingHeight c.loop-index.index c.len-length.result c.args.height) (omega arith) c.index-columns-index.is n c.loop-index.invariant
    (inl (c.is_power_of_two.ensures.0 c.if-not-is_power_of_two.false, inr (λ p. c.if-rest-ne0.true (mod-eq-zero_of_dvd c.len-length.result p), refl)))

pub loop-index-preserved : goal.loop-index-preserved
loop-index-preserved g c =
    let v = c.index-columns-index.result in
    let n : c.len-length.result ≡ length v.items = omega (arith, v.ok.0) in
    more_fit (λ w. length w.items) c.args.height c.args.columns.now c.loop-index.index c.len-length.result v (omega arith) c.index-columns-index.is n c.loop-index.invariant
    (c.is_power_of_two.ensures.0 c.if-not-is_power_of_two.false, dvd_of_mod-eq-zero c.len-length.result c.if-rest-ne0.false)

pub returns : goal.returns
returns g c = (refl, refl, λ k d b. c.loop-index.invariant k d (omega arith))

pub invariant_of-result : goal.invariant_of-result
invariant_of-result g c = record { fit = λ k d b. c.loop-index.invariant k d (omega arith) }
