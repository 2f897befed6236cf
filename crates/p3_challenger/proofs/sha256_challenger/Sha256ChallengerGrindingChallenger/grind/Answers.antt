use Rattle.std.proofs.Common.{rules, ◌≡◌, ◌%◌, sym, subst, arith}
use Rattle.p3_field.specs.BabyBear.{order}
use Rattle.p3_field.specs.Laws.BabyBearField.{baby_bear_of_canonical, baby_bear_canonical_of}
use Rattle.p3_field.specs.declared.baby_bear.BabyBear.{BabyBear}
use Rattle.p3_challenger.specs.Grind.{PassesGrinding}
use Rattle.p3_challenger.specs.Sha256.{observed, bits_drawn}
use Rattle.p3_challenger.proofs.sha256_challenger.Sha256ChallengerGrindingChallenger.grind.Goals as goal

-- the witness of the number n has the value n, so that none below it passes
pub returns-then-check_witness-clause-answer : goal.returns-then-check_witness-clause-answer
returns-then-check_witness-clause-answer c =
    let witness = c.from_u64-witness.result in
    let Passes : BabyBear → Type 0 = PassesGrinding observed bits_drawn c.args.self.now c.args.bits in
    let passes : Passes witness = search rules in
    let n = c.loop-n.n in
    let HasRemainder : BabyBear → Type 0 = λ x. x.value ≡ n % order in
    let remainder : witness.value ≡ n % order = subst HasRemainder (sym c.from_u64-witness.ensures) (baby_bear_canonical_of n) in
    let value : witness.value ≡ n = omega (arith, remainder, c.loop-n-test.true) in
    record {
      meets = subst Passes (sym (baby_bear_of_canonical witness)) passes;
      none_below = λ m below. c.loop-n.invariant.none m (rw value at below);
    }
