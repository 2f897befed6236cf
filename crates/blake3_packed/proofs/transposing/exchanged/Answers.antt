use Rattle.std.proofs.Common.{◌≡◌, ◌+◌, ◌*◌, ◌<◌, ◌∙◌, refl, arith, subst, length-set}
use Rattle.blake3_packed.specs.Lanes.{ExchangedBelow}
use Rattle.blake3_packed.specs.Laws.Transposed.{none_exchanged, more_exchanged}
use Rattle.blake3_packed.proofs.transposing.exchanged.Goals as goal

pub loop-p-init : goal.loop-p-init
loop-p-init c = record {
  long = omega arith;
  so_far = none_exchanged c.args.width c.args.rows.now _;
}

pub loop-p-preserved : goal.loop-p-preserved
loop-p-preserved c =
    let I = c.loop-p.invariant in
    let p = c.loop-p.p in
    let low : p < 32 = omega arith in
    record {
      long = length-set _ (2 * p + 1) _ ∙ (length-set c.loop-p.made (2 * p) _ ∙ I.long);
      so_far = more_exchanged p c.args.width c.args.mask c.args.rows.now c.loop-p.made c.requires.halving low I.long _ _ refl refl I.so_far;
    }

pub returns : goal.returns
returns c =
    let e : c.loop-p.p ≡ 32 = omega arith in
    subst (λ n. ExchangedBelow n c.args.width c.args.rows.now c.loop-p.made) e c.loop-p.invariant.so_far
