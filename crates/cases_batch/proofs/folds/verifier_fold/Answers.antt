use Rattle.std.proofs.Common.{◌≤◌, length, ap, refl, arith}
use Rattle.p3_field.specs.BabyBear.{baby_bear_ring}
use Rattle.p3_field.specs.Quartic.{quartic_ring}
use Rattle.p3_field.specs.Laws.QuarticLaws.{quartic_same}
use Rattle.air_core.specs.Shape.{width_of}
use Rattle.cases_batch.proofs.Cells.{next_fits}
use Rattle.cases_batch.proofs.folds.verifier_fold.Goals as goal

pub verifier_fold_with_lookups-sum-requires-clause-zero : goal.verifier_fold_with_lookups-sum-requires-clause-zero
unfolding quartic_ring baby_bear_ring
verifier_fold_with_lookups-sum-requires-clause-zero g c = quartic_same _ quartic_ring.zero refl refl refl refl

pub verifier_fold_with_lookups-sum-requires-clause-declared : goal.verifier_fold_with_lookups-sum-requires-clause-declared
verifier_fold_with_lookups-sum-requires-clause-declared g c =
    let d = g.A.BaseAir.declaration c.args.air.now in
    let has = c.if-not-has_cells.ensures refl in
    let next : d.width ≤ length c.deref-2.result.now = omega (arith, has.next, ap length c.deref-2.ensures.value) in
    let preprocessed_next : width_of d.preprocessed ≤ length c.deref-4.result.now = omega (arith, has.preprocessed, ap length c.deref-4.ensures.value) in
    record {
      main = omega (arith, has.local, ap length c.deref.ensures.value);
      main_next = λ column h. next_fits d.main_next d.width (length c.deref-2.result.now) (g.met.A.BaseAir.next_below c.args.air.now) next column h;
      preprocessed = omega (arith, has.preprocessed, ap length c.deref-3.ensures.value);
      preprocessed_next = λ column h. next_fits d.preprocessed_next (width_of d.preprocessed) (length c.deref-4.result.now) (g.met.A.BaseAir.preprocessed_next_below c.args.air.now) preprocessed_next column h;
      periodic = omega (arith, has.periodic, ap length c.deref-5.ensures.value);
      public = omega (arith, has.publics, ap length c.deref-6.ensures.value);
    }
