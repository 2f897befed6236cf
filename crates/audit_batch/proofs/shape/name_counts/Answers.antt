use Rattle.std.proofs.Common.{[], ◌∷◌, map}
use Rattle.p3_field.specs.Checks.{check}
use Rattle.p3_uni_stark.specs.declared.error.InvalidProofShapeError.TheVariants.{InstanceCountMismatch}
use Rattle.p3_uni_stark.specs.declared.error.VerificationError.TheVariants.{InvalidProofShape, RandomizationError}
use Rattle.batch_statement.specs.Statement.{statement_with, tables_of}
use Rattle.batch_statement.specs.declared.error.BatchVerificationError.TheVariants.{Verification}
use Rattle.verifier_shape.specs.ShapeChecks.{HaveItemForEachTable, IsRandomized, shape_check}
use Rattle.audit_batch.specs.Laws.Naming.{after_test, after_then}
use Rattle.audit_batch.proofs.shape.name_counts.Goals as goal

pub returns-clause-named : goal.returns-clause-named
returns-clause-named g c =
    let a = c.args in
    let s = statement_with (tables_of g.A.BaseAir.declaration g.A.Air.trees a.airs.now) (map (λ v. v.items) a.public_values.now) a.common.now in
    after_then (shape_check InstanceCountMismatch (HaveItemForEachTable s a.proof.now)) (check (Verification RandomizationError) (IsRandomized a.zk a.proof.now) ∷ []) _ _ _
    (after_test (Verification (InvalidProofShape InstanceCountMismatch)) (HaveItemForEachTable s a.proof.now) _ _ _ c.are_counted-counted.ensures c.in_ok-name_test.ensures)
    (after_test (Verification RandomizationError) (IsRandomized a.zk a.proof.now) _ _ _ c.is_randomized-randomized.ensures c.in_ok-name_test-2.ensures)
