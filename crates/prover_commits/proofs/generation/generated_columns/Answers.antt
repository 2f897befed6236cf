use Rattle.std.proofs.Common.{◌≡◌, Option, refl, sym, ◌∙◌, ap, subst}
use Rattle.std.specs.Prelude.{IfSome}
use Rattle.p3_matrix.specs.Matrix.{Rows, height}
use Rattle.prover_commits.proofs.Lent.{of_reference, zero_along}
use Rattle.prover_commits.proofs.generation.generated_columns.Goals as goal

pub generate_permutation-requires-clause-preprocessed : goal.generate_permutation-requires-clause-preprocessed
generate_permutation-requires-clause-preprocessed g c =
    let lent = c.as_ref.ensures.value ∙ (c.in_ok-preprocessed.ensures.trace ∙ ap (λ i. (g.A.BaseAir.declaration i.air).preprocessed) c.instance.view_is) in
    of_reference (λ m. height m ≡ height c.instance.inside.trace.now) c.as_ref.result
    (subst (λ (o : Option (Rows g.row.F.Denot)). IfSome o (λ m. height m ≡ height c.instance.inside.trace.now)) (sym lent)
    (subst (λ (t : Rows g.row.F.Denot). IfSome (g.A.BaseAir.declaration c.args.instance.now.air).preprocessed (λ m. height m ≡ height t)) (ap (λ i. i.trace) (sym c.instance.view_is)) c.requires.preprocessed))

pub returns-in-Err-DenominatorZero : goal.returns-in-Err-DenominatorZero
returns-in-Err-DenominatorZero g c =
    let e = c.in-Err-DenominatorZero in
    let lent = c.as_ref.ensures.value ∙ (c.in_ok-preprocessed.ensures.trace ∙ ap (λ i. (g.A.BaseAir.declaration i.air).preprocessed) c.instance.view_is) in (
      refl,
      (
        e.field-0-1,
        e.field-0-2,
        zero_along g.F.RingCore.ring g.EF.RingCore.ring g.EF.FieldCore.inv g.EF.ExtensionField.embed _ _ e.row e.field-0-1 e.field-0-2 _ _ _ _ _ _
            (ap (λ i. i.trace) c.instance.view_is) lent (c.deref.ensures.value ∙ ap (λ i. i.public_values) c.instance.view_is) (rw e.field-0-is at e.ensures),
      ),
    )
