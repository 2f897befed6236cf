use Rattle.std.proofs.Common.{◌≡◌, ◌<◌, length, refl, sym, ◌∙◌, arith}
use Rattle.air_core.specs.Shape.{Declaration, width_of}
use Rattle.air_core.specs.Laws.Reads.{not_true}
use Rattle.batch_statement.proofs.Turns.{place_more, at_place}
use Rattle.batch_statement.proofs.entries.have_no_columns.Goals as goal

pub returns-then-preprocessed_width-ne0 : goal.returns-then-preprocessed_width-ne0
returns-then-preprocessed_width-ne0 g c =
    let i = c.loop-i.i in
    let within : i < length c.args.airs.now = omega arith in (
      (λ h. absurd (not_true h)),
      λ h. absurd (c.if-preprocessed_width-ne0.true (c.preprocessed_width.ensures ∙ at_place g.A.BaseAir.declaration (λ _ (d : Declaration g.row.F.Denot). width_of d.preprocessed ≡ 0) c.args.airs.now i c.args.n c.index-airs-i.result c.loop-i-test.true within c.index-airs-i.is h)),
    )

pub loop-i-preserved : goal.loop-i-preserved
loop-i-preserved g c =
    let i = c.loop-i.i in
    let within : i < length c.args.airs.now = omega arith in
    place_more g.A.BaseAir.declaration (λ _ (d : Declaration g.row.F.Denot). width_of d.preprocessed ≡ 0) c.args.airs.now i c.index-airs-i.result within c.index-airs-i.is c.loop-i.invariant
    (sym c.preprocessed_width.ensures ∙ c.if-preprocessed_width-ne0.false)

pub returns : goal.returns
returns g c = ((λ h k lt. c.loop-i.invariant k (omega arith)), λ h. refl)
