use Rattle.std.proofs.Common.{ℕ, List, length, sym, ◌∙◌, subst}
use Rattle.std.specs.Prelude.{All}
use Rattle.std.proofs.lemmas.Result.{IfOk-weaker}
use Rattle.air_core.specs.Check.{HasHeight}
use Rattle.air_core.specs.Laws.Reads.{not_true}
use Rattle.commit_core.specs.Periodic.{IsPeriod}
use Rattle.batch_setup.specs.Packed.{source_of}
use Rattle.tool_shaped.specs.Parts.{IsHeightWithin}
use Rattle.tool_shaped.proofs.Told.{told_shape}
use Rattle.tool_shaped.proofs.shape.has_shape.Goals as goal

pub returns-then-not-has_sizes : goal.returns-then-not-has_sizes
returns-then-not-has_sizes g c = ((λ h. absurd (not_true h)), λ h. sym c.if-not-has_sizes.true ∙ c.has_sizes.ensures.1 h.sizes)

pub returns-then-not-is_height : goal.returns-then-not-is_height
returns-then-not-is_height g c = (
  (λ h. absurd (not_true h)),
  λ h. sym c.if-not-is_height.true ∙ c.is_height.ensures.1 (subst (IsHeightWithin c.args.least c.args.most) (sym c.height-rows.ensures.result) h.rows),
)

pub returns-then-not-have_periods : goal.returns-then-not-have_periods
returns-then-not-have_periods g c =
    let P : ℕ → Type 0 = λ n. All (λ (column : List g.row.F.Denot). IsPeriod n (length column)) (g.A.BaseAir.declaration c.args.air.now).periodic in (
      (λ h. absurd (not_true h)),
      λ h. sym c.if-not-have_periods.true ∙ c.have_periods.ensures.1 (subst P (sym c.height-rows.ensures.result) h.periods),
    )

pub returns-then-not-prepared : goal.returns-then-not-prepared
returns-then-not-prepared g c =
    let P : ℕ → Type 0 = λ n. HasHeight (g.A.BaseAir.declaration c.args.air.now).preprocessed n in (
      (λ h. absurd (not_true h)),
      λ h. sym c.if-not-prepared.true ∙ c.in_ok-prepared.ensures.1 (subst P (sym c.height-rows.ensures.result) h.prepared),
    )

pub has_room-requires : goal.has_room-requires
has_room-requires g c = (c.is_height.ensures.0 c.if-not-is_height.false).0

pub returns : goal.returns
returns g c =
    let s = source_of g.A.BaseAir.declaration g.A.Air.trees g.A.Air.interactions c.args.air.now in
    let height = c.height-rows.ensures in
    IfOk-weaker c.has_room.result _ _
    (told_shape g.F.RingCore.ring g.F.TwoAdicCore.TWO_ADICITY c.args.least c.args.most s c.args.trace.now c.args.public_values.now c.height-rows.result height.result height.fills
    (c.has_sizes.ensures.0 c.if-not-has_sizes.false) (c.is_height.ensures.0 c.if-not-is_height.false) (c.have_periods.ensures.0 c.if-not-have_periods.false) (c.in_ok-prepared.ensures.0 c.if-not-prepared.false))
    c.has_room.ensures
