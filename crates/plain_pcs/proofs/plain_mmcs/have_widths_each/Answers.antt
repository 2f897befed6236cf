use Rattle.std.proofs.Common.{refl, sym, subst}
use Rattle.std.specs.Prelude.{All}
use Rattle.std.proofs.lemmas.List.{take_all}
use Rattle.std.proofs.lemmas.List.Elements.{All-more, All-map}
use Rattle.commit_rows.specs.Batches.{lists, HaveWidths}
use Rattle.plain_pcs.proofs.Places.{mapped_at}
use Rattle.plain_pcs.proofs.plain_mmcs.have_widths_each.Goals as goal

pub returns-then-not-have_widths : goal.returns-then-not-have_widths
returns-then-not-have_widths g c = (
  λ e. absurd (cc),
  λ a. c.if-not-have_widths.ensures.1 (subst (λ l. HaveWidths c.args.dimensions.now (lists l)) (sym c.deref.ensures.value)
      (mapped_at (HaveWidths c.args.dimensions.now) (λ rows. lists rows.items) c.args.openings.now c.loop-rows.rows-index c.rows-item.result c.loop-rows-test.true c.rows-item.is a)),
)

pub loop-rows-preserved : goal.loop-rows-preserved
loop-rows-preserved g c =
    All-more (λ rows. HaveWidths c.args.dimensions.now (lists rows.items)) c.args.openings.now c.loop-rows.rows-index c.rows-item.result c.loop-rows-test.true c.loop-rows.invariant
    (subst (λ rows. HaveWidths c.args.dimensions.now (lists rows.items)) c.rows-item.is
    (subst (λ l. HaveWidths c.args.dimensions.now (lists l)) c.deref.ensures.value (c.if-not-have_widths.ensures.0 refl)))

pub returns : goal.returns
returns g c = (
  λ e. All-map (HaveWidths c.args.dimensions.now) (λ rows. lists rows.items) c.args.openings.now
      (subst (λ l. All (λ rows. HaveWidths c.args.dimensions.now (lists rows.items)) l) (take_all c.loop-rows.rows-index c.args.openings.now c.loop-rows-test.false) c.loop-rows.invariant),
  λ e. refl,
)
