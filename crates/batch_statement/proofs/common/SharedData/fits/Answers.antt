use Rattle.std.proofs.Common.{◌≡◌, true, false, List, map, sym, ◌∙◌, ap, subst}
use Rattle.air_core.specs.Laws.Reads.{not_true}
use Rattle.p3_lookup.specs.Written.{Written}
use Rattle.std.specs.Prelude.{Option}
use Rattle.batch_statement.specs.Statement.{PreprocessedTracesData, WrittenCommon}
use Rattle.batch_statement.specs.Fitting.{FitsPreprocessed}
use Rattle.batch_statement.proofs.Assembled.{LookupsFit, WidthsFit, counted, well_formed, lookups_from, widths_from, traces_from}
use Rattle.batch_statement.proofs.common.SharedData.fits.Goals as goal

pub returns-then-not-lookups_fit-clause-fits : goal.returns-then-not-lookups_fit-clause-fits
returns-then-not-lookups_fit-clause-fits g c =
    let w = c.args.self.now in
    let n = c.instances-n.result in
    let ds = map g.A.BaseAir.declaration c.args.airs.now in
    let count = counted g.A.BaseAir.declaration c.args.airs.now w n c.instances-n.ensures in
    let own = c.deref.ensures.value ∙ ap (λ (x : WrittenCommon g.row.F.Denot g.row.Com.Denot). x.lookups) c.self.view_is in
    let P : List (List (Written g.row.F.Denot)) → Type 0 = λ ws. LookupsFit ds ws n in (
      (λ h. absurd (not_true h)),
      λ h. sym c.if-not-lookups_fit.true ∙ c.lookups_fit.ensures.1 (subst P (sym own) (lookups_from ds w n count h)),
    )

pub returns-then-not-widths_fit-clause-fits : goal.returns-then-not-widths_fit-clause-fits
returns-then-not-widths_fit-clause-fits g c =
    let w = c.args.self.now in
    let n = c.instances-n.result in
    let ds = map g.A.BaseAir.declaration c.args.airs.now in
    let count = counted g.A.BaseAir.declaration c.args.airs.now w n c.instances-n.ensures in
    let own = c.deref-2.ensures.value ∙ ap (λ (x : WrittenCommon g.row.F.Denot g.row.Com.Denot). x.lookups) c.self.view_is in
    let P : List (List (Written g.row.F.Denot)) → Type 0 = λ ws. WidthsFit ws n in (
      (λ h. absurd (not_true h)),
      λ h. sym c.if-not-widths_fit.true ∙ c.widths_fit.ensures.1 (subst P (sym own) (widths_from ds w n count h)),
    )

pub returns-clause-fits : goal.returns-clause-fits
returns-clause-fits g c =
    let w = c.args.self.now in
    let n = c.instances-n.result in
    let ds = map g.A.BaseAir.declaration c.args.airs.now in
    let count = counted g.A.BaseAir.declaration c.args.airs.now w n c.instances-n.ensures in
    let lookups = ap (λ (x : WrittenCommon g.row.F.Denot g.row.Com.Denot). x.lookups) c.self.view_is in
    let traces = ap (λ (x : WrittenCommon g.row.F.Denot g.row.Com.Denot). x.preprocessed) c.self.view_is in
    let P : List (List (Written g.row.F.Denot)) → Type 0 = λ ws. LookupsFit ds ws n in
    let Q : List (List (Written g.row.F.Denot)) → Type 0 = λ ws. WidthsFit ws n in
    let R : Option (PreprocessedTracesData g.row.Com.Denot) → Type 0 = λ p. FitsPreprocessed ds p n in
    let reads = subst P (c.deref.ensures.value ∙ lookups) (c.lookups_fit.ensures.0 c.if-not-lookups_fit.false) in
    let widths = subst Q (c.deref-2.ensures.value ∙ lookups) (c.widths_fit.ensures.0 c.if-not-widths_fit.false) in (
      (λ h. well_formed ds w n count reads widths (subst R traces (c.in_ok-preprocessed.ensures.fits.0 h))),
      λ h. c.in_ok-preprocessed.ensures.fits.1 (subst R (sym traces) (traces_from ds w n count h)),
    )

pub returns-in_err-preprocessed-clause-sure : goal.returns-in_err-preprocessed-clause-sure
returns-in_err-preprocessed-clause-sure g c = λ none.
    let traces = ap (λ (x : WrittenCommon g.row.F.Denot g.row.Com.Denot). x.preprocessed) c.self.view_is in
    let t : false ≡ true = c.in_err-preprocessed.ensures.sure (traces ∙ none) in cc
