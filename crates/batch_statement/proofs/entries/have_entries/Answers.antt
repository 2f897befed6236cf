use Rattle.std.proofs.Common.{ℕ, ◌<◌, length, get_or, None, refl, sym, ◌∙◌, subst, arith}
use Rattle.air_core.specs.Shape.{Declaration, width_of}
use Rattle.air_core.specs.Laws.Reads.{not_true}
use Rattle.batch_statement.specs.Statement.{HasEntryOf}
use Rattle.batch_statement.proofs.Turns.{place_more, at_place}
use Rattle.batch_statement.proofs.entries.have_entries.Goals as goal

pub returns-then-not-is_entry_of : goal.returns-then-not-is_entry_of
returns-then-not-is_entry_of g c =
    let i = c.loop-i.i in
    let within : i < length c.args.airs.now = omega arith in
    let P : ℕ → Declaration g.row.F.Denot → Type 0 = λ k d. HasEntryOf (width_of d.preprocessed) (get_or c.args.entries.now k None) in
    let Q : ℕ → Type 0 = λ w. HasEntryOf w (get_or c.args.entries.now i None) in (
      (λ h. absurd (not_true h)),
      λ h. sym c.if-not-is_entry_of.true ∙ c.is_entry_of.ensures.1 (subst Q (sym c.preprocessed_width.ensures) (at_place g.A.BaseAir.declaration P c.args.airs.now i c.args.n c.index-airs-i.result c.loop-i-test.true within c.index-airs-i.is h)),
    )

pub loop-i-preserved : goal.loop-i-preserved
loop-i-preserved g c =
    let i = c.loop-i.i in
    let within : i < length c.args.airs.now = omega arith in
    let P : ℕ → Declaration g.row.F.Denot → Type 0 = λ k d. HasEntryOf (width_of d.preprocessed) (get_or c.args.entries.now k None) in
    let Q : ℕ → Type 0 = λ w. HasEntryOf w (get_or c.args.entries.now i None) in
    place_more g.A.BaseAir.declaration P c.args.airs.now i c.index-airs-i.result within c.index-airs-i.is c.loop-i.invariant
    (subst Q c.preprocessed_width.ensures (c.is_entry_of.ensures.0 c.if-not-is_entry_of.false))

pub returns : goal.returns
returns g c = ((λ h k lt. c.loop-i.invariant k (omega arith)), λ h. refl)
