use Rattle.std.proofs.Common.{map, sym, subst, IsTrue}
use Rattle.std.specs.Prelude.{◌↔◌, Option}
use Rattle.batch_statement.specs.Statement.{PreprocessedTracesData}
use Rattle.batch_statement.specs.Fitting.{FitsPreprocessed}
use Rattle.batch_statement.proofs.entries.preprocessed_fits.Goals as goal

pub returns-in-None-clause-fits : goal.returns-in-None-clause-fits
returns-in-None-clause-fits g c =
    let P : Option (PreprocessedTracesData g.row.Com.Denot) → Type 0 = λ p. IsTrue c.have_no_columns.result ↔ FitsPreprocessed (map g.A.BaseAir.declaration c.args.airs.now) p c.args.n in
    subst P (sym c.in-None.is)
    ((λ h. record { entries = c.have_no_columns.ensures.0 h; listed = tt; places = λ k lt. tt }), λ h. c.have_no_columns.ensures.1 h.entries)
