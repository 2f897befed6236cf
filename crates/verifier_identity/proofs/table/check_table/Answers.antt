use Rattle.std.proofs.Common.{◌^◌, [], length, ◌∙◌, ap}
use Rattle.std.specs.Prelude.{unwrap_or}
use Rattle.std.proofs.lemmas.List.{length-map}
use Rattle.p3_field.specs.Domain.{CosetData}
use Rattle.p3_field.specs.Field.{TwoAdic, Extension}
use Rattle.p3_lookup.specs.Written.{read, read_all}
use Rattle.verifier_identity.specs.VerifierData.{identity_opened_of}
use Rattle.batch_statement.specs.Statement.{AirTable}
use Rattle.verifier_shape.specs.Laws.Verdicts.{exits}
use Rattle.verifier_shape.specs.ShapeChecks.{permutation_width}
use Rattle.batch_statement.specs.Words.{is_there}
use Rattle.verifier_identity.proofs.Lengths.{chunks_are, rows_are}
use Rattle.verifier_identity.proofs.OneTable.{all_are_opened, columns_refused, decided}
use Rattle.verifier_identity.proofs.TerminalValues.{held_values}
use Rattle.verifier_identity.proofs.table.check_table.Goals as goal

pub returns-in_err-columns : goal.returns-in_err-columns
returns-in_err-columns g c =
    let f : TwoAdic g.row.F.Denot = record { ring = g.F.RingCore.ring; inv = g.F.FieldCore.inv; root = g.F.TwoAdicCore.root; generator = g.F.FieldCore.GENERATOR } in
    let e : Extension g.row.F.Denot g.row.E.Denot = record { ring = g.E.RingCore.ring; embed = g.E.ExtensionField.embed; dimension = g.E.BasedVectorSpace.DIMENSION; basis = g.E.ExtensionField.basis; coefficients = g.E.BasedVectorSpace.coefficients; from_coefficients = g.E.BasedVectorSpace.from_coefficients } in
    let a = c.args in
    let d = g.A.BaseAir.declaration a.air.now in
    let t : AirTable g.row.F.Denot = record { declaration = d; trees = g.A.Air.trees a.air.now } in
    exits _ _ _ c.from_residual.ensures.1 (
    columns_refused g.row.R.Denot f e a.index a.log_height t a.lookups.now a.public_values.now a.challenges.now a.terminal.now a.domains.now a.alpha a.zeta a.opened.now
    c.size.result _ (c.size.ensures ∙ ap (λ (x : CosetData g.row.F.Denot). 2 ^ x.log_size) c.rows_domain-domain.ensures) c.in_err-columns.ensures.decided
    )

pub made_rows-requires-clause-local : goal.made_rows-requires-clause-local
made_rows-requires-clause-local g c =
    let a = c.args in
    let d = g.A.BaseAir.declaration a.air.now in
    (rows_are g.row.R.Denot a.index d (length a.public_values.now) (length a.domains.now) g.E.BasedVectorSpace.DIMENSION (length (read_all a.lookups.now)) a.opened.now (is_there a.terminal.now) c.requires.shape).0
    ∙ ap (λ n. permutation_width n g.E.BasedVectorSpace.DIMENSION) (length-map a.lookups.now read)

pub made_rows-requires-clause-next : goal.made_rows-requires-clause-next
made_rows-requires-clause-next g c =
    let a = c.args in
    let d = g.A.BaseAir.declaration a.air.now in
    (rows_are g.row.R.Denot a.index d (length a.public_values.now) (length a.domains.now) g.E.BasedVectorSpace.DIMENSION (length (read_all a.lookups.now)) a.opened.now (is_there a.terminal.now) c.requires.shape).1
    ∙ ap (λ n. permutation_width n g.E.BasedVectorSpace.DIMENSION) (length-map a.lookups.now read)

pub quotient_at-quotient-requires-clause-count : goal.quotient_at-quotient-requires-clause-count
quotient_at-quotient-requires-clause-count g c =
    let a = c.args in
    let d = g.A.BaseAir.declaration a.air.now in
    (chunks_are g.row.R.Denot a.index d (length a.public_values.now) (length a.domains.now) g.E.BasedVectorSpace.DIMENSION (length (read_all a.lookups.now)) a.opened.now (is_there a.terminal.now) c.requires.shape).0

pub quotient_at-quotient-requires-clause-dimension : goal.quotient_at-quotient-requires-clause-dimension
quotient_at-quotient-requires-clause-dimension g c =
    let a = c.args in
    let d = g.A.BaseAir.declaration a.air.now in
    (chunks_are g.row.R.Denot a.index d (length a.public_values.now) (length a.domains.now) g.E.BasedVectorSpace.DIMENSION (length (read_all a.lookups.now)) a.opened.now (is_there a.terminal.now) c.requires.shape).1

pub decide-requires : goal.decide-requires
decide-requires g c =
    let f : TwoAdic g.row.F.Denot = record { ring = g.F.RingCore.ring; inv = g.F.FieldCore.inv; root = g.F.TwoAdicCore.root; generator = g.F.FieldCore.GENERATOR } in
    let e : Extension g.row.F.Denot g.row.E.Denot = record { ring = g.E.RingCore.ring; embed = g.E.ExtensionField.embed; dimension = g.E.BasedVectorSpace.DIMENSION; basis = g.E.ExtensionField.basis; coefficients = g.E.BasedVectorSpace.coefficients; from_coefficients = g.E.BasedVectorSpace.from_coefficients } in
    let a = c.args in
    let d = g.A.BaseAir.declaration a.air.now in
    let t : AirTable g.row.F.Denot = record { declaration = d; trees = g.A.Air.trees a.air.now } in
    let v = c.table_data-given.result in
    let k = c.table_data-given.ensures in
    all_are_opened g.row.R.Denot f e a.index a.log_height t a.lookups.now a.public_values.now a.challenges.now a.terminal.now a.domains.now a.alpha a.zeta a.opened.now
    c.rows_domain-domain.result c.values_in.result.now c.rows_domain-domain.ensures
    (c.values_in.ensures ∙ (ap (λ h. unwrap_or h []) c.held_terminal-held.ensures ∙ held_values a.terminal.now)) (identity_opened_of v) k.opened v.lookups.now k.lookups
    (g.met.A.BaseAir.next_below a.air.now) (g.met.A.BaseAir.preprocessed_next_below a.air.now) c.requires.reads c.requires.shape c.requires.challenges

pub returns : goal.returns
returns g c =
    let f : TwoAdic g.row.F.Denot = record { ring = g.F.RingCore.ring; inv = g.F.FieldCore.inv; root = g.F.TwoAdicCore.root; generator = g.F.FieldCore.GENERATOR } in
    let e : Extension g.row.F.Denot g.row.E.Denot = record { ring = g.E.RingCore.ring; embed = g.E.ExtensionField.embed; dimension = g.E.BasedVectorSpace.DIMENSION; basis = g.E.ExtensionField.basis; coefficients = g.E.BasedVectorSpace.coefficients; from_coefficients = g.E.BasedVectorSpace.from_coefficients } in
    let a = c.args in
    let d = g.A.BaseAir.declaration a.air.now in
    let t : AirTable g.row.F.Denot = record { declaration = d; trees = g.A.Air.trees a.air.now } in
    let v = c.table_data-given.result in
    let k = c.table_data-given.ensures in
    decided g.row.R.Denot f e a.index a.log_height t a.lookups.now a.public_values.now a.challenges.now a.terminal.now a.domains.now a.alpha a.zeta a.opened.now
    c.rows_domain-domain.result c.values_in.result.now c.rows_domain-domain.ensures
    (c.values_in.ensures ∙ (ap (λ h. unwrap_or h []) c.held_terminal-held.ensures ∙ held_values a.terminal.now)) (identity_opened_of v) k.opened
    c.size.result v.trace_domain v.alpha v.zeta v.lookups.now v.quotient c.decide.result
    (c.size.ensures ∙ ap (λ (x : CosetData g.row.F.Denot). 2 ^ x.log_size) c.rows_domain-domain.ensures)
    k.domain k.alpha k.zeta k.lookups (k.quotient ∙ c.quotient_at-quotient.ensures) c.in_ok-columns.ensures.decided c.decide.ensures
