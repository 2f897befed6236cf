use Rattle.std.proofs.Common.{None, Some, length, map, sym, ◌∙◌, ap}
use Rattle.std.proofs.lemmas.List.{length-map}
use Rattle.p3_field.specs.Laws.Tabulate.{length-tabulate}
use Rattle.batch_statement.specs.Statement.{AirTable, statement_with, tables_of}
use Rattle.audit_batch.specs.Laws.Naming.{after_none_of}
use Rattle.audit_batch.proofs.Each.{claims_by_lists, entries_here, listed_here}
use Rattle.audit_batch.proofs.Played.{counts_here}
use Rattle.audit_batch.proofs.claims.name_claims.Goals as goal

pub name_domains-requires : goal.name_domains-requires
name_domains-requires g c =
    let a = c.args in
    let s = statement_with (tables_of g.A.BaseAir.declaration g.A.Air.trees a.airs.now) (map (λ v. v.items) a.public_values.now) a.common.now in
    let n = length-map {B = AirTable g.row.SC-Val.Denot} a.airs.now (λ x. record { declaration = g.A.BaseAir.declaration x; trees = g.A.Air.trees x }) in
    let k = counts_here g.row.SC-Pcs-Error.Denot _ _ s a.proof.now c.requires.shape in
    let bits = c.deref.ensures.value ∙ ap (λ x. x.degree_bits) c.proof.view_is in
    ap length c.requires.chunks ∙ length-tabulate (length a.airs.now) _ ∙ sym (ap length bits ∙ k.degree_bits ∙ n)

pub name_metadata-requires-clause-listed : goal.name_metadata-requires-clause-listed
name_metadata-requires-clause-listed g c =
    let a = c.args in
    let s = statement_with (tables_of g.A.BaseAir.declaration g.A.Air.trees a.airs.now) (map (λ v. v.items) a.public_values.now) a.common.now in
    let n = length-map {B = AirTable g.row.SC-Val.Denot} a.airs.now (λ x. record { declaration = g.A.BaseAir.declaration x; trees = g.A.Air.trees x }) in
    let k = counts_here g.row.SC-Pcs-Error.Denot _ _ s a.proof.now c.requires.shape in
    let bits = c.deref-in-Some.ensures.value ∙ ap (λ x. x.degree_bits) c.proof.view_is in
    let traces = sym (ap (λ x. x.preprocessed) c.common.view_is) ∙ c.in-Some.is in
    listed_here (map g.A.BaseAir.declaration a.airs.now) a.common.now (length a.airs.now) _ c.in-Some.traces c.requires.formed (length-map a.airs.now g.A.BaseAir.declaration)
    (ap length bits ∙ k.degree_bits ∙ n) traces

pub name_metadata-requires-clause-entries : goal.name_metadata-requires-clause-entries
name_metadata-requires-clause-entries g c =
    let a = c.args in
    let s = statement_with (tables_of g.A.BaseAir.declaration g.A.Air.trees a.airs.now) (map (λ v. v.items) a.public_values.now) a.common.now in
    let k = counts_here g.row.SC-Pcs-Error.Denot _ _ s a.proof.now c.requires.shape in
    let bits = c.deref-in-Some.ensures.value ∙ ap (λ x. x.degree_bits) c.proof.view_is in
    let traces = sym (ap (λ x. x.preprocessed) c.common.view_is) ∙ c.in-Some.is in
    entries_here (length s.tables) _ a.common.now.preprocessed c.in-Some.traces k.entries (ap length bits ∙ k.degree_bits) traces

pub returns-in-None : goal.returns-in-None
returns-in-None g c =
    let a = c.args in
    let s = statement_with (tables_of g.A.BaseAir.declaration g.A.Air.trees a.airs.now) (map (λ v. v.items) a.public_values.now) a.common.now in
    let n = length-map {B = AirTable g.row.SC-Val.Denot} a.airs.now (λ x. record { declaration = g.A.BaseAir.declaration x; trees = g.A.Air.trees x }) in
    let k = counts_here g.row.SC-Pcs-Error.Denot _ _ s a.proof.now c.requires.shape in
    let bits = c.deref.ensures.value ∙ ap (λ x. x.degree_bits) c.proof.view_is in
    let traces = sym c.in-None.is ∙ ap (λ x. x.preprocessed) c.common.view_is in
    claims_by_lists (length a.airs.now) (length s.tables) _ _ a.proof.now.degree_bits _ _ _ _ _ None a.common.now.preprocessed _ _ _ n k.degree_bits bits bits c.requires.chunks (ap (λ x. x.most) c.shape_bounds-most.ensures.bounds) traces
    c.in_ok-name_domains.ensures (after_none_of _ _)

pub returns-in_ok-name_metadata-in-Some : goal.returns-in_ok-name_metadata-in-Some
returns-in_ok-name_metadata-in-Some g c =
    let a = c.args in
    let s = statement_with (tables_of g.A.BaseAir.declaration g.A.Air.trees a.airs.now) (map (λ v. v.items) a.public_values.now) a.common.now in
    let n = length-map {B = AirTable g.row.SC-Val.Denot} a.airs.now (λ x. record { declaration = g.A.BaseAir.declaration x; trees = g.A.Air.trees x }) in
    let k = counts_here g.row.SC-Pcs-Error.Denot _ _ s a.proof.now c.requires.shape in
    let bits = c.deref.ensures.value ∙ ap (λ x. x.degree_bits) c.proof.view_is in
    let again = c.deref-in-Some.ensures.value ∙ ap (λ x. x.degree_bits) c.proof.view_is in
    let traces = sym c.in-Some.is ∙ ap (λ x. x.preprocessed) c.common.view_is in
    claims_by_lists (length a.airs.now) (length s.tables) _ _ a.proof.now.degree_bits _ _ _ _ _ (Some c.in-Some.traces) a.common.now.preprocessed _ _ _ n k.degree_bits bits again c.requires.chunks (ap (λ x. x.most) c.shape_bounds-most.ensures.bounds) traces
    c.in_ok-name_domains.ensures c.in_ok-name_metadata-in-Some.ensures
