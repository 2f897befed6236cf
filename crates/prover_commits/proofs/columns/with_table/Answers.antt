use Rattle.std.proofs.Common.{◌<◌, [], length, get_or, map, sym, ◌∙◌, ap, arith}
use Rattle.std.proofs.lemmas.List.{get_or-map}
use Rattle.p3_matrix.specs.Matrix.{height}
use Rattle.law_honest.specs.HonestProof.{Prover}
use Rattle.prover_commits.proofs.Step.{added, fits, one_ready, power, refused, some_row, two_challenges}
use Rattle.prover_commits.proofs.Whole.{made_exit}
use Rattle.prover_commits.proofs.columns.with_table.Goals as goal

pub table_columns-requires-clause-some : goal.table_columns-requires-clause-some
table_columns-requires-clause-some g c =
    let a = c.args in
    let p : Prover g.row.SC-Val.Denot g.row.SC-Challenge.Denot g.row.SC-Pcs-Commitment.Denot = record { inverse = g.SC.Challenge.FieldCore.inv; canonical = g.SC.Val.PrimeCore64.canonical; commitment_of = g.SC-Pcs-UnivariateStarkPcs.commitment_of (g.SC.StarkGenericConfig.pcs_of a.config.now) } in
    let within : a.place < length a.challenges.now = let l = c.requires.within in let e = c.requires.challenges in omega (arith, l, e) in
    let lookups_are = c.as_slice-lookups.ensures ∙ (c.index.ensures ∙ ap (λ m. get_or m.lookups a.place c.index.result.now) c.common.view_is) in
    let own_is = c.deref.ensures.value ∙ (ap (λ v. v.items) c.index-challenges-place.is ∙ sym (get_or-map (λ v. v.items) a.challenges.now a.place c.index-challenges-place.result [] within)) in
    some_row _ p g.A.BaseAir.declaration g.A.Air.trees a.instances.now a.common.now (map (λ v. v.items) a.challenges.now) a.place c.requires.ready c.requires.within c.requires.lookups
    c.index-instances-place.result c.as_slice-lookups.result.now _ c.deref.result.now c.index-instances-place.is lookups_are own_is

pub table_columns-requires-clause-preprocessed : goal.table_columns-requires-clause-preprocessed
table_columns-requires-clause-preprocessed g c =
    let a = c.args in
    let p : Prover g.row.SC-Val.Denot g.row.SC-Challenge.Denot g.row.SC-Pcs-Commitment.Denot = record { inverse = g.SC.Challenge.FieldCore.inv; canonical = g.SC.Val.PrimeCore64.canonical; commitment_of = g.SC-Pcs-UnivariateStarkPcs.commitment_of (g.SC.StarkGenericConfig.pcs_of a.config.now) } in
    let within : a.place < length a.challenges.now = let l = c.requires.within in let e = c.requires.challenges in omega (arith, l, e) in
    let lookups_are = c.as_slice-lookups.ensures ∙ (c.index.ensures ∙ ap (λ m. get_or m.lookups a.place c.index.result.now) c.common.view_is) in
    let own_is = c.deref.ensures.value ∙ (ap (λ v. v.items) c.index-challenges-place.is ∙ sym (get_or-map (λ v. v.items) a.challenges.now a.place c.index-challenges-place.result [] within)) in
    let r = one_ready _ p g.A.BaseAir.declaration g.A.Air.trees a.instances.now a.common.now (map (λ v. v.items) a.challenges.now) a.place c.requires.ready c.requires.within c.requires.lookups
    c.index-instances-place.result c.as_slice-lookups.result.now _ c.deref.result.now c.index-instances-place.is lookups_are own_is in
    r.preprocessed

pub table_columns-requires-clause-lookups : goal.table_columns-requires-clause-lookups
table_columns-requires-clause-lookups g c =
    let a = c.args in
    let p : Prover g.row.SC-Val.Denot g.row.SC-Challenge.Denot g.row.SC-Pcs-Commitment.Denot = record { inverse = g.SC.Challenge.FieldCore.inv; canonical = g.SC.Val.PrimeCore64.canonical; commitment_of = g.SC-Pcs-UnivariateStarkPcs.commitment_of (g.SC.StarkGenericConfig.pcs_of a.config.now) } in
    let within : a.place < length a.challenges.now = let l = c.requires.within in let e = c.requires.challenges in omega (arith, l, e) in
    let lookups_are = c.as_slice-lookups.ensures ∙ (c.index.ensures ∙ ap (λ m. get_or m.lookups a.place c.index.result.now) c.common.view_is) in
    let own_is = c.deref.ensures.value ∙ (ap (λ v. v.items) c.index-challenges-place.is ∙ sym (get_or-map (λ v. v.items) a.challenges.now a.place c.index-challenges-place.result [] within)) in
    let r = one_ready _ p g.A.BaseAir.declaration g.A.Air.trees a.instances.now a.common.now (map (λ v. v.items) a.challenges.now) a.place c.requires.ready c.requires.within c.requires.lookups
    c.index-instances-place.result c.as_slice-lookups.result.now _ c.deref.result.now c.index-instances-place.is lookups_are own_is in
    r.lookups

pub table_columns-requires-clause-challenges : goal.table_columns-requires-clause-challenges
table_columns-requires-clause-challenges g c =
    let a = c.args in
    let p : Prover g.row.SC-Val.Denot g.row.SC-Challenge.Denot g.row.SC-Pcs-Commitment.Denot = record { inverse = g.SC.Challenge.FieldCore.inv; canonical = g.SC.Val.PrimeCore64.canonical; commitment_of = g.SC-Pcs-UnivariateStarkPcs.commitment_of (g.SC.StarkGenericConfig.pcs_of a.config.now) } in
    let within : a.place < length a.challenges.now = let l = c.requires.within in let e = c.requires.challenges in omega (arith, l, e) in
    let lookups_are = c.as_slice-lookups.ensures ∙ (c.index.ensures ∙ ap (λ m. get_or m.lookups a.place c.index.result.now) c.common.view_is) in
    let own_is = c.deref.ensures.value ∙ (ap (λ v. v.items) c.index-challenges-place.is ∙ sym (get_or-map (λ v. v.items) a.challenges.now a.place c.index-challenges-place.result [] within)) in
    two_challenges _ p g.A.BaseAir.declaration g.A.Air.trees a.instances.now a.common.now (map (λ v. v.items) a.challenges.now) a.place c.requires.ready c.requires.within c.requires.lookups
    c.index-instances-place.result c.as_slice-lookups.result.now _ c.deref.result.now c.index-instances-place.is lookups_are own_is

pub with_matrix-requires-clause-power : goal.with_matrix-requires-clause-power
with_matrix-requires-clause-power g c =
    let a = c.args in
    let p : Prover g.row.SC-Val.Denot g.row.SC-Challenge.Denot g.row.SC-Pcs-Commitment.Denot = record { inverse = g.SC.Challenge.FieldCore.inv; canonical = g.SC.Val.PrimeCore64.canonical; commitment_of = g.SC-Pcs-UnivariateStarkPcs.commitment_of (g.SC.StarkGenericConfig.pcs_of a.config.now) } in
    let within : a.place < length a.challenges.now = let l = c.requires.within in let e = c.requires.challenges in omega (arith, l, e) in
    let lookups_are = c.as_slice-lookups.ensures ∙ (c.index.ensures ∙ ap (λ m. get_or m.lookups a.place c.index.result.now) c.common.view_is) in
    let own_is = c.deref.ensures.value ∙ (ap (λ v. v.items) c.index-challenges-place.is ∙ sym (get_or-map (λ v. v.items) a.challenges.now a.place c.index-challenges-place.result [] within)) in
    power _ p g.A.BaseAir.declaration g.A.Air.trees a.instances.now a.common.now (map (λ v. v.items) a.challenges.now) a.place c.requires.ready c.requires.within c.requires.lookups
    c.index-instances-place.result c.as_slice-lookups.result.now _ c.deref.result.now c.index-instances-place.is lookups_are own_is c.height.result (c.height.ensures.result ∙ ap (λ i. height i.trace) c.instance.view_is)

pub with_matrix-requires-clause-fits : goal.with_matrix-requires-clause-fits
with_matrix-requires-clause-fits g c =
    let a = c.args in
    let p : Prover g.row.SC-Val.Denot g.row.SC-Challenge.Denot g.row.SC-Pcs-Commitment.Denot = record { inverse = g.SC.Challenge.FieldCore.inv; canonical = g.SC.Val.PrimeCore64.canonical; commitment_of = g.SC-Pcs-UnivariateStarkPcs.commitment_of (g.SC.StarkGenericConfig.pcs_of a.config.now) } in
    let within : a.place < length a.challenges.now = let l = c.requires.within in let e = c.requires.challenges in omega (arith, l, e) in
    let lookups_are = c.as_slice-lookups.ensures ∙ (c.index.ensures ∙ ap (λ m. get_or m.lookups a.place c.index.result.now) c.common.view_is) in
    let own_is = c.deref.ensures.value ∙ (ap (λ v. v.items) c.index-challenges-place.is ∙ sym (get_or-map (λ v. v.items) a.challenges.now a.place c.index-challenges-place.result [] within)) in
    fits _ p g.A.BaseAir.declaration g.A.Air.trees a.instances.now a.common.now (map (λ v. v.items) a.challenges.now) a.place c.requires.ready c.requires.within c.requires.lookups
    c.index-instances-place.result c.as_slice-lookups.result.now _ c.deref.result.now c.index-instances-place.is lookups_are own_is c.height.result (c.height.ensures.result ∙ ap (λ i. height i.trace) c.instance.view_is)

pub returns-in_err-matrix : goal.returns-in_err-matrix
returns-in_err-matrix g c =
    let a = c.args in
    let p : Prover g.row.SC-Val.Denot g.row.SC-Challenge.Denot g.row.SC-Pcs-Commitment.Denot = record { inverse = g.SC.Challenge.FieldCore.inv; canonical = g.SC.Val.PrimeCore64.canonical; commitment_of = g.SC-Pcs-UnivariateStarkPcs.commitment_of (g.SC.StarkGenericConfig.pcs_of a.config.now) } in
    let within : a.place < length a.challenges.now = let l = c.requires.within in let e = c.requires.challenges in omega (arith, l, e) in
    let lookups_are = c.as_slice-lookups.ensures ∙ (c.index.ensures ∙ ap (λ m. get_or m.lookups a.place c.index.result.now) c.common.view_is) in
    let own_is = c.deref.ensures.value ∙ (ap (λ v. v.items) c.index-challenges-place.is ∙ sym (get_or-map (λ v. v.items) a.challenges.now a.place c.index-challenges-place.result [] within)) in
    made_exit _ _ _ a.place _ _ (λ r. r.columns.items) (λ r. r.terminals.items) c.from_residual.ensures.1
    (refused _ p g.A.BaseAir.declaration g.A.Air.trees a.instances.now a.common.now (map (λ v. v.items) a.challenges.now) a.place c.requires.ready c.requires.within c.requires.lookups
    c.index-instances-place.result c.as_slice-lookups.result.now _ c.deref.result.now c.index-instances-place.is lookups_are own_is _ c.requires.made.fractions c.in_err-matrix.ensures)

pub returns : goal.returns
returns g c =
    let a = c.args in
    let p : Prover g.row.SC-Val.Denot g.row.SC-Challenge.Denot g.row.SC-Pcs-Commitment.Denot = record { inverse = g.SC.Challenge.FieldCore.inv; canonical = g.SC.Val.PrimeCore64.canonical; commitment_of = g.SC-Pcs-UnivariateStarkPcs.commitment_of (g.SC.StarkGenericConfig.pcs_of a.config.now) } in
    let within : a.place < length a.challenges.now = let l = c.requires.within in let e = c.requires.challenges in omega (arith, l, e) in
    let lookups_are = c.as_slice-lookups.ensures ∙ (c.index.ensures ∙ ap (λ m. get_or m.lookups a.place c.index.result.now) c.common.view_is) in
    let own_is = c.deref.ensures.value ∙ (ap (λ v. v.items) c.index-challenges-place.is ∙ sym (get_or-map (λ v. v.items) a.challenges.now a.place c.index-challenges-place.result [] within)) in
    added _ p g.A.BaseAir.declaration g.A.Air.trees a.instances.now a.common.now (map (λ v. v.items) a.challenges.now) a.place c.requires.ready c.requires.within c.requires.lookups
    c.index-instances-place.result c.as_slice-lookups.result.now _ c.deref.result.now c.index-instances-place.is lookups_are own_is a.made.columns.items _ a.made.terminals.items _ c.in_ok-matrix.matrix c.in_ok-matrix.terminal c.height.result (c.height.ensures.result ∙ ap (λ i. height i.trace) c.instance.view_is)
    c.requires.made c.in_ok-matrix.ensures c.in_ok-columns.ensures c.in_ok-push.ensures.items
