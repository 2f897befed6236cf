use Rattle.std.proofs.Common.{cond, map, ap}
use Rattle.p3_field.specs.Laws.TwoAdic.{decide_by}
use Rattle.prover_answer.specs.Batch.{batch_of}
use Rattle.law_honest.specs.HonestProof.{Prover}
use Rattle.prover_commits.proofs.Asked.{all_ready, as_many, one_each}
use Rattle.prover_commits.proofs.Whole.{all_made_until, columns_answer, terminals_answer, verdict}
use Rattle.prover_commits.proofs.columns.permutation_columns.Goals as goal

pub columns_for-requires-clause-challenges : goal.columns_for-requires-clause-challenges
columns_for-requires-clause-challenges g c =
    let a = c.args in
    let p : Prover g.row.SC-Val.Denot g.row.SC-Challenge.Denot g.row.SC-Pcs-Commitment.Denot = record { inverse = g.SC.Challenge.FieldCore.inv; canonical = g.SC.Val.PrimeCore64.canonical; commitment_of = g.SC-Pcs-UnivariateStarkPcs.commitment_of (g.SC.StarkGenericConfig.pcs_of a.config.now) } in
    as_many _ p g.A.BaseAir.declaration g.A.Air.trees a.instances.now a.common.now c.requires.traced c.requires.challenges.0 (λ v. v.items) a.challenges.now c.requires.challenges.2

pub columns_for-requires-clause-ready : goal.columns_for-requires-clause-ready
columns_for-requires-clause-ready g c =
    let a = c.args in
    let p : Prover g.row.SC-Val.Denot g.row.SC-Challenge.Denot g.row.SC-Pcs-Commitment.Denot = record { inverse = g.SC.Challenge.FieldCore.inv; canonical = g.SC.Val.PrimeCore64.canonical; commitment_of = g.SC-Pcs-UnivariateStarkPcs.commitment_of (g.SC.StarkGenericConfig.pcs_of a.config.now) } in
    all_ready _ p g.A.BaseAir.declaration g.A.Air.trees a.instances.now a.common.now c.requires.traced c.requires.challenges.0 g.met.A.BaseAir.has_columns
    (record {
      below = g.met.SC.Val.RingCore.ring_laws;
      below_field = g.met.SC.Val.FieldCore.field_laws;
      below_decided = decide_by _ g.met.SC.Val.FieldCore.eq_same g.met.SC.Val.FieldCore.same_eq;
      roots = g.met.SC.Val.TwoAdicCore.root_laws;
      above = g.met.SC.Challenge.RingCore.ring_laws;
      above_field = g.met.SC.Challenge.FieldCore.field_laws;
      above_decided = decide_by _ g.met.SC.Challenge.FieldCore.eq_same g.met.SC.Challenge.FieldCore.same_eq;
      embeds = g.met.SC.Challenge.ExtensionField.embed_laws;
      vector = g.met.SC.Challenge.BasedVectorSpace.vector_laws;
      spans = g.met.SC.Challenge.ExtensionField.basis_laws;
    })
    (ap (λ b. cond b 1 0) c.requires.plain) (map (λ v. v.items) a.challenges.now) c.requires.challenges.2

pub returns-clause-verdict : goal.returns-clause-verdict
returns-clause-verdict g c =
    let a = c.args in
    let p : Prover g.row.SC-Val.Denot g.row.SC-Challenge.Denot g.row.SC-Pcs-Commitment.Denot = record { inverse = g.SC.Challenge.FieldCore.inv; canonical = g.SC.Val.PrimeCore64.canonical; commitment_of = g.SC-Pcs-UnivariateStarkPcs.commitment_of (g.SC.StarkGenericConfig.pcs_of a.config.now) } in
    let n = one_each _ p g.A.BaseAir.declaration g.A.Air.trees a.instances.now a.common.now c.requires.traced c.requires.challenges.0 in
    verdict (batch_of _ p g.A.BaseAir.declaration g.A.Air.trees a.instances.now a.common.now) c.requires.traced (record { ones = g.met.SC.Val.PrimeCore64.of_canonical; below = g.met.SC.Val.PrimeCore64.canonical_below })
    (map (λ v. v.items) a.challenges.now) c.requires.challenges.0 c.requires.challenges.1 c.requires.challenges.2 c.columns_for.result (λ r. r.columns.items) (λ r. r.terminals.items)
    (all_made_until _ _ _ _ c.columns_for.result (λ r. r.columns.items) (λ r. r.terminals.items) c.columns_for.ensures n)

pub returns-clause-columns : goal.returns-clause-columns
returns-clause-columns g c =
    let a = c.args in
    let p : Prover g.row.SC-Val.Denot g.row.SC-Challenge.Denot g.row.SC-Pcs-Commitment.Denot = record { inverse = g.SC.Challenge.FieldCore.inv; canonical = g.SC.Val.PrimeCore64.canonical; commitment_of = g.SC-Pcs-UnivariateStarkPcs.commitment_of (g.SC.StarkGenericConfig.pcs_of a.config.now) } in
    let n = one_each _ p g.A.BaseAir.declaration g.A.Air.trees a.instances.now a.common.now c.requires.traced c.requires.challenges.0 in
    columns_answer (batch_of _ p g.A.BaseAir.declaration g.A.Air.trees a.instances.now a.common.now) c.requires.traced (record { ones = g.met.SC.Val.PrimeCore64.of_canonical; below = g.met.SC.Val.PrimeCore64.canonical_below })
    (map (λ v. v.items) a.challenges.now) c.requires.challenges.0 c.requires.challenges.1 c.requires.challenges.2 c.columns_for.result (λ r. r.columns.items) (λ r. r.terminals.items)
    (all_made_until _ _ _ _ c.columns_for.result (λ r. r.columns.items) (λ r. r.terminals.items) c.columns_for.ensures n)

pub returns-clause-terminals : goal.returns-clause-terminals
returns-clause-terminals g c =
    let a = c.args in
    let p : Prover g.row.SC-Val.Denot g.row.SC-Challenge.Denot g.row.SC-Pcs-Commitment.Denot = record { inverse = g.SC.Challenge.FieldCore.inv; canonical = g.SC.Val.PrimeCore64.canonical; commitment_of = g.SC-Pcs-UnivariateStarkPcs.commitment_of (g.SC.StarkGenericConfig.pcs_of a.config.now) } in
    let n = one_each _ p g.A.BaseAir.declaration g.A.Air.trees a.instances.now a.common.now c.requires.traced c.requires.challenges.0 in
    terminals_answer (batch_of _ p g.A.BaseAir.declaration g.A.Air.trees a.instances.now a.common.now) c.requires.traced (record { ones = g.met.SC.Val.PrimeCore64.of_canonical; below = g.met.SC.Val.PrimeCore64.canonical_below })
    (map (λ v. v.items) a.challenges.now) c.requires.challenges.0 c.requires.challenges.1 c.requires.challenges.2 c.columns_for.result (λ r. r.columns.items) (λ r. r.terminals.items)
    (all_made_until _ _ _ _ c.columns_for.result (λ r. r.columns.items) (λ r. r.terminals.items) c.columns_for.ensures n)
