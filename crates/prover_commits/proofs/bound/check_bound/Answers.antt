use Rattle.std.proofs.Common.{◌∙◌, ap}
use Rattle.law_honest.specs.HonestProof.{Prover}
use Rattle.prover_commits.proofs.Bounds.{listed, passes, refused}
use Rattle.prover_commits.proofs.bound.check_bound.Goals as goal

pub check_multiplicity_height_bound-requires : goal.check_multiplicity_height_bound-requires
check_multiplicity_height_bound-requires g c =
    let p : Prover g.row.SC-Val.Denot g.row.SC-Challenge.Denot g.row.SC-Pcs-Commitment.Denot = record { inverse = g.SC.Challenge.FieldCore.inv; canonical = g.SC.Val.PrimeCore64.canonical; commitment_of = g.SC-Pcs-UnivariateStarkPcs.commitment_of (g.SC.StarkGenericConfig.pcs_of c.args.config.now) } in
    listed g.row.SC-Pcs-ProverError.Denot _ p g.A.BaseAir.declaration g.A.Air.trees c.args.instances.now c.args.common.now c.requires _ _
    (c.deref.ensures.value ∙ ap (λ m. m.lookups) c.common.view_is) (c.deref-2.ensures.value ∙ c.in_ok-heights.ensures)

pub returns-in-Ok : goal.returns-in-Ok
returns-in-Ok g c =
    let p : Prover g.row.SC-Val.Denot g.row.SC-Challenge.Denot g.row.SC-Pcs-Commitment.Denot = record { inverse = g.SC.Challenge.FieldCore.inv; canonical = g.SC.Val.PrimeCore64.canonical; commitment_of = g.SC-Pcs-UnivariateStarkPcs.commitment_of (g.SC.StarkGenericConfig.pcs_of c.args.config.now) } in
    passes g.row.SC-Pcs-ProverError.Denot _ p g.A.BaseAir.declaration g.A.Air.trees c.args.instances.now c.args.common.now c.requires _ _
    (c.deref.ensures.value ∙ ap (λ m. m.lookups) c.common.view_is) (c.deref-2.ensures.value ∙ c.in_ok-heights.ensures) c.in-Ok.ensures

pub returns-in-Err-MultiplicityBound : goal.returns-in-Err-MultiplicityBound
returns-in-Err-MultiplicityBound g c =
    let p : Prover g.row.SC-Val.Denot g.row.SC-Challenge.Denot g.row.SC-Pcs-Commitment.Denot = record { inverse = g.SC.Challenge.FieldCore.inv; canonical = g.SC.Val.PrimeCore64.canonical; commitment_of = g.SC-Pcs-UnivariateStarkPcs.commitment_of (g.SC.StarkGenericConfig.pcs_of c.args.config.now) } in
    let e = c.in-Err-MultiplicityBound in
    refused g.row.SC-Pcs-ProverError.Denot _ p g.A.BaseAir.declaration g.A.Air.trees c.args.instances.now c.args.common.now c.requires _ _
    (c.deref.ensures.value ∙ ap (λ m. m.lookups) c.common.view_is) (c.deref-2.ensures.value ∙ c.in_ok-heights.ensures) e.bus (rw e.field-0-is at e.ensures)
