use Rattle.std.proofs.Common.{map, sym, subst}
use Rattle.commit_core.specs.Commitments.{IsCommitment}
use Rattle.p3_field.specs.Laws.Checks.{none_append}
use Rattle.p3_lookup.specs.Written.{read_all}
use Rattle.batch_statement.specs.Statement.{WellFormed, read_common}
use Rattle.batch_setup.specs.Laws.Formed.{made_well_formed}
use Rattle.batch_setup.specs.Laws.Verdicts.{exits, refused_before, refused_after}
use Rattle.batch_setup.proofs.setup.tables_data.Goals as goal

pub returns-in_err-preprocessed-clause-verdict : goal.returns-in_err-preprocessed-clause-verdict
returns-in_err-preprocessed-clause-verdict g c = exits _ _ _ c.from_residual.ensures.1 (refused_before _ _ _ c.in_err-preprocessed.ensures.verdict)

pub returns-in_err-lookups-clause-verdict : goal.returns-in_err-lookups-clause-verdict
returns-in_err-lookups-clause-verdict g c =
    exits _ _ _ c.from_residual-in_err-lookups.ensures.1 (refused_after _ _ _ c.in_ok-preprocessed.ensures.verdict c.in_err-lookups.ensures.verdict)

pub returns-clause-verdict : goal.returns-clause-verdict
returns-clause-verdict g c = none_append _ _ c.in_ok-preprocessed.ensures.verdict c.in_ok-lookups.ensures.verdict

pub returns-clause-formed : goal.returns-clause-formed
returns-clause-formed g c =
    let a = c.args in
    let ds = map g.A.BaseAir.declaration a.airs.now in
    let pcs = g.SC.StarkGenericConfig.pcs_of a.config.now in
    subst (λ w. WellFormed ds (read_common w)) (sym c.new-common.ensures)
    (made_well_formed g.A.BaseAir.declaration g.A.Air.trees g.A.Air.interactions g.met.A.BaseAir.has_columns g.met.A.Air.interactions_read
    g.SC.Val.RingCore.ring.one g.SC.Val.RingCore.ring a.masks a.airs.now a.degree_bits.now a.budgets.now
    (λ es p. IsCommitment g.SC.Val.RingCore.ring g.bound-40.points g.bound-40.point_at (g.SC-Pcs-Pcs.commits pcs) (g.SC-Pcs-Pcs.made pcs) (g.SC-Pcs-Pcs.holds pcs) es p) c.in_ok-preprocessed.preprocessed c.in_ok-preprocessed.made_prover_data
    (map read_all c.in_ok-lookups.lookups.items) c.requires.widths c.in_ok-preprocessed.ensures.data c.in_ok-lookups.ensures.lookups)
