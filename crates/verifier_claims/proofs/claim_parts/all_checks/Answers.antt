use Rattle.std.proofs.Common.{sym, ◌∙◌, subst, ◌<◌}
use Rattle.std.proofs.lemmas.List.{length-map}
use Rattle.p3_field.specs.Laws.Checks.{none_until}
use Rattle.verifier_shape.specs.Laws.Verdicts.{exits_decided}
use Rattle.verifier_shape.specs.ShapeChecks.{HasEntries}
use Rattle.verifier_claims.specs.Claims.{claimed_of}
use Rattle.verifier_claims.proofs.Made.{decided_until, fails_until, first_lists, part_counts, part_first, part_matrices, part_rows, part_sizes, sizes_at}
use Rattle.verifier_claims.proofs.claim_parts.all_checks.Goals as goal

pub returns-in_err-first_checks : goal.returns-in_err-first_checks
returns-in_err-first_checks g c =
    let a = c.args in
    let q = claimed_of g.A.BaseAir.declaration a.airs.now a.preprocessed.now a.commitments.now a.instances.now a.degree_bits.now a.log_chunks.now in
    let two = g.F.TwoAdicCore.TWO_ADICITY in
    exits_decided _ _ _ c.from_residual.ensures.1 (part_first a.masks a.least a.most two q a.widths.now _ c.in_err-first_checks.ensures)

pub all_sizes-requires : goal.all_sizes-requires
all_sizes-requires g c =
    let a = c.args in
    let q = claimed_of g.A.BaseAir.declaration a.airs.now a.preprocessed.now a.commitments.now a.instances.now a.degree_bits.now a.log_chunks.now in
    let A = c.in_ok-first_checks.ensures in
    let L = first_lists g.row.R.Denot a.least a.most q a.widths.now A in
    L.chunks_fit ∙ sym L.degree_bits_fit

pub returns-in_err-all_sizes : goal.returns-in_err-all_sizes
returns-in_err-all_sizes g c =
    let a = c.args in
    let q = claimed_of g.A.BaseAir.declaration a.airs.now a.preprocessed.now a.commitments.now a.instances.now a.degree_bits.now a.log_chunks.now in
    let two = g.F.TwoAdicCore.TWO_ADICITY in
    let A = c.in_ok-first_checks.ensures in
    let L = first_lists g.row.R.Denot a.least a.most q a.widths.now A in
    exits_decided _ _ _ c.from_residual-in_err-all_sizes.ensures.1 (part_sizes a.masks a.least a.most two q a.widths.now _ A (fails_until _ _ _ _ L.degree_bits_fit c.in_err-all_sizes.ensures))

pub all_counts-requires-clause-instances : goal.all_counts-requires-clause-instances
all_counts-requires-clause-instances g c =
    let a = c.args in
    let q = claimed_of g.A.BaseAir.declaration a.airs.now a.preprocessed.now a.commitments.now a.instances.now a.degree_bits.now a.log_chunks.now in
    let A = c.in_ok-first_checks.ensures in
    let L = first_lists g.row.R.Denot a.least a.most q a.widths.now A in
    L.instances_fit ∙ sym L.chunks_fit

pub all_counts-requires-clause-fits : goal.all_counts-requires-clause-fits
all_counts-requires-clause-fits g c =
    let a = c.args in
    let q = claimed_of g.A.BaseAir.declaration a.airs.now a.preprocessed.now a.commitments.now a.instances.now a.degree_bits.now a.log_chunks.now in
    let two = g.F.TwoAdicCore.TWO_ADICITY in
    let A = c.in_ok-first_checks.ensures in
    let L = first_lists g.row.R.Denot a.least a.most q a.widths.now A in
    let S = none_until _ _ _ L.degree_bits_fit c.in_ok-all_sizes.ensures in
    λ i l. (sizes_at g.row.R.Denot a.masks a.most two q S i (subst (λ m. i < m) L.chunks_fit l)).0

pub returns-in_err-all_counts : goal.returns-in_err-all_counts
returns-in_err-all_counts g c =
    let a = c.args in
    let q = claimed_of g.A.BaseAir.declaration a.airs.now a.preprocessed.now a.commitments.now a.instances.now a.degree_bits.now a.log_chunks.now in
    let two = g.F.TwoAdicCore.TWO_ADICITY in
    let A = c.in_ok-first_checks.ensures in
    let L = first_lists g.row.R.Denot a.least a.most q a.widths.now A in
    let S = none_until _ _ _ L.degree_bits_fit c.in_ok-all_sizes.ensures in
    exits_decided _ _ _ c.from_residual-in_err-all_counts.ensures.1 (part_counts a.masks a.least a.most two q a.widths.now _ A S (fails_until _ _ _ _ L.chunks_fit c.in_err-all_counts.ensures))

pub all_matrices-requires-clause-entries : goal.all_matrices-requires-clause-entries
all_matrices-requires-clause-entries g c =
    let a = c.args in
    let q = claimed_of g.A.BaseAir.declaration a.airs.now a.preprocessed.now a.commitments.now a.instances.now a.degree_bits.now a.log_chunks.now in
    let len = sym (length-map a.airs.now g.A.BaseAir.declaration) in
    let A = c.in_ok-first_checks.ensures in
    let L = first_lists g.row.R.Denot a.least a.most q a.widths.now A in
    subst (λ n. HasEntries n a.preprocessed.now) (sym len) L.entries_fit

pub all_matrices-requires-clause-bits : goal.all_matrices-requires-clause-bits
all_matrices-requires-clause-bits g c =
    let a = c.args in
    let q = claimed_of g.A.BaseAir.declaration a.airs.now a.preprocessed.now a.commitments.now a.instances.now a.degree_bits.now a.log_chunks.now in
    let len = sym (length-map a.airs.now g.A.BaseAir.declaration) in
    let A = c.in_ok-first_checks.ensures in
    let L = first_lists g.row.R.Denot a.least a.most q a.widths.now A in
    L.degree_bits_fit ∙ sym len

pub all_matrices-requires-clause-widths : goal.all_matrices-requires-clause-widths
all_matrices-requires-clause-widths g c =
    let a = c.args in
    let q = claimed_of g.A.BaseAir.declaration a.airs.now a.preprocessed.now a.commitments.now a.instances.now a.degree_bits.now a.log_chunks.now in
    let len = sym (length-map a.airs.now g.A.BaseAir.declaration) in
    let A = c.in_ok-first_checks.ensures in
    let L = first_lists g.row.R.Denot a.least a.most q a.widths.now A in
    L.widths_fit ∙ sym len

pub all_matrices-requires-clause-instances : goal.all_matrices-requires-clause-instances
all_matrices-requires-clause-instances g c =
    let a = c.args in
    let q = claimed_of g.A.BaseAir.declaration a.airs.now a.preprocessed.now a.commitments.now a.instances.now a.degree_bits.now a.log_chunks.now in
    let len = sym (length-map a.airs.now g.A.BaseAir.declaration) in
    let A = c.in_ok-first_checks.ensures in
    let L = first_lists g.row.R.Denot a.least a.most q a.widths.now A in
    L.instances_fit ∙ sym len

pub returns-in_err-all_matrices : goal.returns-in_err-all_matrices
returns-in_err-all_matrices g c =
    let a = c.args in
    let q = claimed_of g.A.BaseAir.declaration a.airs.now a.preprocessed.now a.commitments.now a.instances.now a.degree_bits.now a.log_chunks.now in
    let two = g.F.TwoAdicCore.TWO_ADICITY in
    let A = c.in_ok-first_checks.ensures in
    let L = first_lists g.row.R.Denot a.least a.most q a.widths.now A in
    let S = none_until _ _ _ L.degree_bits_fit c.in_ok-all_sizes.ensures in
    let C = none_until _ _ _ L.chunks_fit c.in_ok-all_counts.ensures in
    exits_decided _ _ _ c.from_residual-in_err-all_matrices.ensures.1 (part_matrices a.masks a.least a.most two q a.widths.now _ A S C c.in_err-all_matrices.ensures)

pub returns : goal.returns
returns g c =
    let a = c.args in
    let q = claimed_of g.A.BaseAir.declaration a.airs.now a.preprocessed.now a.commitments.now a.instances.now a.degree_bits.now a.log_chunks.now in
    let two = g.F.TwoAdicCore.TWO_ADICITY in
    let A = c.in_ok-first_checks.ensures in
    let L = first_lists g.row.R.Denot a.least a.most q a.widths.now A in
    let S = none_until _ _ _ L.degree_bits_fit c.in_ok-all_sizes.ensures in
    let C = none_until _ _ _ L.chunks_fit c.in_ok-all_counts.ensures in
    part_rows a.masks a.least a.most two q a.widths.now _ A S C c.in_ok-all_matrices.ensures (decided_until _ _ _ _ L.instances_fit c.rows_where.ensures)
