use Rattle.std.proofs.Common.{length, sym, ◌∙◌, subst}
use Rattle.std.proofs.lemmas.List.{length-map}
use Rattle.p3_field.specs.Checks.{FirstFails, NoneFails}
use Rattle.p3_field.specs.Laws.Checks.{none_until}
use Rattle.verifier_shape.specs.Laws.Verdicts.{exits_decided}
use Rattle.verifier_claims.specs.ClaimChecks.{listed_check}
use Rattle.verifier_claims.specs.Claims.{claimed_of}
use Rattle.verifier_claims.proofs.Made.{decided_until, fails_until, lists_fit, made_bits, made_listed, made_nexts, made_random}
use Rattle.verifier_claims.proofs.claim_parts.first_checks.Goals as goal

pub returns-in_err-listed : goal.returns-in_err-listed
returns-in_err-listed g c =
    let a = c.args in
    let q = claimed_of g.A.BaseAir.declaration a.airs.now a.preprocessed.now a.commitments.now a.instances.now a.degree_bits.now a.log_chunks.now in
    let len = sym (length-map a.airs.now g.A.BaseAir.declaration) in
    exits_decided _ _ _ c.from_residual.ensures.1 (made_listed a.least a.most q a.widths.now _
    (subst (λ n. FirstFails (listed_check {R = g.row.R.Denot} n a.preprocessed.now (length a.instances.now) (length a.degree_bits.now) (length a.widths.now) (length a.log_chunks.now)) c.in_err-listed.field-0.0) len c.in_err-listed.ensures))

pub returns-in_err-all_bits : goal.returns-in_err-all_bits
returns-in_err-all_bits g c =
    let a = c.args in
    let q = claimed_of g.A.BaseAir.declaration a.airs.now a.preprocessed.now a.commitments.now a.instances.now a.degree_bits.now a.log_chunks.now in
    let len = sym (length-map a.airs.now g.A.BaseAir.declaration) in
    let L = subst (λ n. NoneFails (listed_check {R = g.row.R.Denot} n a.preprocessed.now (length a.instances.now) (length a.degree_bits.now) (length a.widths.now) (length a.log_chunks.now))) len c.in_ok-listed.ensures in
    let fit = lists_fit g.row.R.Denot q a.widths.now L in
    exits_decided _ _ _ c.from_residual-in_err-all_bits.ensures.1 (made_bits a.least a.most q a.widths.now _ L (fails_until _ _ _ _ fit.degree_bits_fit c.in_err-all_bits.ensures))

pub returns-in_err-random_where : goal.returns-in_err-random_where
returns-in_err-random_where g c =
    let a = c.args in
    let q = claimed_of g.A.BaseAir.declaration a.airs.now a.preprocessed.now a.commitments.now a.instances.now a.degree_bits.now a.log_chunks.now in
    let len = sym (length-map a.airs.now g.A.BaseAir.declaration) in
    let L = subst (λ n. NoneFails (listed_check {R = g.row.R.Denot} n a.preprocessed.now (length a.instances.now) (length a.degree_bits.now) (length a.widths.now) (length a.log_chunks.now))) len c.in_ok-listed.ensures in
    let fit = lists_fit g.row.R.Denot q a.widths.now L in
    exits_decided _ _ _ c.from_residual-in_err-random_where.ensures.1 (made_random a.least a.most q a.widths.now _ L (none_until _ _ _ fit.degree_bits_fit c.in_ok-all_bits.ensures) c.in_err-random_where.ensures)

pub all_next-requires : goal.all_next-requires
all_next-requires g c =
    let a = c.args in
    let q = claimed_of g.A.BaseAir.declaration a.airs.now a.preprocessed.now a.commitments.now a.instances.now a.degree_bits.now a.log_chunks.now in
    let len = sym (length-map a.airs.now g.A.BaseAir.declaration) in
    let L = subst (λ n. NoneFails (listed_check {R = g.row.R.Denot} n a.preprocessed.now (length a.instances.now) (length a.degree_bits.now) (length a.widths.now) (length a.log_chunks.now))) len c.in_ok-listed.ensures in
    let fit = lists_fit g.row.R.Denot q a.widths.now L in
    record { instances = fit.instances_fit ∙ sym len }

pub returns : goal.returns
returns g c =
    let a = c.args in
    let q = claimed_of g.A.BaseAir.declaration a.airs.now a.preprocessed.now a.commitments.now a.instances.now a.degree_bits.now a.log_chunks.now in
    let len = sym (length-map a.airs.now g.A.BaseAir.declaration) in
    let L = subst (λ n. NoneFails (listed_check {R = g.row.R.Denot} n a.preprocessed.now (length a.instances.now) (length a.degree_bits.now) (length a.widths.now) (length a.log_chunks.now))) len c.in_ok-listed.ensures in
    let fit = lists_fit g.row.R.Denot q a.widths.now L in
    made_nexts a.least a.most q a.widths.now _ L (none_until _ _ _ fit.degree_bits_fit c.in_ok-all_bits.ensures) c.in_ok-random_where.ensures (decided_until _ _ _ _ len c.all_next.ensures)
