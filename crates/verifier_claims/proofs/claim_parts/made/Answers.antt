use Rattle.std.proofs.Common.{◌<◌, sym, ◌∙◌, subst, ap, arith}
use Rattle.std.proofs.lemmas.List.{length-map}
use Rattle.p3_field.specs.Poly.{tabulate}
use Rattle.verifier_shape.specs.Laws.Verdicts.{exits, refused}
use Rattle.verifier_claims.specs.Claims.{chunk_domains_at, claimed_of}
use Rattle.verifier_claims.proofs.Made.{are_sized, first_bits, first_lists, made_counts, made_first, made_sizes, sizes_at}
use Rattle.verifier_claims.proofs.Memory.{after_all, not_made, refused_in_memory}
use Rattle.verifier_claims.proofs.claim_parts.made.Goals as goal

pub returns-in_err-all_checks-clause-verdict : goal.returns-in_err-all_checks-clause-verdict
returns-in_err-all_checks-clause-verdict g c =
    let a = c.args in
    let q = claimed_of g.A.BaseAir.declaration a.airs.now a.preprocessed.now a.commitments.now a.instances.now a.degree_bits.now a.log_chunks.now in
    let two = g.F.TwoAdicCore.TWO_ADICITY in
    exits _ _ _ c.from_residual.ensures.1 (refused _ _ c.in_err-all_checks.ensures)

pub returns-in_err-all_checks-clause-memory : goal.returns-in_err-all_checks-clause-memory
returns-in_err-all_checks-clause-memory g c =
    let a = c.args in
    let q = claimed_of g.A.BaseAir.declaration a.airs.now a.preprocessed.now a.commitments.now a.instances.now a.degree_bits.now a.log_chunks.now in
    let two = g.F.TwoAdicCore.TWO_ADICITY in
    refused_in_memory _ _ _ (not_made g.row.R.Denot q a.widths.now a.masks a.least a.most two) c.from_residual.ensures.1 c.in_err-all_checks.ensures

pub all_domains-requires-clause-chunks : goal.all_domains-requires-clause-chunks
all_domains-requires-clause-chunks g c =
    let a = c.args in
    let q = claimed_of g.A.BaseAir.declaration a.airs.now a.preprocessed.now a.commitments.now a.instances.now a.degree_bits.now a.log_chunks.now in
    let two = g.F.TwoAdicCore.TWO_ADICITY in
    let N = c.in_ok-all_checks.ensures in
    let A = made_first g.row.R.Denot a.masks a.least a.most two q a.widths.now N in
    let L = first_lists g.row.R.Denot a.least a.most q a.widths.now A in
    L.chunks_fit ∙ sym L.degree_bits_fit

pub all_domains-requires-clause-masked : goal.all_domains-requires-clause-masked
all_domains-requires-clause-masked g c =
    let a = c.args in
    let q = claimed_of g.A.BaseAir.declaration a.airs.now a.preprocessed.now a.commitments.now a.instances.now a.degree_bits.now a.log_chunks.now in
    let two = g.F.TwoAdicCore.TWO_ADICITY in
    let N = c.in_ok-all_checks.ensures in
    let A = made_first g.row.R.Denot a.masks a.least a.most two q a.widths.now N in
    let L = first_lists g.row.R.Denot a.least a.most q a.widths.now A in
    let B = first_bits g.row.R.Denot a.least a.most q a.widths.now A in
    λ i l. let b = (B i (subst (λ m. i < m) L.degree_bits_fit l)).0 in omega (arith, c.requires.masked)

pub all_domains-requires-clause-fits : goal.all_domains-requires-clause-fits
all_domains-requires-clause-fits g c =
    let a = c.args in
    let q = claimed_of g.A.BaseAir.declaration a.airs.now a.preprocessed.now a.commitments.now a.instances.now a.degree_bits.now a.log_chunks.now in
    let two = g.F.TwoAdicCore.TWO_ADICITY in
    let N = c.in_ok-all_checks.ensures in
    let A = made_first g.row.R.Denot a.masks a.least a.most two q a.widths.now N in
    let L = first_lists g.row.R.Denot a.least a.most q a.widths.now A in
    λ i l. (sizes_at g.row.R.Denot a.masks a.most two q (made_sizes g.row.R.Denot a.masks a.least a.most two q a.widths.now N) i (subst (λ m. i < m) L.degree_bits_fit l)).2

pub all_domains-requires-clause-short : goal.all_domains-requires-clause-short
all_domains-requires-clause-short g c =
    let a = c.args in
    let q = claimed_of g.A.BaseAir.declaration a.airs.now a.preprocessed.now a.commitments.now a.instances.now a.degree_bits.now a.log_chunks.now in
    let two = g.F.TwoAdicCore.TWO_ADICITY in
    let N = c.in_ok-all_checks.ensures in
    let A = made_first g.row.R.Denot a.masks a.least a.most two q a.widths.now N in
    let L = first_lists g.row.R.Denot a.least a.most q a.widths.now A in
    λ i l. (sizes_at g.row.R.Denot a.masks a.most two q (made_sizes g.row.R.Denot a.masks a.least a.most two q a.widths.now N) i (subst (λ m. i < m) L.degree_bits_fit l)).1

pub returns-in_err-domains-clause-memory : goal.returns-in_err-domains-clause-memory
returns-in_err-domains-clause-memory g c =
    let a = c.args in
    let q = claimed_of g.A.BaseAir.declaration a.airs.now a.preprocessed.now a.commitments.now a.instances.now a.degree_bits.now a.log_chunks.now in
    let two = g.F.TwoAdicCore.TWO_ADICITY in
    let N = c.in_ok-all_checks.ensures in
    let A = made_first g.row.R.Denot a.masks a.least a.most two q a.widths.now N in
    let L = first_lists g.row.R.Denot a.least a.most q a.widths.now A in
    after_all _ _ N

pub returns-clause-verdict : goal.returns-clause-verdict
returns-clause-verdict g c =
    let a = c.args in
    let q = claimed_of g.A.BaseAir.declaration a.airs.now a.preprocessed.now a.commitments.now a.instances.now a.degree_bits.now a.log_chunks.now in
    let two = g.F.TwoAdicCore.TWO_ADICITY in
    let N = c.in_ok-all_checks.ensures in
    let A = made_first g.row.R.Denot a.masks a.least a.most two q a.widths.now N in
    let L = first_lists g.row.R.Denot a.least a.most q a.widths.now A in
    N

pub returns-clause-domains : goal.returns-clause-domains
returns-clause-domains g c =
    let a = c.args in
    let q = claimed_of g.A.BaseAir.declaration a.airs.now a.preprocessed.now a.commitments.now a.instances.now a.degree_bits.now a.log_chunks.now in
    let two = g.F.TwoAdicCore.TWO_ADICITY in
    let N = c.in_ok-all_checks.ensures in
    let A = made_first g.row.R.Denot a.masks a.least a.most two q a.widths.now N in
    let L = first_lists g.row.R.Denot a.least a.most q a.widths.now A in
    let len = sym (length-map a.airs.now g.A.BaseAir.declaration) in
    c.in_ok-domains.ensures ∙ ap (λ n. tabulate n (chunk_domains_at g.F.RingCore.ring g.F.TwoAdicCore.root g.F.FieldCore.GENERATOR a.masks a.degree_bits.now a.log_chunks.now)) (L.degree_bits_fit ∙ sym len)

pub returns-clause-sized : goal.returns-clause-sized
returns-clause-sized g c =
    let a = c.args in
    let q = claimed_of g.A.BaseAir.declaration a.airs.now a.preprocessed.now a.commitments.now a.instances.now a.degree_bits.now a.log_chunks.now in
    let two = g.F.TwoAdicCore.TWO_ADICITY in
    let N = c.in_ok-all_checks.ensures in
    let A = made_first g.row.R.Denot a.masks a.least a.most two q a.widths.now N in
    let L = first_lists g.row.R.Denot a.least a.most q a.widths.now A in
    let len = sym (length-map a.airs.now g.A.BaseAir.declaration) in
    are_sized g.row.R.Denot g.F.RingCore.ring g.F.TwoAdicCore.root g.F.FieldCore.GENERATOR a.masks a.least a.most two _ q a.widths.now _ len c.requires.masked c.requires.fits A (made_counts g.row.R.Denot a.masks a.least a.most two q a.widths.now N)
    (c.in_ok-domains.ensures ∙ ap (λ n. tabulate n (chunk_domains_at g.F.RingCore.ring g.F.TwoAdicCore.root g.F.FieldCore.GENERATOR a.masks a.degree_bits.now a.log_chunks.now)) (L.degree_bits_fit ∙ sym len))
