use Rattle.std.proofs.Common.{◌<◌, map, sym, ◌∙◌, ap, subst}
use Rattle.std.proofs.lemmas.List.{length-map}
use Rattle.verifier_shape.specs.Laws.Verdicts.{err_if, exits, exits_if}
use Rattle.batch_statement.specs.Statement.{AirTable}
use Rattle.verifier_batch.specs.Laws.Parts.{refused_by_shape, refused_by_draws, refused_at_openings, refused_at_identities, decided_at_terminals}
use Rattle.verifier_batch.proofs.Sizes.{counts_right, domains_fit}
use Rattle.verifier_batch.proofs.verifier.verify_batch.Goals as goal

pub returns-in_err-chunks-clause-verdict : goal.returns-in_err-chunks-clause-verdict
returns-in_err-chunks-clause-verdict g c = exits _ _ _ c.from_residual.ensures.1 (refused_by_shape _ _ _ _ _ c.in_err-chunks.ensures.verdict)

pub returns-in_err-challenges-clause-verdict : goal.returns-in_err-challenges-clause-verdict
returns-in_err-challenges-clause-verdict g c =
    exits _ _ _ c.from_residual-in_err-challenges.ensures.1 (refused_by_draws _ _ _ _ _ c.in_ok-chunks.ensures.verdict c.in_err-challenges.ensures.verdict)

pub returns-in_err-domains-clause-verdict : goal.returns-in_err-domains-clause-verdict
returns-in_err-domains-clause-verdict g c =
    let d = c.in_ok-challenges in
    let v = c.in_err-domains.ensures.verdict in
    exits _ _ _ c.from_residual-in_err-domains.ensures.1
    (refused_at_openings _ _ _ _ _ _ _ d.ensures.zeta d.ensures.state c.in_ok-chunks.ensures.verdict d.ensures.verdict v)

pub check_batch_identities-requires-clause-fits : goal.check_batch_identities-requires-clause-fits
check_batch_identities-requires-clause-fits g c = λ i l.
    let n = length-map {B = AirTable g.row.SC-Val.Denot} c.args.airs.now (λ x. record { declaration = g.A.BaseAir.declaration x; trees = g.A.Air.trees x }) in
    domains_fit g.row.SC-Pcs-Error.Denot _ _ _ _ _ _ c.in_ok-domains.ensures.verdict i (subst (λ m. i < m) (sym n) l)

pub returns-in_err-check_batch_identities-clause-verdict : goal.returns-in_err-check_batch_identities-clause-verdict
returns-in_err-check_batch_identities-clause-verdict g c =
    let d = c.in_ok-challenges in
    let n = length-map {B = AirTable g.row.SC-Val.Denot} c.args.airs.now (λ x. record { declaration = g.A.BaseAir.declaration x; trees = g.A.Air.trees x }) in
    exits _ _ _ c.from_residual-in_err-check_batch_identities.ensures.1
    (refused_at_identities _ _ _ _ _ _ _ _ _ _ _ (sym n) (ap (λ xs. map (λ v. v.items) xs) c.deref-2.ensures.value ∙ d.ensures.challenges) (ap (λ xs. map (λ v. v.items) xs) c.deref-3.ensures.value ∙ c.in_ok-domains.ensures.domains)
    d.ensures.alpha d.ensures.zeta d.ensures.state c.in_ok-chunks.ensures.verdict d.ensures.verdict c.in_ok-domains.ensures.verdict c.in_err-check_batch_identities.ensures)

pub returns-clause-verdict : goal.returns-clause-verdict
returns-clause-verdict g c =
    let d = c.in_ok-challenges in
    let n = length-map {B = AirTable g.row.SC-Val.Denot} c.args.airs.now (λ x. record { declaration = g.A.BaseAir.declaration x; trees = g.A.Air.trees x }) in
    decided_at_terminals _ _ _ _ _ _ _ _ _ _ _ (sym n) (ap (λ xs. map (λ v. v.items) xs) c.deref-2.ensures.value ∙ d.ensures.challenges) (ap (λ xs. map (λ v. v.items) xs) c.deref-3.ensures.value ∙ c.in_ok-domains.ensures.domains)
    d.ensures.alpha d.ensures.zeta d.ensures.state c.in_ok-chunks.ensures.verdict d.ensures.verdict c.in_ok-domains.ensures.verdict c.in_ok-check_batch_identities.ensures c.check_terminals.ensures

pub returns-in_err-chunks-clause-memory : goal.returns-in_err-chunks-clause-memory
returns-in_err-chunks-clause-memory g c = exits_if _ _ _ c.from_residual.ensures.1 c.in_err-chunks.ensures.memory

pub returns-in_err-challenges-clause-memory : goal.returns-in_err-challenges-clause-memory
returns-in_err-challenges-clause-memory g c =
    exits_if _ _ _ c.from_residual-in_err-challenges.ensures.1 (λ m. counts_right g.row.SC-Pcs-Error.Denot _ _ _ _ c.in_ok-chunks.ensures.verdict)

pub returns-in_err-domains-clause-memory : goal.returns-in_err-domains-clause-memory
returns-in_err-domains-clause-memory g c =
    exits_if _ _ _ c.from_residual-in_err-domains.ensures.1 (λ m. counts_right g.row.SC-Pcs-Error.Denot _ _ _ _ c.in_ok-chunks.ensures.verdict)

pub returns-in_err-check_batch_identities-clause-memory : goal.returns-in_err-check_batch_identities-clause-memory
returns-in_err-check_batch_identities-clause-memory g c =
    exits_if _ _ _ c.from_residual-in_err-check_batch_identities.ensures.1 (λ m. counts_right g.row.SC-Pcs-Error.Denot _ _ _ _ c.in_ok-chunks.ensures.verdict)

pub returns-clause-memory : goal.returns-clause-memory
returns-clause-memory g c = err_if _ _ (counts_right g.row.SC-Pcs-Error.Denot _ _ _ _ c.in_ok-chunks.ensures.verdict)
