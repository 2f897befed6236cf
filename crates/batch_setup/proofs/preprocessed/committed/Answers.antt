use Rattle.std.proofs.Common.{◌≡◌, true, false, length, vec_len, sym, ◌∙◌, subst, arith}
use Rattle.std.proofs.lemmas.Bool.{eqb-true, eq-eqb}
use Rattle.commit_core.specs.Failure.{NoneOf}
use Rattle.batch_setup.proofs.Committed.{none_of_nothing, none_of_granted, first_of_refused}
use Rattle.batch_setup.proofs.preprocessed.committed.Goals as goal

pub returns-then-is_empty-clause-verdict : goal.returns-then-is_empty-clause-verdict
returns-then-is_empty-clause-verdict g c =
    let es = c.args.evaluations in
    let none : vec_len es ≡ 0 = eqb-true (vec_len es) 0 (sym c.is_empty.ensures ∙ c.if-is_empty.true) in
    let empty : length es.items ≡ 0 = omega (arith, none, es.ok.0) in
    none_of_nothing (g.SC-Pcs-Pcs.commit_fault (g.SC.StarkGenericConfig.pcs_of c.args.config.now)) es.items empty

pub returns-in-Ok-clause-verdict : goal.returns-in-Ok-clause-verdict
returns-in-Ok-clause-verdict g c =
    let es = c.args.evaluations in
    none_of_granted (g.SC-Pcs-Pcs.commit_fault (g.SC.StarkGenericConfig.pcs_of c.args.config.now)) es.items
    (subst (λ s. NoneOf (g.SC-Pcs-Pcs.commit_fault s es.items)) c.pcs.ensures c.in-Ok.ensures.refusal)

pub returns-clause-verdict : goal.returns-clause-verdict
returns-clause-verdict g c =
    let es = c.args.evaluations in
    let refused = rw c.in-Err-Refused.field-0-is at c.in-Err-Refused.ensures.refusal in
    first_of_refused (g.SC-Pcs-Pcs.commit_fault (g.SC.StarkGenericConfig.pcs_of c.args.config.now)) es.items c.in-Err-Refused.source
    (λ e.
    let v : vec_len es ≡ 0 = omega (arith, e, es.ok.0) in
    let t : true ≡ false = sym (c.is_empty.ensures ∙ eq-eqb (vec_len es) 0 v) ∙ c.if-is_empty.false in cc)
    (subst (λ s. g.SC-Pcs-Pcs.commit_fault s es.items c.in-Err-Refused.source) c.pcs.ensures refused)
