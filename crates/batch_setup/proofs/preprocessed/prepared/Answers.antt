use Rattle.batch_setup.specs.Preprocessed.{commit_checks}
use Rattle.batch_setup.specs.Laws.Verdicts.{exits, refused_before, answer_along}
use Rattle.batch_setup.proofs.preprocessed.prepared.Goals as goal

pub returns-in_err-entries-clause-verdict : goal.returns-in_err-entries-clause-verdict
returns-in_err-entries-clause-verdict g c = exits _ _ _ c.from_residual.ensures.1 (refused_before _ _ _ c.in_err-entries.ensures.verdict)

pub returns-clause-verdict : goal.returns-clause-verdict
returns-clause-verdict g c =
    let checks = commit_checks (g.SC-Pcs-Pcs.commit_fault (g.SC.StarkGenericConfig.pcs_of c.args.config.now)) in
    answer_along _ checks c.in_ok-entries.evaluations.items _ c.committed.result c.in_ok-entries.ensures.committed c.in_ok-entries.ensures.verdict c.committed.ensures.verdict
