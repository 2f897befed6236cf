use Rattle.law_tool_valid.specs.Laws.Program.{set_up_is_valid}
use Rattle.law_tool_valid.proofs.setup.every_job_that_is_set_up_is_valid.Goals as goal

pub returns : goal.returns
returns g k config job airs budgets common kept Z valid A lookups prepared formed =
    set_up_is_valid _ _ Z g.SC.Val.PartialEq.eq job valid airs A budgets _ _ _ _ _ _ (λ es w e. g.SC-Pcs-UnivariateStarkPcs-met.one_commitment (g.SC.StarkGenericConfig.pcs_of config) es w Z.plain e) common kept prepared lookups formed
