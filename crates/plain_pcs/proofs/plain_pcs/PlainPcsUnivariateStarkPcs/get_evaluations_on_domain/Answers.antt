use Rattle.plain_pcs.specs.Laws.Scheme.{if_ok_more}
use Rattle.plain_pcs.proofs.plain_pcs.PlainPcsUnivariateStarkPcs.get_evaluations_on_domain.Goals as goal

pub returns : goal.returns
returns g c =
    if_ok_more _ _ c.evaluations_on_domain.result (λ m h commitment cs d. h c.args.self.now commitment cs d) c.evaluations_on_domain.ensures
