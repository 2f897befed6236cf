use Rattle.law_soundness.specs.Laws.Over.{own_laws}
use Rattle.law_soundness.specs.PlainSetting.{plain_scheme}
use Rattle.tool_prover.specs.Laws.Granted.{batch_granted, none_overloaded}
use Rattle.tool_prover.proofs.laws.traced_batches_are_granted.Goals as goal

pub returns-clause-granted : goal.returns-clause-granted
returns-clause-granted g c b log_blowup over unmasked room traced =
    batch_granted b log_blowup (own_laws _ _ _ b.setting over g.E.FieldCore.inv c.fields_have_laws.ensures) unmasked room traced.traced

pub returns-clause-bounded : goal.returns-clause-bounded
returns-clause-bounded g c b log_blowup bounded = none_overloaded (plain_scheme b.setting log_blowup) b bounded
