use Rattle.std.proofs.Common.{◌∙◌}
use Rattle.tool_statement.proofs.SettingData.{setting_is}
use Rattle.tool_statement.proofs.config.tool_config.Goals as goal

pub returns-clause-setting : goal.returns-clause-setting
returns-clause-setting c =
    let given = c.with_version.ensures in
    let made = c.new-in-Some-2.ensures in
    let begun = c.new-in-Some.ensures in
    let config = c.with_version.result in
    setting_is config.pcs config.challenger config.lookup_bits config.ood_bits config.version c.args.version
    (given.pcs ∙ (made.pcs ∙ c.in-Some.ensures.0)) (given.challenger ∙ (made.challenger ∙ (λ i. record { chain = begun.chain i; left = begun.left i })))
    (given.lookup ∙ made.lookup) (given.ood ∙ made.ood) given.version
