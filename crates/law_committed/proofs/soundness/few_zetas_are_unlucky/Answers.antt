use Rattle.law_committed.specs.Laws.Counts.{few_zetas}
use Rattle.law_committed.proofs.soundness.few_zetas_are_unlucky.Goals as goal

pub returns : goal.returns
returns g c f e top inverse t trees q alpha p zetas L fits B Q most apart unlucky = few_zetas f e top inverse L t trees q alpha fits B Q p most zetas apart unlucky
