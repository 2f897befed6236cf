use Rattle.law_committed.specs.Laws.Counts.{few_alphas, few_alphas_at, no_alphas}
use Rattle.law_committed.proofs.soundness.few_alphas_are_unlucky.Goals as goal

pub returns-clause-row : goal.returns-clause-row
returns-clause-row g c f e top inverse t trees i alphas L some apart unlucky = few_alphas_at f e top inverse L t trees i alphas some apart unlucky

pub returns-clause-none : goal.returns-clause-none
returns-clause-none g c f e t trees alpha none unlucky = no_alphas f e t trees alpha none unlucky

pub returns-clause-rows : goal.returns-clause-rows
returns-clause-rows g c f e top inverse t trees alphas L apart unlucky = few_alphas f e top inverse L t trees alphas apart unlucky
