use Rattle.batch_tool.specs.Laws.OneAnswer.{one_answer}
use Rattle.batch_tool.proofs.laws.one_answer.Goals as goal

pub returns : goal.returns
returns c words bytes s t x y f g = one_answer c.there_is_one_answer.ensures c.there_is_one_answer-2.ensures c.there_is_one_answer-3.ensures c.there_is_one_answer-4.ensures words bytes s t x y f g
