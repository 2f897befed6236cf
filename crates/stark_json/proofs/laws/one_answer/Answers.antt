use Rattle.stark_json.specs.Laws.OneAnswer.{one-answer-of-json, one-name}
use Rattle.stark_json.proofs.laws.one_answer.Goals as goal

pub returns-clause-command : goal.returns-clause-command
returns-clause-command c words = one-name words

pub returns-clause-answer : goal.returns-clause-answer
returns-clause-answer c words bytes = one-answer-of-json (λ f. c.there_is_one_answer.ensures _ f.tables f.proof) words bytes
