use Rattle.tool_balance.proofs.Answering.{same_balance}
use Rattle.tool_balance.proofs.laws.there_is_one_answer.Goals as goal

pub returns : goal.returns
returns c version tables p s t x y a b = same_balance version tables p (c.there_is_one_answer.ensures version tables p) s t x y a b
