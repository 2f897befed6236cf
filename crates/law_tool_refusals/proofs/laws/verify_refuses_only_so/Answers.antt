use Rattle.law_tool_refusals.proofs.Files.{balance_may_come, line_may_come}
use Rattle.law_tool_refusals.proofs.Never.{never_answered}
use Rattle.law_tool_refusals.proofs.Tables.{tables_may_come}
use Rattle.law_tool_refusals.proofs.laws.verify_refuses_only_so.Goals as goal

pub returns-clause-fault : goal.returns-clause-fault
returns-clause-fault c version tables p e within few heights first = tables_may_come version tables within few p heights e first

pub returns-clause-line : goal.returns-clause-line
returns-clause-line c bytes text answer = line_may_come bytes text answer

pub returns-clause-balance : goal.returns-clause-balance
returns-clause-balance c bytes text answer = balance_may_come bytes text answer

pub returns-clause-never : goal.returns-clause-never
returns-clause-never c words bytes e not_possible answer = never_answered words bytes e not_possible answer
