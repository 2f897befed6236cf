use Rattle.std.proofs.Common.{List, All, sym, ◌∙◌, ap, subst}
use Rattle.std.proofs.lemmas.Result.{IfOk-weaker}
use Rattle.tool_statement.specs.StatedTables.{TableWithin, log_heights_of, publics_lists, sources_of}
use Rattle.tool_statement.specs.declared.table.TableStatement.{TableStatement}
use Rattle.tool_jobs.specs.Jobs.{read_tables}
use Rattle.tool_jobs.specs.Laws.Statements.{statements-heights, statements-publics, statements-sources, statements-within}
use Rattle.tool_jobs.proofs.job.statements_of.Goals as goal

pub returns-clause-within : goal.returns-clause-within
returns-clause-within c =
    IfOk-weaker c.all_statements.result _ _ (λ v e. subst (λ (l : List TableStatement). All TableWithin l) (sym e) (statements-within (read_tables c.args.job.now) c.requires)) c.all_statements.ensures

pub returns-clause-heights : goal.returns-clause-heights
returns-clause-heights c = IfOk-weaker c.all_statements.result _ _ (λ v e. ap log_heights_of e ∙ statements-heights (read_tables c.args.job.now)) c.all_statements.ensures

pub returns-clause-publics : goal.returns-clause-publics
returns-clause-publics c = IfOk-weaker c.all_statements.result _ _ (λ v e. ap publics_lists e ∙ statements-publics (read_tables c.args.job.now)) c.all_statements.ensures

pub returns-clause-sources : goal.returns-clause-sources
returns-clause-sources c = IfOk-weaker c.all_statements.result _ _ (λ v e. ap sources_of e ∙ statements-sources (read_tables c.args.job.now)) c.all_statements.ensures
