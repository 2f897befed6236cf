use Rattle.law_valid.specs.Laws.Holding.{traced_commits, traced_domain}
use Rattle.law_valid.proofs.meanings.a_traced_table_is_committed.Goals as goal

pub returns-clause-commits : goal.returns-clause-commits
returns-clause-commits g k c commitment_of s traces degree_bits inverse i columns challenges terminals L B lt tall = traced_commits c commitment_of s traces degree_bits inverse L B i lt columns challenges terminals tall

pub returns-clause-domain : goal.returns-clause-domain
returns-clause-domain g k c commitment_of s traces degree_bits inverse i columns challenges terminals L B lt = traced_domain c commitment_of s traces degree_bits inverse L B i lt columns challenges terminals
