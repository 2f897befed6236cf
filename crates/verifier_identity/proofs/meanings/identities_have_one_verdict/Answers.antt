use Rattle.std.proofs.Common.{◌-◌, [], None, get_or}
use Rattle.batch_statement.specs.Words.{no_opened, no_table}
use Rattle.verifier_identity.specs.Laws.Single.{table_single, terminals_single}
use Rattle.verifier_identity.proofs.meanings.identities_have_one_verdict.Goals as goal

pub returns-clause-identities : goal.returns-clause-identities
returns-clause-identities g c = λ f e masks s instances terminals degree_bits challenges domains alpha zeta i.
    table_single g.row.R.Denot f e i (get_or degree_bits i 0 - masks) (get_or s.tables i no_table) (get_or s.common.lookups i []) (get_or s.publics i []) (get_or challenges i [])
    (get_or terminals i None) (get_or domains i []) alpha zeta (get_or instances i no_opened)

pub returns-clause-terminals : goal.returns-clause-terminals
returns-clause-terminals g c = λ r terminals. terminals_single g.row.R.Denot r terminals
