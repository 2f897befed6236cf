use Rattle.p3_field.specs.Quartic.{quartic_inv}
use Rattle.law_committed.specs.Fields.{baby_bear_field, quartic_extension}
use Rattle.law_chain.specs.Laws.Committed.{table_is_chain}
use Rattle.law_chain.proofs.committed.committed_tables_are_chains.Goals as goal

pub returns : goal.returns
returns c t start end low ws we wide publics =
    table_is_chain baby_bear_field quartic_extension 27 quartic_inv c.baby_bear_has_laws.ensures t low c.chains_mean.ensures.rows start end ws we wide publics
