use Rattle.tool_hash_lines.specs.Laws.Matrices.{hash_matrices}
use Rattle.p3_field.specs.Quartic.{quartic_inv}
use Rattle.tool_verifier.specs.Laws.Meant.{few_unlucky, hashes, swaps, swaps_by_bits, tables_balance, tables_hold}
use Rattle.tool_verifier.proofs.meaning.accepted_means.Goals as goal

pub returns-clause-holds : goal.returns-clause-holds
returns-clause-holds c =
    tables_hold c.args.version c.args.tables.now c.args.proof.now c.baby_bear_has_laws.ensures (c.opened_claims_bind.ensures (record { log_blowup = 1 })) c.requires.formed c.requires.accepted

pub returns-clause-balance : goal.returns-clause-balance
returns-clause-balance c =
    tables_balance c.args.version c.args.tables.now c.args.proof.now c.baby_bear_has_laws.ensures (c.opened_claims_bind.ensures (record { log_blowup = 1 })) c.requires.formed c.requires.accepted

pub returns-clause-ends : goal.returns-clause-ends
returns-clause-ends c =
    swaps_by_bits c.args.version c.args.tables.now c.args.proof.now c.baby_bear_has_laws.ensures (c.opened_claims_bind.ensures (record { log_blowup = 1 })) c.requires.formed c.requires.accepted

pub returns-clause-swaps : goal.returns-clause-swaps
returns-clause-swaps c =
    swaps c.args.version c.args.tables.now c.args.proof.now c.baby_bear_has_laws.ensures (c.opened_claims_bind.ensures (record { log_blowup = 1 })) c.requires.formed c.requires.accepted

pub returns-clause-hashes : goal.returns-clause-hashes
returns-clause-hashes c =
    hashes c.args.version c.args.tables.now c.args.proof.now c.baby_bear_has_laws.ensures (c.opened_claims_bind.ensures (record { log_blowup = 1 })) c.requires.formed c.requires.accepted c.row_means.ensures.exact

pub returns-clause-matrices : goal.returns-clause-matrices
returns-clause-matrices c =
    hash_matrices c.args.version c.args.tables.now c.args.proof.now quartic_inv c.baby_bear_has_laws.ensures (c.opened_claims_bind.ensures (record { log_blowup = 1 })) c.requires.formed c.requires.accepted

pub returns-clause-few : goal.returns-clause-few
returns-clause-few c =
    few_unlucky c.args.version c.args.tables.now c.args.proof.now c.baby_bear_has_laws.ensures (c.opened_claims_bind.ensures (record { log_blowup = 1 })) c.requires.formed c.requires.accepted
