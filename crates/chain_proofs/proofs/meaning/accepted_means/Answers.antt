use Rattle.chain_proofs.specs.Laws.Meant.{rows_chain}
use Rattle.chain_proofs.proofs.meaning.accepted_means.Goals as goal

pub returns : goal.returns
returns c =
    rows_chain c.args.start.now c.args.end.now c.args.log_rows c.args.proof.now c.baby_bear_has_laws.ensures (c.opened_claims_bind.ensures (record { log_blowup = 1 })) c.requires.accepted
    c.committed_tables_are_chains.ensures c.chaining_fits.ensures c.chaining_fits-2.ensures c.requires.rows c.requires.height
