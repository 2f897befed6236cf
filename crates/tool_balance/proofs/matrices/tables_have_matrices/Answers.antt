use Rattle.std.proofs.Common.{get_or}
use Rattle.std.proofs.lemmas.Option.{slice_get-get_or}
use Rattle.p3_field.specs.Quartic.{quartic_inv}
use Rattle.tool_hash_lines.specs.Laws.Matrices.{main_matrix}
use Rattle.tool_statement.specs.declared.table.TableStatement.TheVariants.{Take}
use Rattle.tool_balance.proofs.matrices.tables_have_matrices.Goals as goal

pub returns : goal.returns
returns c i below =
    let tables = c.args.tables.now in
    main_matrix c.args.version tables c.args.proof.now quartic_inv c.baby_bear_has_laws.ensures (c.opened_claims_bind.ensures (record { log_blowup = 1 })) c.requires.formed c.requires.accepted.1 c.requires.accepted.0
    i (get_or tables i (Take 0)) (slice_get-get_or tables i (Take 0) below)
