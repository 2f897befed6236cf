use Rattle.std.proofs.Common.{◌≡◌, ◌<◌, ◌++◌, List, length, get_or, map, ◌∙◌, ap, arith}
use Rattle.p3_field.specs.BabyBear.{baby_bear_ring}
use Rattle.p3_field.specs.declared.baby_bear.BabyBear.{BabyBear}
use Rattle.p3_lookup.specs.Messages.{Message, table_messages}
use Rattle.p3_lookup.specs.Written.{Written, read_all}
use Rattle.plain_pcs.specs.Scheme.{PlainCommitmentData}
use Rattle.batch_setup.specs.Packed.{source_of}
use Rattle.batch_statement.specs.Statement.{WrittenCommon}
use Rattle.tool_tables.specs.Tool.{tool_declaration, tool_interactions, tool_trees}
use Rattle.tool_verifier.specs.Laws.Stated.{formed_is}
use Rattle.tool_balance.proofs.Sent.{all_sent, sent_before, sent_next}
use Rattle.tool_balance.proofs.Table.{written_at, written_count}
use Rattle.tool_balance.specs.Senders.{sender_at}
use Rattle.tool_balance.proofs.messages.messages_of_tables.Goals as goal

pub tables_have_matrices-requires-clause-formed : goal.tables_have_matrices-requires-clause-formed
tables_have_matrices-requires-clause-formed c =
    let airs = ap (map (source_of (tool_declaration baby_bear_ring) (tool_trees baby_bear_ring) (tool_interactions baby_bear_ring))) c.deref.ensures.value ∙ c.in_ok-airs.ensures in
    formed_is c.args.tables.now c.deref.result.now _ _ airs c.in_ok-common.ensures.common c.in_ok-common.ensures.formed

pub index-requires : goal.index-requires
index-requires c =
    let tables = c.args.tables.now in
    let w = c.in_ok-common.common in
    let count : length w.lookups ≡ length tables = written_count tables w c.in_ok-common.ensures.common in
    let many : length c.common.inside.lookups.items ≡ length w.lookups = ap (λ (x : WrittenCommon BabyBear (PlainCommitmentData BabyBear)). length x.lookups) c.common.view_is in
    let within : c.loop-table.table < length tables = omega arith in
    omega (arith, within, many, count)

pub push_table-requires-clause-matrix : goal.push_table-requires-clause-matrix
push_table-requires-clause-matrix c =
    let within : c.loop-table.table < length c.args.tables.now = omega arith in
    c.tables_have_matrices.ensures c.loop-table.table within

pub push_table-requires-clause-lookups : goal.push_table-requires-clause-lookups
push_table-requires-clause-lookups c =
    let tables = c.args.tables.now in
    let i = c.loop-table.table in
    let x = c.index.result.now in
    let within : i < length tables = omega arith in
    let lookups : c.common.inside.lookups.items ≡ c.in_ok-common.common.lookups = ap (λ (y : WrittenCommon BabyBear (PlainCommitmentData BabyBear)). y.lookups) c.common.view_is in
    ap read_all c.as_slice-lookups.ensures
    ∙ written_at tables c.in_ok-common.common c.in_ok-common.ensures.common i x within (c.index.ensures ∙ ap (λ (ls : List (List (Written BabyBear))). get_or ls i x) lookups)

pub loop-table-preserved : goal.loop-table-preserved
loop-table-preserved c =
    let v = c.args.version in
    let tables = c.args.tables.now in
    let p = c.args.proof.now in
    let i = c.loop-table.table in
    c.in_ok-push_table.ensures v ∙ (ap (λ (ms : List (Message BabyBear)). ms ++ table_messages (sender_at v tables p i)) c.loop-table.invariant ∙ sent_next v tables p i)

pub returns : goal.returns
returns c =
    let v = c.args.version in
    let tables = c.args.tables.now in
    let p = c.args.proof.now in
    let last : c.loop-table.table ≡ length tables = omega arith in
    c.loop-table.invariant ∙ (ap (sent_before v tables p) last ∙ all_sent v tables p)
