use Rattle.std.proofs.Common.{◌≡◌, ◌++◌, List, length, sym, ◌∙◌, ap}
use Rattle.std.proofs.lemmas.Bool.{eqb-true}
use Rattle.p3_field.specs.declared.baby_bear.BabyBear.{BabyBear}
use Rattle.p3_lookup.specs.Messages.{Message}
use Rattle.tool_proof_text.specs.ProofText.{ToolProofData}
use Rattle.tool_balance.proofs.Table.{fit, height_here, none, sent}
use Rattle.tool_balance.proofs.messages.push_table.Goals as goal

pub returns-then-is_empty : goal.returns-then-is_empty
returns-then-is_empty c version =
    let ws = c.args.lookups.now in
    let empty : length ws ≡ 0 = eqb-true (length ws) 0 (sym c.is_empty.ensures ∙ c.if-is_empty.true) in
    none c.args.tables.now c.args.proof.now c.args.table c.requires.exists c.requires.matrix ws c.requires.lookups empty version c.args.messages.now.items

pub table_messages-requires-clause-lookups : goal.table_messages-requires-clause-lookups
table_messages-requires-clause-lookups c =
    let tables = c.args.tables.now in
    let p = c.args.proof.now in
    let i = c.args.table in
    let main : p.commitments.main ≡ c.proof.inside.commitments.main = sym (ap (λ (q : ToolProofData). q.commitments.main) c.proof.view_is) in
    let log = height_here tables p i c.requires.exists c.requires.matrix c.index-tables-table.result c.log_height-log_height.result c.index-tables-table.is c.log_height-log_height.ensures in
    fit tables p i c.requires.exists c.requires.matrix c.proof.inside.commitments.main main c.log_height-log_height.result log c.args.lookups.now c.requires.lookups c.in_ok-rows.rows c.in_ok-rows.ensures

pub returns : goal.returns
returns c version =
    let tables = c.args.tables.now in
    let p = c.args.proof.now in
    let i = c.args.table in
    let main : p.commitments.main ≡ c.proof.inside.commitments.main = sym (ap (λ (q : ToolProofData). q.commitments.main) c.proof.view_is) in
    let log = height_here tables p i c.requires.exists c.requires.matrix c.index-tables-table.result c.log_height-log_height.result c.index-tables-table.is c.log_height-log_height.ensures in
    let own = sent tables p i c.requires.exists c.requires.matrix c.proof.inside.commitments.main main c.log_height-log_height.result log c.args.lookups.now c.requires.lookups c.in_ok-rows.rows c.in_ok-rows.ensures version in
    c.in_ok-append.ensures.items ∙ ap (λ (ms : List (Message BabyBear)). c.args.messages.now.items ++ ms) (c.in_ok-sent.ensures ∙ own)
