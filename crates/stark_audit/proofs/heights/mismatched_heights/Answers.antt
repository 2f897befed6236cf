use Rattle.std.proofs.Common.{◌+◌, ◌<◌, List, ℕ, length, sym, ap, subst, ◌∙◌, arith}
use Rattle.p3_field.specs.Checks.{numbers}
use Rattle.audit_batch.specs.Asked.{AreNamed, always}
use Rattle.tool_statement.specs.StatedTables.{HasStatedHeight}
use Rattle.stark_audit.specs.Laws.Heights.{height_fails, height_holds, none_named, stated_height}
use Rattle.stark_audit.proofs.heights.mismatched_heights.Goals as goal
use Rattle.stark_audit.proofs.heights.mismatched_heights.Goals.{then-log_height-degree_bits+in_ok-push, else-log_height-degree_bits}

pub loop-table-init : goal.loop-table-init
loop-table-init c =
    let P = HasStatedHeight c.args.tables.now c.args.degree_bits.now in
    subst (λ (l : List ℕ). AreNamed (always (numbers 0 P)) l) (sym c.new-heights.ensures.items) (none_named P)

pub loop-table-preserved : goal.loop-table-preserved
loop-table-preserved c =
    let P = HasStatedHeight c.args.tables.now c.args.degree_bits.now in
    let n = c.loop-table.table in
    let within : n < length c.args.tables.now = omega (arith, c.loop-table-test.true, c.min-count.ensures) in
    let stated = stated_height c.args.tables.now n c.index-tables-table.result within c.index-tables-table.is in
    elim c.if-log_height-degree_bits.branch [
      | then-log_height-degree_bits+in_ok-push w ↦
          subst (λ (l : List ℕ). AreNamed (always (numbers (n + 1) P)) l) (sym (ap (λ v. v.items) w.heights-is ∙ w.in_ok-push.ensures.items))
          (height_fails P n c.loop-table.heights.items c.loop-table.invariant (λ h. w.if-log_height-degree_bits.true (c.log_height.ensures ∙ sym stated ∙ h)))
      | else-log_height-degree_bits w ↦
          subst (λ (l : List ℕ). AreNamed (always (numbers (n + 1) P)) l) (sym (ap (λ v. v.items) w.heights-is))
          (height_holds P n c.loop-table.heights.items c.loop-table.invariant (stated ∙ sym c.log_height.ensures ∙ w.if-log_height-degree_bits.false))
    ]
