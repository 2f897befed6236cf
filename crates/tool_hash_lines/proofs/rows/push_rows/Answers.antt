use Rattle.std.proofs.Common.{◌≡◌, ℕ, ◌^◌, ◌++◌, map, sym, ◌∙◌, ap, arith}
use Rattle.std.proofs.lemmas.List.{append-nil}
use Rattle.air_core.specs.Joined.{joined}
use Rattle.p3_field.specs.BabyBear.{baby_bear_ring, baby_bear_root}
use Rattle.p3_field.specs.Domain.{CosetData, point}
use Rattle.p3_field.specs.declared.baby_bear.BabyBear.{BabyBear}
use Rattle.tool_hash_lines.specs.Columns.{polynomial_cells_at}
use Rattle.tool_hash_lines.specs.RowText.{row_line}
use Rattle.tool_hash_lines.proofs.Appending.{one_more}
use Rattle.tool_hash_lines.proofs.rows.push_rows.Goals as goal

pub loop-row-init : goal.loop-row-init
unfolding joined
loop-row-init c = sym (append-nil c.args.text.now.items)

pub loop-row-preserved : goal.loop-row-preserved
loop-row-preserved c =
    let fs = map (λ f. f.items) c.args.polynomials.now in
    let line = λ (row : ℕ). row_line row (polynomial_cells_at fs (point baby_bear_ring baby_bear_root c.trace_domain-domain.result row)) in
    let row = c.loop-row.row in
    let here : c.push_row.new.text.items ≡ c.loop-row.text.items ++ line row =
    c.in_ok-push_row.ensures ∙ ap (λ (x : BabyBear). c.loop-row.text.items ++ row_line row (polynomial_cells_at fs x)) c.point.ensures in
    one_more row line c.args.text.now.items c.loop-row.text.items c.push_row.new.text.items c.loop-row.invariant here

pub returns : goal.returns
returns c =
    let fs = map (λ f. f.items) c.args.polynomials.now in
    let all = λ (n : ℕ) (d : CosetData BabyBear). joined n (λ row. row_line row (polynomial_cells_at fs (point baby_bear_ring baby_bear_root d row))) in
    let d = c.trace_domain-domain.result in
    let last : c.loop-row.row ≡ c.size-row-end.result = omega arith in
    let size : c.loop-row.row ≡ 2 ^ c.args.k = last ∙ (c.size-row-end.ensures ∙ ap (λ (e : CosetData BabyBear). 2 ^ e.log_size) c.trace_domain-domain.ensures) in
    c.loop-row.invariant ∙ (ap (λ n. c.args.text.now.items ++ all n d) size ∙ ap (λ e. c.args.text.now.items ++ all (2 ^ c.args.k) e) c.trace_domain-domain.ensures)
