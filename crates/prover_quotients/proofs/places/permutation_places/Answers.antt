use Rattle.std.proofs.Common.{◌≡◌, [], length, map, get_or, None, Some, cond, refl, sym, ◌∙◌, ap, subst, arith}
use Rattle.p3_field.specs.Laws.Tabulate.{tabulate_push}
use Rattle.p3_field.specs.Poly.{tabulate}
use Rattle.p3_lookup.specs.Written.{read_all}
use Rattle.verifier_shape.specs.Laws.Items.{item_of_map}
use Rattle.batch_statement.specs.Words.{has_some}
use Rattle.prover_quotients.specs.Places.{permutation_matrix_place}
use Rattle.prover_quotients.proofs.Counted.{cond_small, count_more, count_within}
use Rattle.std.proofs.lemmas.List.{length-map}
use Rattle.prover_quotients.proofs.places.permutation_places.Goals as goal

pub overflow_add-next : goal.overflow_add-next
overflow_add-next g c =
    let n = c.loop-table.invariant.counted in
    let few = count_within has_some (map (read_all {F = g.row.F.Denot}) c.args.lookups.now) c.loop-table.table-index in
    let one = cond_small c.has_lookups-own.result in
    omega (arith, n, few, one, c.count_where-next.ensures, c.loop-table-test.true)

pub loop-table-preserved : goal.loop-table-preserved
loop-table-preserved g c =
    let i = c.loop-table.table-index in
    let lists = map (read_all {F = g.row.F.Denot}) c.args.lookups.now in
    let inv = c.loop-table.invariant in
    let own : c.has_lookups-own.result ≡ has_some (get_or lists i []) =
    c.has_lookups-own.ensures ∙ ap has_some (sym (item_of_map (read_all {F = g.row.F.Denot}) c.args.lookups.now i c.table-item.result [] c.loop-table-test.true c.table-item.is)) in
    let counted = c.count_where-next.ensures ∙ ap (λ b. cond b 1 0) own in
    let more = count_more has_some lists i [] (has_some (get_or lists i [])) (let n = length-map c.args.lookups.now (read_all {F = g.row.F.Denot}) in omega (arith, n, c.loop-table-test.true)) refl in
    record {
      placed = c.in_ok-push.ensures.items ∙ tabulate_push i (permutation_matrix_place lists) _ _ inv.placed (c.place_where.ensures ∙ (λ j. cond (own j) (Some (inv.counted j)) None));
      counted = omega (arith, inv.counted, counted, more);
    }

pub returns : goal.returns
returns g c =
    let all : c.loop-table.table-index ≡ length c.args.lookups.now = omega arith in
    subst (λ n. c.loop-table.places.items ≡ tabulate n (permutation_matrix_place (map (read_all {F = g.row.F.Denot}) c.args.lookups.now))) all c.loop-table.invariant.placed
