use Rattle.std.proofs.Common.{◌≡◌, map, take}
use Rattle.std.specs.Prelude.{count_by}
use Rattle.p3_field.specs.Poly.{tabulate}
use Rattle.p3_lookup.specs.Written.{read_all}
use Rattle.batch_statement.specs.Words.{has_some}
use Rattle.prover_quotients.specs.Places.{permutation_matrix_place}
use Rattle.prover_quotients.proofs.places.permutation_places.Given as goal

abbrev pub invariant-loop-table : goal.invariant-loop-table
invariant-loop-table g l =
    let lists = map (read_all {F = g.row.F.Denot}) l.lookups in
    record {
      placed : l.places.items ≡ tabulate l.table-index (permutation_matrix_place lists);
      counted : l.next ≡ count_by has_some (take l.table-index lists);
    }
