-- A table whose trace has the declared shape is traced, and its quotient has a domain.
use Rattle.std.specs.Int.{IsPowerOfTwo}
use Rattle.std.proofs.Common.{◌≡◌, ℕ, ◌+◌, ◌-◌, ◌^◌, ◌≤◌, cond, max, List, length, Option, None, Some, refl, sym, ◌∙◌, ap, subst, arith}
use Rattle.std.specs.Prelude.{All}
use Rattle.std.proofs.lemmas.Nat.{pow_pos}
use Rattle.p3_field.specs.Ring.{pow}
use Rattle.p3_matrix.specs.Matrix.{Rows, height}
use Rattle.air_core.specs.Check.{HasHeight}
use Rattle.air_core.specs.Shape.{Declaration, HasWholeRows}
use Rattle.air_core.specs.Tree.{Interaction, Tree}
use Rattle.commit_core.specs.Periodic.{IsPeriod}
use Rattle.batch_config.specs.Setting.{Setting, masks}
use Rattle.batch_constraints.specs.Laws.Own.{own_lookups}
use Rattle.batch_constraints.specs.Laws.Packing.{packing_keeps}
use Rattle.batch_setup.specs.Laws.Logarithms.{log_of_power}
use Rattle.batch_setup.specs.Packed.{log_chunks_with, own_budget, packed_lookups, unpacked_lookups}
use Rattle.batch_setup.specs.Setup.{Instance, log_of}
use Rattle.verifier_shape.specs.ShapeChecks.{chunks_of_table}
use Rattle.law_committed.specs.Laws.Disjoint.{shift_gives_domain}
use Rattle.law_committed.specs.Traces.{HaveTraceRows, IsSomeTall}
use Rattle.law_valid.specs.Laws.Committed.{no_rows_tall}
use Rattle.law_valid.specs.Traced.{TracedTable, committed_alone, log_parts, log_rows, no_rows, quotient_shift, traces_of}
use Rattle.law_valid.specs.Valid.{HasQuotientDomain, IsTraced}
use Rattle.law_joining.specs.Shaped.{IsShaped, IsWhole, Serves, log_rows_of, source_of_instance, traced_instance}

some_tall : {F : Type 0} (n k : ℕ) (m : Option (Rows F)) → n ≡ k → HasWholeRows m → HasHeight m n → IsSomeTall k m
some_tall n k None e fills high = tt
some_tall n k (Some m) e fills high = record { fills = fills; tall = λ _. high ∙ e }

module _ {S F E C A : Type 0} (c : Setting S F E C) (inverse : E → E) (Z : Serves c inverse) (declaration : A → Declaration F) (trees : A → List (Tree F)) (interactions : A → List (Interaction F)) (i : Instance A F)
    (W : IsWhole (source_of_instance c declaration trees interactions i)) (H : IsShaped c declaration trees interactions i) where
  abbrev t : TracedTable F
  t = traced_instance c declaration trees interactions i

  none_masked : masks c ≡ 0
  none_masked = ap (λ z. cond z 1 0) Z.plain

  rows_are : log_rows c t ≡ log_rows_of i
  rows_are = let m = none_masked in omega (arith, m)

  tall : height i.trace ≡ 2 ^ log_rows_of i
  tall = let k = H.power.0 in let e = H.power.1 in e ∙ ap (λ j. 2 ^ j) (sym (log_of_power (height i.trace) k e))

  trace_rows : HaveTraceRows {E = E} (2 ^ log_rows_of i) (traces_of t) no_rows
  trace_rows = record {
    tall = tall;
    main = record { fills = H.fills; tall = λ _. tall };
    preprocessed = some_tall (height i.trace) (2 ^ log_rows_of i) (declaration i.air).preprocessed tall W.rows H.prepared;
    permutation = no_rows_tall (2 ^ log_rows_of i);
    periods = subst (λ n. All (λ (column : List F). IsPeriod n (length column)) (declaration i.air).periodic) tall H.periods;
  }

  pub table_traced : IsTraced c t
  table_traced =
      let m = none_masked in
      let least = H.least in
      record {
        width = H.width;
        some = H.some;
        rows = subst (λ n. HaveTraceRows {E = E} (2 ^ n) (traces_of t) no_rows) (sym rows_are) trace_rows;
        least = omega (arith, m, least);
        most = H.most;
        publics = H.publics;
      }

  -- packing keeps the number of chunks
  parts_kept : log_chunks_with c.field.ring 0 (log_rows_of i) (source_of_instance c declaration trees interactions i) t.lookups
      ≡ log_chunks_with c.field.ring 0 (log_rows_of i) (source_of_instance c declaration trees interactions i) (unpacked_lookups (source_of_instance c declaration trees interactions i))
  parts_kept =
      let s = source_of_instance c declaration trees interactions i in
      let own = own_budget c.field.ring 0 (log_rows_of i) s in
      let same : max own 0 ≡ own = omega arith in
      packing_keeps c.field.ring s.declaration s.trees 0 0 (2 ^ (log_rows_of i - 0)) (max own 0) (unpacked_lookups s) (omega arith) (pow_pos (log_rows_of i - 0)) (own_lookups s.declaration s.interactions W.interactions)
      (subst (λ n. n ≤ own) (sym same) (omega arith))

  pub parts_are : log_parts c t ≡ log_chunks_with c.field.ring 0 (log_rows_of i) (source_of_instance c declaration trees interactions i) (unpacked_lookups (source_of_instance c declaration trees interactions i))
  parts_are =
      let m = none_masked in
      let n = log_rows_of i in
      let same : chunks_of_table c.field.ring (masks c) (2 ^ log_rows c t) t.table t.lookups ≡ chunks_of_table c.field.ring 0 (2 ^ (n - 0)) t.table t.lookups =
      λ j. chunks_of_table c.field.ring (m j) (2 ^ (n - m j)) t.table t.lookups in
      let kept : chunks_of_table c.field.ring 0 (2 ^ (n - 0)) t.table t.lookups ≡ log_chunks_with c.field.ring 0 n (source_of_instance c declaration trees interactions i) (unpacked_lookups (source_of_instance c declaration trees interactions i)) = parts_kept in
      omega (arith, m, same, kept)

  pub table_divided : HasQuotientDomain c t
  table_divided =
      let room = H.room in
      let rows = rows_are in
      let parts = parts_are in
      let fits : log_rows c t + log_parts c t ≤ c.two_adicity = omega (arith, room, rows, parts) in
      shift_gives_domain c.field c.extension c.two_adicity inverse Z.fields (committed_alone c t) (quotient_shift c) (log_parts c t) fits Z.shift (Z.shifted (log_rows c t + log_parts c t) fits)
