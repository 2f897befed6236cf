-- The heights of a traced batch's traces, and the numbers of its quotients' chunks.
use Rattle.std.proofs.Common.{◌≡◌, ℕ, ◌^◌, ◌<◌, false, cond, List, length, get_or, map, sym, ◌∙◌, ap, subst, arith}
use Rattle.std.proofs.lemmas.List.{get_or-map}
use Rattle.std.proofs.lemmas.Nat.{pow_pos}
use Rattle.p3_field.specs.Domain.{CosetData}
use Rattle.p3_field.specs.Laws.Tabulate.{tabulate_same}
use Rattle.p3_field.specs.Poly.{tabulate}
use Rattle.p3_matrix.specs.Matrix.{Rows, height}
use Rattle.air_core.specs.Shape.{Declaration}
use Rattle.air_core.specs.Tree.{Tree}
use Rattle.p3_lookup.specs.Written.{Written, read_all}
use Rattle.batch_config.specs.Setting.{Setting, masks}
use Rattle.batch_setup.specs.Setup.{ArePowers, Instance, airs_of, bits_of}
use Rattle.verifier_shape.specs.ShapeChecks.{chunks_of_table}
use Rattle.batch_statement.specs.Statement.{statement_with, Statement, WrittenCommon, tables_of}
use Rattle.law_valid.specs.Laws.Holding.{lookups_declared}
use Rattle.law_valid.specs.Traced.{TracedTable, log_parts, log_rows, no_rows, traced_at}
use Rattle.law_valid.specs.Valid.{IsTracedBatch}
use Rattle.law_committed.specs.Fields.{FieldsLaws}
use Rattle.prover_openings.specs.Counts.{IsCountable, log_count_at}
use Rattle.prover_openings.proofs.Given.{count_is}

module _ {S F E C A : Type 0} (c : Setting S F E C) (commitment_of : List (CosetData F × Rows F) → C) (declaration : A → Declaration F) (trees : A → List (Tree F)) (instances : List (Instance A F)) (common : WrittenCommon F C)
    (B : IsTracedBatch c commitment_of (statement_with (tables_of declaration trees (airs_of instances)) (map (λ i. i.public_values) instances) common) (map (λ i. i.trace) instances) (bits_of (masks c) instances)) (plain : c.zk ≡ false) where
  abbrev s : Statement F C
  s = statement_with (tables_of declaration trees (airs_of instances)) (map (λ i. i.public_values) instances) common

  abbrev traces : List (Rows F)
  traces = map (λ i. i.trace) instances

  abbrev table_at : ℕ → TracedTable F
  table_at i = traced_at s traces (bits_of (masks c) instances) i

  abbrev table_count : ℕ
  table_count = length s.tables

  n : table_count ≡ length instances
  n = count_is declaration trees instances

  masked : masks c ≡ 0
  masked = ap (λ z. cond z 1 0) plain

  tall : (i : ℕ) → i < table_count → height (table_at i).trace ≡ 2 ^ log_rows c (table_at i)
  tall i h = (B.traced i h).rows.tall

  -- each height is a power of two
  pub powers : ArePowers instances
  powers k d l =
      let e = n in
      let there : get_or (map (λ (i : Instance A F). i.trace) instances) k no_rows ≡ (get_or instances k d).trace = get_or-map (λ (i : Instance A F). i.trace) instances k d no_rows l in
      (log_rows c (table_at k), sym (ap height there) ∙ tall k (omega (arith, l, e)))

  log_count_is : (i : ℕ) → i < table_count → log_count_at c.field.ring s.tables traces s.common.lookups i ≡ log_parts c (table_at i)
  log_count_is i h =
      let t = table_at i in
      let same : log_count_at c.field.ring s.tables traces s.common.lookups i ≡ chunks_of_table c.field.ring (masks c) (2 ^ log_rows c t) t.table t.lookups =
      λ k. chunks_of_table c.field.ring (sym masked k) (tall i h k) t.table t.lookups in
      let m = masked in
      omega (arith, same, m)

  -- so are the numbers of chunks that are computed of these lookups
  pub counts_are : (ls : List (List (Written F))) → ls ≡ common.lookups → (counts : List ℕ) → counts ≡ tabulate (length instances) (λ i. 2 ^ log_count_at c.field.ring s.tables traces (map read_all ls) i) → counts ≡ tabulate table_count (λ i. 2 ^ log_parts c (table_at i))
  counts_are ls same counts e =
      e
      ∙ ((λ k. tabulate (length instances) (λ i. 2 ^ log_count_at c.field.ring s.tables traces (map read_all (same k)) i))
      ∙ (ap (λ m. tabulate m (λ i. 2 ^ log_count_at c.field.ring s.tables traces s.common.lookups i)) (sym n)
      ∙ tabulate_same table_count (λ i. 2 ^ log_count_at c.field.ring s.tables traces s.common.lookups i) (λ i. 2 ^ log_parts c (table_at i)) (λ i h. ap (λ k. 2 ^ k) (log_count_is i h))))

  countable_own : (inverse : E → E) → FieldsLaws c.field c.extension c.two_adicity inverse → c.two_adicity < 64 → (i : ℕ) → i < length instances
      → IsCountable c.field.ring s.tables traces s.common.lookups i
  countable_own inverse L small i l =
      let e = n in
      let h : i < table_count = omega (arith, l, e) in
      let rows = tall i h in
      let logs = log_count_is i h in
      let fits = (B.domains i h).fits in
      record {
        lookups_are = lookups_declared c commitment_of s traces (bits_of (masks c) instances) inverse L B i h;
        has_rows = subst (λ m. 0 < m) (sym rows) (pow_pos (log_rows c (table_at i)));
        fits = omega (arith, logs, fits, small);
      }

  -- which can be computed
  pub countable : (ls : List (List (Written F))) → ls ≡ common.lookups → (inverse : E → E) → FieldsLaws c.field c.extension c.two_adicity inverse → c.two_adicity < 64 → (i : ℕ) → i < length instances
      → IsCountable c.field.ring s.tables traces (map read_all ls) i
  countable ls same inverse L small i l = subst (λ l. IsCountable c.field.ring s.tables traces (map read_all l) i) (sym same) (countable_own inverse L small i l)
