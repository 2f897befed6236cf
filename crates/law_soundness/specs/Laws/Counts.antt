-- How few challenges are unlucky for the tables of a batch.
use Rattle.std.proofs.Common.{ℕ, ◌<◌, ◌≤◌, List, length, get_or, map, refl, subst, arith}
use Rattle.std.specs.Prelude.{All, Contains, sum}
use Rattle.air_core.specs.Degree.{full_polynomial_degree}
use Rattle.p3_field.specs.Field.{TwoAdic, Extension}
use Rattle.air_core.specs.Laws.Greatest.{all_below_greatest}
use Rattle.batch_constraints.specs.Laws.Images.{all_of_map}
use Rattle.law_committed.specs.Batch.{DividedTable, IsUnluckyAlphaOfBatch, IsUnluckyZetaOfBatch}
use Rattle.law_committed.specs.Committed.{table_periods_of, row_count_of}
use Rattle.law_committed.specs.Fields.{FieldsLaws}
use Rattle.law_committed.specs.Laws.Counts.{few_alphas, few_alphas_at, few_zetas}
use Rattle.law_committed.specs.Unlucky.{AreDistinct, IsUnluckyAlpha, IsUnluckyAlphaAt, IsUnluckyZeta}
use Rattle.law_soundness.specs.Laws.Split.{few_of_some}
use Rattle.law_soundness.specs.UnluckyCounts.{HasLowDegrees, largest_full_degree, most_alphas, most_zetas}

module _ {F E : Type 0} (f : TwoAdic F) (e : Extension F E) (top : ℕ) (inverse : E → E) (L : FieldsLaws f e top inverse) where
  -- of one table
  pub few_table_alphas : (t : DividedTable F E) (alphas : List E) → AreDistinct e.ring.zero alphas → All (IsUnluckyAlpha f e t.table t.trees) alphas → length alphas ≤ most_alphas t
  few_table_alphas t alphas d h = few_alphas f e top inverse L t.table t.trees alphas d h

  -- at one row, and without constraints
  pub few_row_alphas : (t : DividedTable F E) (row : ℕ) (alphas : List E) → 0 < length t.trees → AreDistinct e.ring.zero alphas → All (IsUnluckyAlphaAt f e t.table t.trees row) alphas
      → length alphas < length t.trees
  few_row_alphas t row alphas some d h = few_alphas_at f e top inverse L t.table t.trees row alphas some d h

  degrees_below : (t : DividedTable F E) → All (λ tree. full_polynomial_degree (row_count_of t.table) (table_periods_of t.table) tree ≤ largest_full_degree t) t.trees
  degrees_below t =
      let degree = full_polynomial_degree (row_count_of t.table) (table_periods_of t.table) in
      all_of_map (λ n. n ≤ largest_full_degree t) degree t.trees (map degree t.trees) refl (all_below_greatest 0 (map degree t.trees) (largest_full_degree t) (omega arith))

  pub few_table_zetas : (t : DividedTable F E) (alpha : E) (zetas : List E) → t.table.log_height ≤ top → HasLowDegrees f t → AreDistinct e.ring.zero zetas
      → All (IsUnluckyZeta f e t.table t.trees t.quotient alpha) zetas → length zetas ≤ most_zetas t
  few_table_zetas t alpha zetas fits B d h = few_zetas f e top inverse L t.table t.trees t.quotient alpha fits B.table B.quotient (largest_full_degree t) (degrees_below t) zetas d h

  -- of one of a batch
  pub few_contained_zetas : (batch : List (DividedTable F E)) → All (λ t. t.table.log_height ≤ top) batch → All (HasLowDegrees f) batch → (t : DividedTable F E) (alpha : E) (zetas : List E)
      → Contains batch t → AreDistinct e.ring.zero zetas → All (IsUnluckyZeta f e t.table t.trees t.quotient alpha) zetas → length zetas ≤ most_zetas t
  few_contained_zetas batch fits low t alpha zetas (k, within, same) d h =
      few_table_zetas t alpha zetas (subst (λ (u : DividedTable F E). u.table.log_height ≤ top) same (fits k t within)) (subst (HasLowDegrees f) same (low k t within)) d h

  -- of a batch: the sum over its tables
  pub few_batch_alphas : (batch : List (DividedTable F E)) (alphas : List E) → AreDistinct e.ring.zero alphas → All (IsUnluckyAlphaOfBatch f e batch) alphas
      → length alphas ≤ sum (map most_alphas batch)
  few_batch_alphas batch alphas d h =
      few_of_some e.ring.zero (λ t. IsUnluckyAlpha f e t.table t.trees) most_alphas batch (λ k u l xs. few_table_alphas (get_or batch k u) xs) alphas d h

  pub few_batch_zetas : (batch : List (DividedTable F E)) (alpha : E) (zetas : List E) → All (λ t. t.table.log_height ≤ top) batch → All (HasLowDegrees f) batch → AreDistinct e.ring.zero zetas
      → All (IsUnluckyZetaOfBatch f e batch alpha) zetas → length zetas ≤ sum (map most_zetas batch)
  few_batch_zetas batch alpha zetas fits low d h =
      few_of_some e.ring.zero (λ t. IsUnluckyZeta f e t.table t.trees t.quotient alpha) most_zetas batch
      (λ k u l xs. few_table_zetas (get_or batch k u) alpha xs (fits k u l) (low k u l)) zetas d h
