-- The matrices that a batch commits to: each has columns, a row for each point of its domain, and no more than 2^most rows.
use Rattle.std.proofs.Common.{◌≡◌, ℕ, zero, suc, ◌+◌, ◌*◌, ◌^◌, ◌<◌, ◌≤◌, false, cond, List, [], ◌∷◌, length, refl, sym, ◌∙◌, ap, subst, arith}
use Rattle.std.specs.Prelude.{All, option_to_list}
use Rattle.std.specs.List.{flat_map}
use Rattle.std.proofs.lemmas.List.Elements.{All-append, All-cons, All-nil}
use Rattle.p3_field.specs.Domain.{CosetData, subgroup}
use Rattle.p3_field.specs.Laws.Tabulate.{length-tabulate}
use Rattle.p3_field.specs.Poly.{tabulate}
use Rattle.p3_matrix.specs.Matrix.{Rows, height}
use Rattle.p3_matrix.specs.Laws.Flattened.{height-pieces}
use Rattle.batch_config.specs.Setting.{Setting, masks}
use Rattle.law_committed.specs.Fields.{FieldsLaws}
use Rattle.law_committed.specs.Rows.{flattened_matrix}
use Rattle.law_committed.specs.Laws.Degrees.{all_tabulate}
use Rattle.law_valid.specs.Laws.Columns.{pieces_height}
use Rattle.law_valid.specs.Traced.{TracedTable, declared, log_parts, log_rows}
use Rattle.law_valid.specs.Valid.{IsTraced}
use Rattle.law_honest.specs.HonestProof.{Prover, chunk_matrices, chunk_rows, columns_for, committed_table, permutation_columns, permutation_matrices, quotient_row, where_some}
use Rattle.law_honest.specs.Laws.Generated.{permutation_tall}

-- a matrix on its domain: one to `widest` columns, and a row for each of up to 2^most points
pub record IsSized {F : Type 0} (most widest : ℕ) (e : CosetData F × Rows F) : Type 0 where
  pub has_columns : 0 < e.1.width
  pub narrow : e.1.width ≤ widest
  pub height_is : height e.1 ≡ 2 ^ e.0.log_size
  pub low : e.0.log_size ≤ most

-- what holds of each item of each list holds of the items of the lists one after another
pub all_flat : {Y : Type 0} (P : Y → Type 0) (g : ℕ → List Y) (n : ℕ) (q : ℕ → ℕ) → ((i : ℕ) → i < n → All P (g (q i))) → All P (flat_map g (tabulate n q))
all_flat P g zero q h = All-nil P
all_flat P g (suc n) q h = All-append P (g (q zero)) (flat_map g (tabulate n (λ i. q (suc i)))) (h zero (omega arith)) (all_flat P g n (λ i. q (suc i)) (λ i l. h (suc i) (omega (arith, l))))

-- of an item that is there where a list isn't empty
pub all_where : {A Y : Type 0} (P : Y → Type 0) (ls : List A) (y : Y) → (0 < length ls → P y) → All P (option_to_list (where_some ls y))
all_where P [] y h = All-nil P
all_where P (l ∷ ls) y h = All-cons P y [] (h (omega arith)) (All-nil P)

module _ {S F E C : Type 0} (c : Setting S F E C) (p : Prover F E C) (t : TracedTable F) (challenges : List E) {inverse : E → E} (L : FieldsLaws c.field c.extension c.two_adicity inverse) (T : IsTraced c t) (plain : c.zk ≡ false)
    (most widest : ℕ) (low : t.degree_bits ≤ most) where
  pub rows_log : log_rows c t ≡ t.degree_bits
  rows_log = let m : masks c ≡ 0 = ap (λ b. cond b 1 0) plain in omega (arith, m)

  -- the trace
  pub main_sized : (declared t).width ≤ widest → IsSized most widest (subgroup c.field.ring t.degree_bits, t.trace)
  main_sized narrow = record {
    has_columns = let w = T.width in let s = T.some in omega (arith, w, s);
    narrow = let w = T.width in omega (arith, w, narrow);
    height_is = T.rows.tall ∙ ap (λ k. 2 ^ k) rows_log;
    low = low;
  }

  -- the permutation columns, where there are lookups
  columns_wide : (n : ℕ) → 0 < n → (columns_for c p t challenges n).width ≡ n + 1
  columns_wide zero h = absurd (omega (arith, h))
  columns_wide (suc n) h = refl

  product_pos : (m n : ℕ) → 0 < m → 0 < n → 0 < m * n
  product_pos zero n a b = absurd (omega (arith, a))
  product_pos (suc m) n a b = omega (arith, b)

  permutation_sized_alone : 0 < length t.lookups → (length t.lookups + 1) * c.extension.dimension ≤ widest
      → IsSized most widest (subgroup c.field.ring t.degree_bits, flattened_matrix c.extension (permutation_columns c p t challenges))
  unfolding permutation_columns
  permutation_sized_alone some narrow =
      let m = columns_for c p t challenges (length t.lookups) in
      let wide = columns_wide (length t.lookups) some in
      let flat = flattened_matrix c.extension m in
      let tall : 0 < m.width → height m ≡ 2 ^ log_rows c t = (permutation_tall c p t challenges).tall in
      record {
        has_columns = product_pos m.width c.extension.dimension (omega (arith, wide)) L.vector.positive;
        narrow = subst (λ w. w * c.extension.dimension ≤ widest) (sym wide) narrow;
        height_is = height-pieces c.extension.coefficients c.extension.dimension L.vector.coefficients_length L.vector.positive m flat refl refl ∙ (tall (omega (arith, wide)) ∙ ap (λ k. 2 ^ k) rows_log);
        low = low;
      }

  pub permutations_sized : (length t.lookups + 1) * c.extension.dimension ≤ widest → All (IsSized most widest) (permutation_matrices c p t challenges)
  permutations_sized narrow = all_where (IsSized most widest) t.lookups _ (λ some. permutation_sized_alone some narrow)

  -- the chunks of the quotient
  module _ (folding : E) (narrow : c.extension.dimension ≤ widest) where
    row_long : (n j : ℕ) → length (quotient_row c p t challenges folding (n + 2 ^ log_parts c t * j)) ≡ c.extension.dimension
    row_long n j = L.vector.coefficients_length _

    chunk_tall : (n : ℕ) → height (chunk_rows c p t challenges folding n) ≡ 2 ^ log_rows c t
    chunk_tall n =
        pieces_height (λ j. quotient_row c p t challenges folding (n + 2 ^ log_parts c t * j)) c.extension.dimension (row_long n) L.vector.positive (tabulate (2 ^ log_rows c t) (λ j. j))
        ∙ length-tabulate (2 ^ log_rows c t) (λ j. j)

    pub chunks_sized : All (IsSized most widest) (chunk_matrices c p t challenges folding)
    unfolding committed_table
    chunks_sized =
        all_tabulate (IsSized most widest) (2 ^ log_parts c t) _
        (λ n. record { has_columns = L.vector.positive; narrow = narrow; height_is = chunk_tall n; low = (let e = rows_log in let l = low in omega (arith, e, l)) })
