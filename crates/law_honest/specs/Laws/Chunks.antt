-- The chunks of an honest quotient are what splitting its values gives.
use Rattle.std.proofs.Common.{◌≡◌, ℕ, suc, ◌≤◌, ◌+◌, ◌*◌, ◌^◌, ◌<◌, inl, inr, List, length, get_or, All, sym, ◌∙◌, ap, arith}
use Rattle.std.proofs.Math.Nat.{mul-le-mul_right}
use Rattle.std.proofs.Math.Pow.{pow-lt}
use Rattle.std.proofs.lemmas.Bool.{cases_lt}
use Rattle.std.proofs.lemmas.Nat.{pow-add}
use Rattle.std.proofs.lemmas.Option.{slice_get-get_or}
use Rattle.p3_field.specs.Domain.{CosetData, subgroup}
use Rattle.p3_field.specs.Laws.Tabulate.{tabulate_items, tabulate_same}
use Rattle.p3_matrix.specs.Matrix.{FillsRows, Rows}
use Rattle.commit_core.specs.Commitments.{AreParts}
use Rattle.commit_core.specs.Laws.Parts.{one_split}
use Rattle.commit_core.specs.Space.{IsPart, IsSplit}
use Rattle.batch_config.specs.Setting.{Setting}
use Rattle.law_committed.specs.Committed.{CommittedTable}
use Rattle.law_committed.specs.Fields.{FieldsLaws}
use Rattle.law_committed.specs.Quotient.{chunk_domain, quotient_domain}
use Rattle.law_valid.specs.Traced.{TracedTable, log_parts, log_rows, no_rows, quotient_shift}
use Rattle.law_honest.specs.HonestProof.{HasQuotientRows, Prover, chunk_matrices, chunk_rows, committed_table}
use Rattle.law_honest.specs.Laws.ChunkRows.{chunk_fills, chunk_row, chunk_tall}

-- powers of two of one size have one exponent
one_exponent : (a b : ℕ) → 2 ^ a ≡ 2 ^ b → a ≡ b
one_exponent a b e = elim (cases_lt a b) [
  | inl less ↦ let l = pow-lt less in absurd (omega (arith, l, e))
  | inr more ↦ elim (cases_lt b a) [
    | inl less ↦ let l = pow-lt less in absurd (omega (arith, l, e))
    | inr same ↦ omega (arith, more, same)
  ]
]

-- place n in group j of groups of this size
below : (n j groups size : ℕ) → n < size → j < groups → n + size * j < groups * size
below n j groups size low inside =
    let most : suc j * size ≤ groups * size = mul-le-mul_right size (omega (arith, inside)) in
    let split : suc j * size ≡ size + size * j = omega arith in
    omega (arith, most, split, low)

module _ {S F E C : Type 0} (c : Setting S F E C) (p : Prover F E C) (t : TracedTable F) (challenges : List E) (L : FieldsLaws c.field c.extension c.two_adicity p.inverse) (alpha : E) where
  abbrev k : CommittedTable F E
  k = committed_table c p t challenges

  abbrev rows : ℕ
  rows = 2 ^ log_rows c t

  abbrev parts : ℕ
  parts = 2 ^ log_parts c t

  abbrev whole : CosetData F
  whole = quotient_domain c.field c.extension k (quotient_shift c) (log_parts c t)

  -- a chunk is a part of the quotient's values
  chunk_split : (m : Rows F) → HasQuotientRows c p t challenges alpha m → (n : ℕ) → n < parts → IsSplit m parts n (chunk_rows c p t challenges alpha n)
  chunk_split m H n low = record {
    width_is = sym H.width_is;
    height_is = ap (λ h. h * parts) (chunk_tall c p t challenges L alpha n) ∙ sym H.height_is;
    row_is = λ j b.
        let inside : j < rows = let q = chunk_tall c p t challenges L alpha n in omega (arith, b, q) in
        chunk_row c p t challenges L alpha n j inside ∙ sym (H.row_is (n + parts * j) (below n j rows parts low inside));
  }

  -- on its part of the quotient's domain
  one_domain : (n : ℕ) (d : CosetData F) → IsPart c.field.ring c.field.root whole parts n d → d ≡ chunk_domain c.field c.extension k (quotient_shift c) (log_parts c t) n
  unfolding committed_table
  one_domain n d P =
      let sizes : 2 ^ (d.log_size + log_parts c t) ≡ 2 ^ (log_rows c t + log_parts c t) = pow-add 2 d.log_size (log_parts c t) ∙ P.size_is in
      let same : d.log_size ≡ log_rows c t = let e = one_exponent (d.log_size + log_parts c t) (log_rows c t + log_parts c t) sizes in omega (arith, e) in
      λ i. record { shift = P.shift_is i; log_size = same i }

  -- so the parts of the quotient's domain with their parts of its values are the chunks
  pub split_is_chunks : (m : Rows F) → HasQuotientRows c p t challenges alpha m → (pieces : List (CosetData F × Rows F)) → All (λ (e : CosetData F × Rows F). FillsRows e.1.values e.1.width) pieces
      → AreParts (λ (n : ℕ) (d : CosetData F). IsPart c.field.ring c.field.root whole parts n d) m parts pieces → pieces ≡ chunk_matrices c p t challenges alpha
  split_is_chunks m H pieces fill A =
      let none : CosetData F × Rows F = (subgroup c.field.ring 0, no_rows) in
      let chunk : ℕ → CosetData F × Rows F = λ n. (chunk_domain c.field c.extension k (quotient_shift c) (log_parts c t) n, chunk_rows c p t challenges alpha n) in
      tabulate_items none pieces parts A.count
      ∙ tabulate_same parts (λ n. get_or pieces n none) chunk (λ n b.
      let inside : n < length pieces = let q = A.count in omega (arith, b, q) in
      let P = A.each n (get_or pieces n none) (slice_get-get_or pieces n none inside) in
      let domain = one_domain n (get_or pieces n none).0 P.0 in
      let rows_same = one_split m (get_or pieces n none).1 (chunk_rows c p t challenges alpha n) parts n c.field.ring.zero (omega (arith, b)) (fill n none inside) (chunk_fills c p t challenges L alpha n) P.1 (chunk_split m H n b) in
      λ i. (domain i, rows_same i))
