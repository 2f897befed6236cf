-- What is generated for a table with lookups is its honest permutation columns, with its terminal, or the zero denominator that is the event.
use Rattle.std.proofs.Common.{◌≡◌, ℕ, suc, ◌+◌, ◌-◌, ◌^◌, ◌<◌, List, [], ◌∷◌, length, Option, Some, refl, sym, ◌∙◌, ap, subst, arith}
use Rattle.std.specs.Prelude.{Ok}
use Rattle.p3_field.specs.Laws.Tabulate.{tabulate_same}
use Rattle.p3_field.specs.Poly.{tabulate}
use Rattle.p3_matrix.specs.Matrix.{FillsRows, Rows, cell_at, column, height}
use Rattle.p3_matrix.specs.Laws.Cells.{same_matrix}
use Rattle.p3_lookup.specs.declared.terminal.LookupTerminal.{LookupTerminal}
use Rattle.p3_lookup.specs.Generated.{IsFirstZeroOf, IsGenerated}
use Rattle.p3_lookup.specs.Honest.{Argument, running_sum}
use Rattle.batch_config.specs.Setting.{Setting}
use Rattle.batch_statement.specs.Statement.{Statement}
use Rattle.law_valid.specs.Traced.{TracedTable, log_rows, traced_at}
use Rattle.law_honest.specs.HonestProof.{FractionsAt, IsDenominatorZero, IsLookupGround, Prover, argument_at, argument_of_table, columns_for, permutation_columns, honest_terminal, where_some}
use Rattle.law_honest.specs.Laws.Generated.{cell_is, columns_tall}

where_there : {A B : Type 0} (ls : List A) (x : B) → 0 < length ls → Some x ≡ where_some ls x
where_there [] x h = absurd (omega (arith, h))
where_there (l ∷ ls) x h = refl

module _ {S F E C : Type 0} (c : Setting S F E C) (p : Prover F E C) (t : TracedTable F) (challenges : List E) (some : 0 < length t.lookups) (tall : height t.trace ≡ 2 ^ log_rows c t)
    (m : Rows E) (terminal : LookupTerminal E) (fills : FillsRows m.values m.width) (G : IsGenerated (argument_of_table c p t challenges) (height t.trace) (Ok (m, terminal))) where
  abbrev arg : Argument F E
  arg = argument_of_table c p t challenges

  abbrev rows : ℕ
  rows = 2 ^ log_rows c t

  abbrev n : ℕ
  n = length t.lookups - 1

  counted : length t.lookups ≡ suc n
  counted = omega (arith, some)

  abbrev honest : Rows E
  honest = columns_for c p t challenges (suc n)

  height_is : height m ≡ rows
  height_is = G.1 ∙ tall

  honest_height : height honest ≡ rows
  honest_height = (columns_tall c p t challenges (suc n)).tall (omega arith)

  same_column : (j : ℕ) → j < honest.width → column c.extension.ring.zero m j ≡ column c.extension.ring.zero honest j
  unfolding column
  same_column j l =
      let z = c.extension.ring.zero in
      ap (λ h. tabulate h (λ i. cell_at z m i j)) height_is
      ∙ (tabulate_same rows (λ i. cell_at z m i j) (λ i. cell_at z honest i j) (λ i b.
      let low : i < height t.trace = omega (arith, b, tall) in
      G.2 i j low (let e = counted in omega (arith, l, e)) ∙ sym (cell_is c p t challenges n i j b l))
      ∙ ap (λ h. tabulate h (λ i. cell_at z honest i j)) (sym honest_height))

  same_columns : m ≡ honest
  same_columns =
      let e = counted in
      same_matrix c.extension.ring.zero honest m (columns_tall c p t challenges (suc n)).fills fills (G.0 ∙ ap (λ k. k + 1) e) (height_is ∙ sym honest_height) same_column

  pub columns_are : m ≡ permutation_columns c p t challenges
  unfolding permutation_columns
  columns_are = same_columns ∙ ap (columns_for c p t challenges) (sym counted)

  pub terminal_is : Some terminal.0 ≡ honest_terminal c p t challenges
  unfolding honest_terminal
  terminal_is = ap Some (G.3 ∙ ap (running_sum arg) tall) ∙ where_there t.lookups (running_sum arg rows) some

-- the answer that a denominator is zero, where the tables before have their fractions
pub fault_is : {S F E C : Type 0} (c : Setting S F E C) (p : Prover F E C) (s : Statement F C) (traces : List (Rows F)) (degree_bits : List ℕ) (w : Option F) (i row lookup tuple : ℕ)
    → IsLookupGround c p s traces degree_bits w → i < length s.tables → ((j : ℕ) → j < i → FractionsAt c p s traces degree_bits w j)
    → height (traced_at s traces degree_bits i).trace ≡ 2 ^ log_rows c (traced_at s traces degree_bits i)
    → IsFirstZeroOf (argument_at c p s traces degree_bits w i) (height (traced_at s traces degree_bits i).trace) row lookup tuple → IsDenominatorZero c p s traces degree_bits i row
fault_is c p s traces degree_bits w i row lookup tuple found within before tall zero = record {
  witness = w;
  is_ground = found;
  within = within;
  before = before;
  lookup = lookup;
  tuple = tuple;
  first = subst (λ n. IsFirstZeroOf (argument_at c p s traces degree_bits w i) n row lookup tuple) tall zero;
}
