-- The values of the quotient of one table of a batch, whose columns are behind references.
use Rattle.std.proofs.Common.{◌≡◌, ℕ, ◌*◌, ◌^◌, ◌<◌, List, length, All, Option, sym, ◌∙◌, ap, subst, arith}
use Rattle.std.specs.Prelude.{option_to_list}
use Rattle.std.specs.Option.{option_copied, option_map}
use Rattle.std.proofs.lemmas.List.{length-map}
use denote.Bor.{Bor}
use Rattle.p3_field.specs.Domain.{CosetData}
use Rattle.p3_matrix.specs.Matrix.{Rows}
use Rattle.air_core.specs.Shape.{Declaration, width_of}
use Rattle.air_core.specs.Tree.{Tree}
use Rattle.commit_core.specs.Periodic.{IsPeriod}
use Rattle.p3_lookup.specs.Written.{Written, read, read_all}
use Rattle.batch_constraints.specs.BatchTrees.{table_trees}
use Rattle.prover_values.specs.Evaluations.{Evaluations, IsReadOn, quotient_values_on}
use Rattle.prover_values.specs.QuotientRows.{permutation_column_count as columns_for}
use Rattle.batch_config.specs.Setting.{Setting}
use Rattle.batch_setup.specs.Setup.{Instance}
use Rattle.law_committed.specs.Committed.{CommittedTable}
use Rattle.law_committed.specs.Fields.{FieldsLaws}
use Rattle.law_valid.specs.Traced.{TracedTable, constraints, log_rows}
use Rattle.law_honest.specs.HonestProof.{Prover, committed_table, honest_terminal}
use Rattle.prover_quotients.specs.ProverData.{HaveTableValues}
use Rattle.prover_quotients.specs.Tables.{IsTracedTable, table_of_instance}
use Rattle.prover_quotients.specs.declared.columns.TableColumns.{TableColumns}
use Rattle.prover_quotients.proofs.Shapes.{columns_read, has_terminal, main_wide, permutation_wide, preprocessed_wide}

-- the periodic columns of a table fit its rows
pub periods_here : {S F E C A : Type 0} (c : Setting S F E C) (declaration : A → Declaration F) (trees : A → List (Tree F)) (i j : Instance A F) (same : i ≡ j) (lookups : List (Written F))
    → IsTracedTable c (table_of_instance c declaration trees j (read_all lookups)) → (rows : CosetData F) → rows.log_size ≡ log_rows c (table_of_instance c declaration trees j (read_all lookups))
    → All (λ column. IsPeriod (2 ^ rows.log_size) (length column)) (declaration i.air).periodic
periods_here {F = F} c declaration trees i j same lookups T rows size =
    subst (λ (n : ℕ). All (λ (column : List F). IsPeriod (2 ^ n) (length column)) (declaration i.air).periodic) (sym size)
    (subst (λ x. All (λ (column : List F). IsPeriod (2 ^ log_rows c (table_of_instance c declaration trees j (read_all lookups))) (length column)) (declaration x.air).periodic) (sym same) T.is_traced.rows.periods)

module _ {S F E C A : Type 0} (c : Setting S F E C) (p : Prover F E C) (declaration : A → Declaration F) (trees : A → List (Tree F)) (i j : Instance A F) (same : i ≡ j) (lookups : List (Written F)) (challenges : List E)
    (L : FieldsLaws c.field c.extension c.two_adicity p.inverse) (T : IsTracedTable c (table_of_instance c declaration trees j (read_all lookups))) where
  abbrev table_of : Instance A F → TracedTable F
  table_of x = table_of_instance c declaration trees x (read_all lookups)

  own : IsTracedTable c (table_of i)
  own = subst (λ x. IsTracedTable c (table_of x)) (sym same) T

  -- where there are lookups there is a terminal
  pub terminals_here : (ls : List (Written F)) (sums : List E) → ls ≡ lookups → sums ≡ option_to_list (honest_terminal c p (table_of j) challenges) → 0 < length ls → 0 < length sums
  terminals_here ls sums all ends some =
      let reads : length (read_all lookups) ≡ length ls = length-map lookups (read {F = F}) ∙ sym (ap length all) in
      let there : 0 < length (read_all lookups) = omega (arith, reads, some) in
      subst (λ (l : List E). 0 < length l) (sym ends) (has_terminal c p (table_of j) challenges there)

  module _ (d : CosetData F) (v : TableColumns F) (H : HaveTableValues c.field d (committed_table c p (table_of j) challenges) v) where
    values : HaveTableValues c.field d (committed_table c p (table_of i) challenges) v
    values = subst (λ x. HaveTableValues c.field d (committed_table c p (table_of x) challenges) v) (sym same) H

    pub main_here : v.main.width ≡ (declaration i.air).width
    main_here = main_wide c p (table_of i) challenges L own d v values

    pub preprocessed_here : (m : Option (Bor (Rows F))) → option_copied m ≡ v.preprocessed → width_of (option_map (λ r. r.now) m) ≡ width_of (declaration i.air).preprocessed
    preprocessed_here m e = ap width_of e ∙ preprocessed_wide c p (table_of i) challenges L own d v values

    pub permutation_here : (m : Option (Bor (Rows F))) (ls : List (Written F)) → option_copied m ≡ v.permutation → ls ≡ lookups → width_of (option_map (λ r. r.now) m) ≡ columns_for (length ls) * c.extension.dimension
    permutation_here m ls e all =
        let reads : length (read_all lookups) ≡ length ls = length-map lookups (read {F = F}) ∙ sym (ap length all) in
        ap width_of e
        ∙ (permutation_wide c p (table_of i) challenges L own d v values ∙ ap (λ n. columns_for n * c.extension.dimension) reads)

    -- what is given is read on the table, whose quotient's values follow
    pub values_here : (rows : CosetData F) (m n : Option (Bor (Rows F))) (ls : List (Written F)) (publics : List F) (sums : List E) (alpha : E) (items : List E)
        → publics ≡ i.public_values → option_copied m ≡ v.permutation → option_copied n ≡ v.preprocessed → ls ≡ lookups → sums ≡ option_to_list (honest_terminal c p (table_of j) challenges) → rows.log_size ≡ log_rows c (table_of j)
        → ((k : CommittedTable F E) → k.log_height ≡ rows.log_size
        → IsReadOn c.field k d (record {
          main = v.main;
          preprocessed = option_map (λ r. r.now) n;
          permutation = option_map (λ r. r.now) m;
          public_values = publics;
          periodic = (declaration i.air).periodic;
          challenges = challenges;
          terminals = sums;
        })
        → items ≡ quotient_values_on c.field c.extension k (table_trees c.field.ring (trees i.air) (read_all ls)) alpha d)
        → items ≡ quotient_values_on c.field c.extension (committed_table c p (table_of j) challenges) (constraints c (table_of j)) alpha d
    unfolding committed_table
    values_here rows m n ls publics sums alpha items own_values first second all ends size given =
        let k = committed_table c p (table_of i) challenges in
        let sum_here : option_to_list (honest_terminal c p (table_of i) challenges) ≡ sums = ap (λ x. option_to_list (honest_terminal c p (table_of x) challenges)) same ∙ sym ends in
        let reading : Option (Rows F) → Option (Rows F) → Evaluations F E = λ a b. record {
          main = v.main;
          preprocessed = a;
          permutation = b;
          public_values = publics;
          periodic = (declaration i.air).periodic;
          challenges = challenges;
          terminals = sums;
        } in
        let plain : IsReadOn c.field k d (reading v.preprocessed v.permutation) = columns_read c p (table_of i) challenges L own d v values publics sums (sym own_values) sum_here in
        let read_on : IsReadOn c.field k d (reading (option_map (λ r. r.now) n) (option_map (λ r. r.now) m)) =
        subst (λ a. IsReadOn c.field k d (reading a (option_map (λ r. r.now) m))) (sym second)
        (subst (λ b. IsReadOn c.field k d (reading v.preprocessed b)) (sym first) plain) in
        given k (ap (λ x. log_rows c (table_of x)) same ∙ sym size) read_on
        ∙ ((λ q. quotient_values_on c.field c.extension k (table_trees c.field.ring (trees i.air) (read_all (all q))) alpha d)
        ∙ (λ q. quotient_values_on c.field c.extension (committed_table c p (table_of (same q)) challenges) (constraints c (table_of (same q))) alpha d))
