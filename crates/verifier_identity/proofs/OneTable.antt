-- The checks of one table, from what the code computes.
use Rattle.std.proofs.Common.{◌≡◌, ℕ, ◌*◌, ◌^◌, ◌<◌, List, Option, None, Some, Result, length, map, All, refl, sym, ◌∙◌, subst}
use Rattle.std.specs.Prelude.{option_map, option_to_list}
use Rattle.std.proofs.lemmas.List.{length-map}
use Rattle.p3_field.specs.Checks.{NoneFails, FirstFails}
use Rattle.p3_field.specs.Domain.{CosetData, subgroup}
use Rattle.p3_field.specs.Field.{TwoAdic, Extension}
use Rattle.air_core.specs.Shape.{width_of}
use Rattle.p3_lookup.specs.Written.{Written, read, read_all}
use Rattle.p3_lookup.specs.declared.terminal.LookupTerminal.{LookupTerminal}
use Rattle.p3_uni_stark.specs.Recombine.{recombined}
use Rattle.batch_constraints.specs.BatchTrees.{AreLookupsOf, table_trees}
use Rattle.verifier_identity.specs.Identity.{OpensWhatIsRead, OpenedTable, identity_checks}
use Rattle.verifier_identity.specs.Laws.Opened.{declared_lengths_enough}
use Rattle.batch_statement.specs.Proof.{OpenedWithLookups}
use Rattle.batch_statement.specs.Statement.{AirTable}
use Rattle.batch_statement.specs.declared.error.BatchVerificationError.{BatchVerificationError}
use Rattle.verifier_shape.specs.Laws.Verdicts.{refused, refused_before, verdict, verdict_after}
use Rattle.verifier_shape.specs.ShapeChecks.{table_checks}
use Rattle.batch_statement.specs.Words.{is_there}
use Rattle.batch_statement.specs.Verdict.{IsDecided, IsRefusal, IsVerdict}
use Rattle.verifier_identity.specs.TableIdentity.{identity_of_table, opened_table, periods_check, verified}
use Rattle.verifier_identity.proofs.Lengths.{declared_lengths}

same_presence : {E : Type 0} (t : Option (LookupTerminal E)) → is_there t ≡ is_there (option_map (λ u. u.0) t)
same_presence t = elim t as (λ v. is_there v ≡ is_there (option_map (λ u. u.0) v)) [ None ↦ refl | Some u ↦ refl ]

module _ {F E : Type 0} (R : Type 0) (f : TwoAdic F) (e : Extension F E) (i log_height : ℕ) (t : AirTable F) (written : List (Written F)) (publics : List F) (challenges : List E)
    (terminal : Option (LookupTerminal E)) (domains : List (CosetData F)) (alpha zeta : E) (o : OpenedWithLookups E) where
  -- its periodic columns
  pub columns_refused : (height : ℕ) (x : BatchVerificationError R) → height ≡ 2 ^ log_height → FirstFails (periods_check {R = R} height (map length t.declaration.periodic)) x
      → IsRefusal (identity_of_table {R = R} f e i log_height t (read_all written) publics challenges (option_map (λ u. u.0) terminal) domains alpha zeta o) x
  columns_refused height x same h =
      refused_before (periods_check {R = R} (2 ^ log_height) (map length t.declaration.periodic)) _ x
      (refused _ x (subst (λ n. FirstFails (periods_check {R = R} n (map length t.declaration.periodic)) x) same h))

  -- what is read of a table, as the code has it: the domain and the terminal's list by their equations
  module _ (domain : CosetData F) (terminals : List E) (is_domain : domain ≡ subgroup f.ring log_height) (are_terminals : terminals ≡ option_to_list (option_map (λ u. u.0) terminal))
      (reads : OpenedTable F E) (are_read : reads ≡ opened_table f e domain t.declaration (length written) publics challenges terminals zeta o) where
    read_is : reads ≡ opened_table f e (subgroup f.ring log_height) t.declaration (length (read_all written)) publics challenges (option_to_list (option_map (λ u. u.0) terminal)) zeta o
    read_is = are_read ∙ (λ j. opened_table f e (is_domain j) t.declaration (sym (length-map written read) j) publics challenges (are_terminals j) zeta o)

    -- each cell is opened
    pub all_are_opened : (ls : List (Written F)) → ls ≡ written → All (λ c. c < t.declaration.width) t.declaration.main_next
        → All (λ c. c < width_of t.declaration.preprocessed) t.declaration.preprocessed_next → AreLookupsOf t.declaration (read_all written)
        → NoneFails (table_checks {R = R} i t.declaration (length publics) (length domains) e.dimension (length (read_all written)) o (is_there terminal))
        → length challenges ≡ 2 * length (read_all written) → OpensWhatIsRead t.declaration (read_all ls) reads
    all_are_opened ls same main preprocessed are shape pairs =
        let lookups = read_all written in
        let lengths = declared_lengths R i t.declaration (length publics) (length domains) e.dimension (length lookups) o (is_there terminal) shape
        f e (subgroup f.ring log_height) publics challenges (option_map (λ u. u.0) terminal) zeta refl (same_presence terminal) pairs in
        let values = opened_table f e (subgroup f.ring log_height) t.declaration (length lookups) publics challenges (option_to_list (option_map (λ u. u.0) terminal)) zeta o in
        let opened : OpensWhatIsRead t.declaration lookups values = declared_lengths_enough t.declaration lookups values main preprocessed are lengths in
        let back : values ≡ reads = sym read_is in
        subst (λ (x : OpenedTable F E). OpensWhatIsRead t.declaration (read_all ls) x) back (subst (λ (ws : List (Written F)). OpensWhatIsRead t.declaration (read_all ws) values) (sym same) opened)

    -- the verdict on its identity is that of all its checks where its periodic columns fit
    pub decided : {T : Type 0} (height : ℕ) (d : CosetData F) (a x : E) (ls : List (Written F)) (quotient : E) (r : Result T (BatchVerificationError R)) → height ≡ 2 ^ log_height → d ≡ domain
        → a ≡ alpha → x ≡ zeta → ls ≡ written → quotient ≡ recombined f e domains o.base.quotient_chunks zeta
        → NoneFails (periods_check {R = R} height (map length t.declaration.periodic))
        → IsDecided (map verified (identity_checks f e {R = R} (Some i) d a x reads (table_trees f.ring t.trees (read_all ls)) quotient)) r
        → IsVerdict (identity_of_table {R = R} f e i log_height t (read_all written) publics challenges (option_map (λ u. u.0) terminal) domains alpha zeta o) r
    decided height d a x ls quotient r same is_d is_a is_x are_ls is_quotient fit h =
        let checks = map verified (identity_checks f e {R = R} (Some i) (subgroup f.ring log_height) alpha zeta
        (opened_table f e (subgroup f.ring log_height) t.declaration (length (read_all written)) publics challenges (option_to_list (option_map (λ u. u.0) terminal)) zeta o)
        (table_trees f.ring t.trees (read_all written)) (recombined f e domains o.base.quotient_chunks zeta)) in
        let here : CosetData F = subgroup f.ring log_height in
        let at : d ≡ here = is_d ∙ is_domain in
        let agree : map verified (identity_checks f e {R = R} (Some i) d a x reads (table_trees f.ring t.trees (read_all ls)) quotient) ≡ checks =
        λ j. map verified (identity_checks f e {R = R} (Some i) (at j) (is_a j) (is_x j) (read_is j) (table_trees f.ring t.trees (read_all (are_ls j))) (is_quotient j)) in
        verdict_after (periods_check {R = R} (2 ^ log_height) (map length t.declaration.periodic)) checks r
        (subst (λ n. NoneFails (periods_check {R = R} n (map length t.declaration.periodic))) same fit) (verdict checks r (subst (λ cs. IsDecided cs r) agree h))
