-- There is one verdict on the tables' identities and on the terminals.
use Rattle.std.proofs.Common.{◌≡◌, ℕ, ◌^◌, List, [], ◌∷◌, length, map, All, Option, Some, refl, sym, ◌∙◌, ap}
use Rattle.std.specs.Prelude.{option_to_list}
use Rattle.std.proofs.lemmas.Option.{slice_get-get_or}
use Rattle.p3_field.specs.Checks.{Check, NoneFails, of_items, HasOneRefusal, AreSingle}
use Rattle.p3_field.specs.Laws.Checks.{none_single, check_single, none_at_item, none_first, same_first, some_first, single_append, single_before, single_of_items}
use Rattle.p3_field.specs.Domain.{CosetData, subgroup}
use Rattle.p3_field.specs.Field.{TwoAdic, Extension}
use Rattle.p3_field.specs.Ring.{Ring}
use Rattle.commit_core.specs.Laws.Periods.{all_pass}
use Rattle.commit_core.specs.Periodic.{IsPeriod, NamesFirstUnfit, period_checks}
use Rattle.commit_core.specs.declared.periodic.PeriodicColumnShapeError.{PeriodicColumnShapeError}
use Rattle.p3_lookup.specs.Lookup.{LookupData}
use Rattle.p3_uni_stark.specs.declared.error.VerificationError.{VerificationError}
use Rattle.p3_uni_stark.specs.declared.error.VerificationError.TheVariants.{PeriodicColumn}
use Rattle.p3_uni_stark.specs.Recombine.{recombined}
use Rattle.batch_constraints.specs.BatchTrees.{table_trees}
use Rattle.verifier_identity.specs.Laws.Verdict.{identity_single}
use Rattle.batch_statement.specs.Proof.{OpenedWithLookups}
use Rattle.batch_statement.specs.Statement.{AirTable}
use Rattle.batch_statement.specs.declared.error.BatchVerificationError.{BatchVerificationError}
use Rattle.batch_statement.specs.declared.error.BatchVerificationError.TheVariants.{Verification}
use Rattle.verifier_identity.specs.TableIdentity.{verified, opened_table, periods_check, identity_of_table, terminal_check}

-- where none of the checks of columns fails, all fit
fits_of_checks : (height index n : ℕ) → NoneFails (period_checks height index n) → IsPeriod height n
unfolding NoneFails
fits_of_checks height index n h = (h.0, h.1.0)

pub all_fit : (height : ℕ) (lengths : List ℕ) → NoneFails (of_items (period_checks height) lengths) → All (IsPeriod height) lengths
all_fit height lengths h = λ k d b.
    fits_of_checks height k _ (none_at_item (period_checks height) lengths k _ (slice_get-get_or lengths k d b) h)

-- where a column is named, not all fit
pub not_all_fit : (height : ℕ) (lengths : List ℕ) (e : PeriodicColumnShapeError) → NamesFirstUnfit height lengths e → All (IsPeriod height) lengths → ⊥
not_all_fit height lengths e f fit = none_first (of_items (period_checks height) lengths) e (all_pass height lengths fit) f

columns_single : (height : ℕ) (lengths : List ℕ) → AreSingle (of_items (period_checks height) lengths)
columns_single height lengths =
    single_of_items (period_checks height) lengths (λ i n. check_single _ _ _ (check_single _ _ _ (none_single PeriodicColumnShapeError)))

module _ (R : Type 0) where
  same_column : (height : ℕ) (lengths : List ℕ) (d e : BatchVerificationError R)
      → ((x : PeriodicColumnShapeError) × NamesFirstUnfit height lengths x × (d ≡ Verification (PeriodicColumn x)))
      → ((x : PeriodicColumnShapeError) × NamesFirstUnfit height lengths x × (e ≡ Verification (PeriodicColumn x))) → d ≡ e
  same_column height lengths d e p q =
      let one : p.0 ≡ q.0 = same_first (of_items (period_checks height) lengths) p.0 q.0 (columns_single height lengths) p.1 q.1 in
      p.2 ∙ (ap (λ x. Verification (PeriodicColumn x)) one ∙ sym q.2)

  pub periods_single : (height : ℕ) (lengths : List ℕ) → AreSingle (periods_check {R = R} height lengths)
  periods_single height lengths =
      single_before _ [] (record {
        same = same_column height lengths;
        some = λ n none. some_first (of_items (period_checks height) lengths) (columns_single height lengths) (λ h. n (all_fit height lengths h))
            (λ x f. none (Verification (PeriodicColumn x)) (x, f, refl));
      }) (none_single (BatchVerificationError R))

  -- the same checks, refused as those of the tables
  one_verified : (c : Check (VerificationError R)) → HasOneRefusal c → HasOneRefusal (verified c)
  one_verified c h = record {
    same = λ d e p q. p.2 ∙ (ap Verification (h.same p.0 q.0 p.1 q.1) ∙ sym q.2);
    some = λ n none. h.some n (λ x r. none (Verification x) (x, r, refl));
  }

  pub verified_single : (cs : List (Check (VerificationError R))) → AreSingle cs → AreSingle (map verified cs)
  unfolding AreSingle
  verified_single [] h = tt
  verified_single (c ∷ cs) h = (one_verified c h.0, verified_single cs h.1)

  pub table_single : {F E : Type 0} (f : TwoAdic F) (e : Extension F E) (i log_height : ℕ) (t : AirTable F) (lookups : List (LookupData F)) (publics : List F) (challenges : List E)
      (terminal : Option E) (domains : List (CosetData F)) (alpha zeta : E) (o : OpenedWithLookups E)
      → AreSingle (identity_of_table {R = R} f e i log_height t lookups publics challenges terminal domains alpha zeta o)
  table_single f e i log_height t lookups publics challenges terminal domains alpha zeta o =
      let domain = subgroup f.ring log_height in
      single_append (periods_check {R = R} (2 ^ log_height) (map length t.declaration.periodic)) _ (periods_single (2 ^ log_height) (map length t.declaration.periodic))
      (verified_single _ (identity_single R f e (Some i) domain alpha zeta
      (opened_table f e domain t.declaration (length lookups) publics challenges (option_to_list terminal) zeta o)
      (table_trees f.ring t.trees lookups) (recombined f e domains o.base.quotient_chunks zeta)))

  pub terminals_single : {E : Type 0} (r : Ring E) (terminals : List (Option E)) → AreSingle (terminal_check {R = R} r terminals)
  terminals_single r terminals = check_single _ _ _ (none_single (BatchVerificationError R))
