-- The identity of a table at a point, which a verifier tests in the place of the table's constraints. After Plonky3's p3-batch-stark (VerifierData).
use Rattle.std.specs.Prelude.{◌≡◌, ℕ, ◌+◌, ◌*◌, ◌<◌, ◌≤◌, List, [], ◌∷◌, length, map, min, nat_lt, Option}
use Rattle.p3_field.specs.Checks.{Check, check}
use Rattle.p3_field.specs.Field.{TwoAdic, Extension}
use Rattle.p3_field.specs.Poly.{eval_poly_in}
use Rattle.p3_field.specs.Domain.{CosetData, vanishing_polynomial, first_selector, last_selector, transition_selector}
use Rattle.air_core.specs.Shape.{Shape, Declaration, Fits, declared_shape, width_of}
use Rattle.air_core.specs.Tree.{Tree, eval_tree}
use Rattle.p3_lookup.specs.Lookup.{LookupData}
use Rattle.p3_uni_stark.specs.Fold.{fold}
use Rattle.p3_uni_stark.specs.declared.error.VerificationError.{VerificationError}
use Rattle.p3_uni_stark.specs.declared.error.VerificationError.TheVariants.{OodPointInDomain, OodEvaluationMismatch}
use Rattle.batch_constraints.specs.BatchTrees.{AreLookupsOf}
use Rattle.verifier_folder.specs.FolderState.{FolderValuesWithLookups, reading_of}

-- What is opened of a table at a point: the values of its columns there and at the next point, those of its periodic columns, and its public values;
-- and of its lookups the values of the permutation columns over E, their challenges, and the terminals, none or one.
pub record OpenedTable (F E : Type 0) : Type 0 where
  pub trace_local : List E
  pub trace_next : List E
  pub preprocessed_local : List E
  pub preprocessed_next : List E
  pub periodic : List E
  pub public : List F
  pub permutation_local : List E
  pub permutation_next : List E
  pub challenges : List E
  pub terminals : List E

module _ {F E : Type 0} (f : TwoAdic F) (e : Extension F E) where
  -- the value at a point of the polynomial that vanishes on a domain
  abbrev pub vanishing_at : CosetData F → E → E
  vanishing_at d zeta = eval_poly_in e (vanishing_polynomial f.ring f.inv d) zeta

  -- the point is one of the domain's: the vanishing polynomial is zero there
  abbrev pub IsInDomain : CosetData F → E → Type 0
  IsInDomain d zeta = vanishing_at d zeta ≡ e.ring.zero

  -- what a verifier's folder reads at zeta: the opened values, and the values there of the domain's selectors
  abbrev pub opened_at : CosetData F → (alpha zeta : E) → OpenedTable F E → FolderValuesWithLookups F E
  opened_at d alpha zeta o = record {
    opened = record {
      values = record {
        main_local = o.trace_local;
        main_next = o.trace_next;
        preprocessed_local = o.preprocessed_local;
        preprocessed_next = o.preprocessed_next;
        periodic = o.periodic;
        public = o.public;
        first_row = eval_poly_in e (first_selector f.ring f.inv d) zeta;
        last_row = eval_poly_in e (last_selector f.ring f.inv f.root d) zeta;
        transition = eval_poly_in e (transition_selector f.ring f.inv f.root d) zeta;
      };
      alpha = alpha;
    };
    permutation_local = o.permutation_local;
    permutation_next = o.permutation_next;
    challenges = o.challenges;
    terminals = o.terminals;
  }

  -- the fold by alpha of constraints that read these values
  unfoldable pub folded_at : CosetData F → (alpha zeta : E) → OpenedTable F E → List (Tree F) → E
  folded_at d alpha zeta o trees = fold e.ring alpha (map (eval_tree (reading_of e.ring e.embed (opened_at d alpha zeta o))) trees)

  -- the identity at zeta: the fold of the constraints is the vanishing polynomial's value times the quotient's
  abbrev pub Identity : CosetData F → (alpha zeta : E) → OpenedTable F E → List (Tree F) → (quotient : E) → Type 0
  Identity d alpha zeta o trees quotient = folded_at d alpha zeta o trees ≡ e.ring.mul (vanishing_at d zeta) quotient

  -- The checks of a table at zeta, in order: the point isn't one of the domain's, and the identity holds there. The second refusal names the table's
  -- number in its batch, or None where the table is checked alone.
  unfoldable pub identity_checks : {R : Type 0} → Option ℕ → CosetData F → (alpha zeta : E) → OpenedTable F E → List (Tree F) → (quotient : E) → List (Check (VerificationError R))
  identity_checks index d alpha zeta o trees quotient =
      check OodPointInDomain (IsInDomain d zeta → ⊥) ∷ check (OodEvaluationMismatch index) (Identity d alpha zeta o trees quotient) ∷ []

-- the cells that are opened: a next row's column where that row has it, and a permutation column where both rows have it
abbrev pub opened_shape : {F E : Type 0} → OpenedTable F E → Shape
opened_shape o = record {
  main = length o.trace_local;
  main_next = λ column. nat_lt column (length o.trace_next);
  preprocessed = length o.preprocessed_local;
  preprocessed_next = λ column. nat_lt column (length o.preprocessed_next);
  periodic = length o.periodic;
  public = length o.public;
  permutation = min (length o.permutation_local) (length o.permutation_next);
  challenges = length o.challenges;
  terminals = length o.terminals;
}

-- Each cell that a table with these lookups reads is opened, and the lookups read what the table may send. Where there are lookups, both permutation rows
-- have a column for the running sum and one for each lookup, and there is a terminal. There are two challenges for each lookup.
pub record OpensWhatIsRead {F E : Type 0} (d : Declaration F) (lookups : List (LookupData F)) (o : OpenedTable F E) : Type 0 where
  pub declared : Fits (declared_shape d) (opened_shape o)
  pub lookups_of : AreLookupsOf d lookups
  pub columns : 0 < length lookups → length lookups < (opened_shape o).permutation
  pub challenges : 2 * length lookups ≤ length o.challenges
  pub terminals : 0 < length lookups → 0 < length o.terminals

-- The values have the lengths that a table with so many lookups declares. A next row is as long as this row, also where no next column is declared: it
-- is then a row of zeros. Permutation columns and the terminal are there where there are lookups.
pub record HasDeclaredLengths {F E : Type 0} (d : Declaration F) (lookups : ℕ) (o : OpenedTable F E) : Type 0 where
  pub trace_local : length o.trace_local ≡ d.width
  pub trace_next : length o.trace_next ≡ d.width
  pub preprocessed_local : length o.preprocessed_local ≡ width_of d.preprocessed
  pub preprocessed_next : length o.preprocessed_next ≡ width_of d.preprocessed
  pub periodic : length o.periodic ≡ length d.periodic
  pub public : length o.public ≡ d.public_values
  pub permutation_local : 0 < lookups → length o.permutation_local ≡ lookups + 1
  pub permutation_next : 0 < lookups → length o.permutation_next ≡ lookups + 1
  pub challenges : length o.challenges ≡ 2 * lookups
  pub terminals : 0 < lookups → length o.terminals ≡ 1
