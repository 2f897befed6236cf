-- What is given of a table's columns on its quotient's domain has the shapes that the quotient's values ask for, and is the table's.
use Rattle.std.proofs.Common.{◌≡◌, ℕ, zero, suc, ◌*◌, ◌^◌, ◌<◌, List, [], ◌∷◌, length, Option, None, Some, Result, Ok, Err, IfOk, refl, sym, ◌∙◌, ap, arith}
use Rattle.std.specs.Prelude.{IfSome, option_to_list}
use Rattle.p3_field.specs.Domain.{CosetData, point}
use Rattle.p3_field.specs.Field.{TwoAdic}
use Rattle.p3_matrix.specs.Matrix.{Rows, height}
use Rattle.air_core.specs.Shape.{width_of}
use Rattle.commit_core.specs.Commitments.{IsEvaluated}
use Rattle.prover_values.specs.Evaluations.{EvaluatedSome, IsReadOn}
use Rattle.prover_values.specs.QuotientRows.{permutation_column_count as columns_for}
use Rattle.prover_values.specs.Laws.Given.{evaluated_along, evaluated_tall}
use Rattle.batch_config.specs.Setting.{Setting}
use Rattle.verifier_shape.specs.ShapeChecks.{permutation_width}
use Rattle.law_committed.specs.Committed.{CommittedTable, row_count_of}
use Rattle.law_committed.specs.Fields.{FieldsLaws}
use Rattle.law_committed.specs.Rows.{InterpolateSome}
use Rattle.law_valid.specs.Traced.{TracedTable, declared}
use Rattle.law_acceptance.specs.Laws.Lengths.{honest_commits, permutation_count}
use Rattle.law_honest.specs.HonestProof.{Prover, committed_table, honest_terminal, where_some}
use Rattle.prover_quotients.specs.ProverData.{AreSomeValues, AreValuesOf, HaveTableValues}
use Rattle.prover_quotients.specs.Tables.{IsTracedTable}
use Rattle.prover_quotients.specs.declared.columns.TableColumns.{TableColumns}

-- of an Ok answer, what follows from what holds of it
pub follows : {X Y : Type 0} (r : Result X Y) (P Q : X → Type 0) → IfOk r P → ((x : X) → P x → Q x) → IfOk r Q
follows (Ok x) P Q h k = k x h
follows (Err e) P Q h k = h

pub follows_both : {X Y : Type 0} (r : Result X Y) (P Q R : X → Type 0) → IfOk r P → IfOk r Q → ((x : X) → P x → Q x → R x) → IfOk r R
follows_both (Ok x) P Q R h i k = k x h i
follows_both (Err e) P Q R h i k = h

-- values that a backend gives at the points of its domain
pub values_are : {F : Type 0} (f : TwoAdic F) (d : CosetData F) (points size : ℕ) (point_at : ℕ → F) (polynomials : List (List F)) (m : Rows F) → points ≡ 2 ^ d.log_size → ((i : ℕ) → point_at i ≡ point f.ring f.root d i)
    → 0 < length polynomials → IsEvaluated f.ring points point_at (record { size = size; polynomials = polynomials }) m → AreValuesOf f d polynomials m
values_are f d points size point_at polynomials m count at some I = record {
  evaluated = λ n. evaluated_along f.ring points (2 ^ d.log_size) point_at (point f.ring f.root d) (record { size = size; polynomials = polynomials }) n m count at I;
  tall = evaluated_tall f.ring points point_at (record { size = size; polynomials = polynomials }) m I (let w = I.width_is in omega (arith, w, some)) ∙ count;
}

-- how many columns a matrix that may be absent has
values_wide : {F : Type 0} (f : TwoAdic F) (d : CosetData F) (polynomials : List (List F)) (o : Option (Rows F)) → AreSomeValues f d polynomials o → width_of o ≡ length polynomials
values_wide f d polynomials None h = ap length (sym h)
values_wide f d polynomials (Some m) h = (h.evaluated 0).width_is

interpolants_wide : {F : Type 0} (f : TwoAdic F) (d : CosetData F) (o : Option (Rows F)) (polynomials : List (List F)) → InterpolateSome f d o polynomials → length polynomials ≡ width_of o
interpolants_wide f d None polynomials h = ap length h
interpolants_wide f d (Some m) polynomials h = h.count

values_tall : {F : Type 0} (f : TwoAdic F) (d : CosetData F) (polynomials : List (List F)) (o : Option (Rows F)) → AreSomeValues f d polynomials o → IfSome o (λ m. height m ≡ 2 ^ d.log_size)
values_tall f d polynomials None h = tt
values_tall f d polynomials (Some m) h = h.tall

some_read : {F : Type 0} (f : TwoAdic F) (d : CosetData F) (size : ℕ) (polynomials : List (List F)) (o : Option (Rows F)) → AreSomeValues f d polynomials o
    → EvaluatedSome f (2 ^ d.log_size) (point f.ring f.root d) (record { size = size; polynomials = polynomials }) o
some_read f d size polynomials None h = h
some_read f d size polynomials (Some m) h = h.evaluated size

flattened_count : (n d : ℕ) → permutation_width n d ≡ columns_for n * d
flattened_count zero d = omega arith
flattened_count (suc n) d = refl

terminal_there : {A E : Type 0} (ls : List A) (x : E) → 0 < length ls → 0 < length (option_to_list (where_some ls x))
terminal_there [] x h = absurd (omega (arith, h))
terminal_there (l ∷ ls) x h = omega arith

module _ {S F E C : Type 0} (c : Setting S F E C) (p : Prover F E C) (t : TracedTable F) (challenges : List E)
    (L : FieldsLaws c.field c.extension c.two_adicity p.inverse) (T : IsTracedTable c t) (d : CosetData F) (v : TableColumns F) (H : HaveTableValues c.field d (committed_table c p t challenges) v) where
  abbrev k : CommittedTable F E
  k = committed_table c p t challenges

  pub main_wide : v.main.width ≡ (declared t).width
  main_wide = (H.main_values.evaluated 0).width_is ∙ ((honest_commits c p t challenges L T.has_domain T.is_traced).main.count ∙ T.is_traced.width)

  pub preprocessed_wide : width_of v.preprocessed ≡ width_of (declared t).preprocessed
  preprocessed_wide =
      values_wide c.field d k.preprocessed v.preprocessed H.preprocessed_values
      ∙ interpolants_wide c.field _ (declared t).preprocessed k.preprocessed (honest_commits c p t challenges L T.has_domain T.is_traced).preprocessed

  pub permutation_wide : width_of v.permutation ≡ columns_for (length t.lookups) * c.extension.dimension
  permutation_wide =
      values_wide c.field d k.permutation v.permutation H.permutation_values
      ∙ (permutation_count c p t challenges L T.has_domain T.is_traced ∙ flattened_count (length t.lookups) c.extension.dimension)

  pub preprocessed_tall : IfSome v.preprocessed (λ m. height m ≡ 2 ^ d.log_size)
  preprocessed_tall = values_tall c.field d k.preprocessed v.preprocessed H.preprocessed_values

  pub permutation_tall : IfSome v.permutation (λ m. height m ≡ 2 ^ d.log_size)
  permutation_tall = values_tall c.field d k.permutation v.permutation H.permutation_values

  -- it is what the table commits to
  pub columns_read : (publics : List F) (terminals : List E) → t.publics ≡ publics → option_to_list (honest_terminal c p t challenges) ≡ terminals
      → IsReadOn c.field k d (record {
        main = v.main;
        preprocessed = v.preprocessed;
        permutation = v.permutation;
        public_values = publics;
        periodic = (declared t).periodic;
        challenges = challenges;
        terminals = terminals;
      })
  unfolding committed_table
  columns_read publics terminals own sum = record {
    main = H.main_values.evaluated (row_count_of k);
    preprocessed = some_read c.field d (row_count_of k) k.preprocessed v.preprocessed H.preprocessed_values;
    permutation = some_read c.field d (row_count_of k) k.permutation v.permutation H.permutation_values;
    public_values = own;
    periodic = refl;
    challenges = refl;
    terminals = sum;
  }

-- a table with lookups has a terminal
pub has_terminal : {S F E C : Type 0} (c : Setting S F E C) (p : Prover F E C) (t : TracedTable F) (challenges : List E) → 0 < length t.lookups → 0 < length (option_to_list (honest_terminal c p t challenges))
unfolding honest_terminal
has_terminal c p t challenges some = terminal_there t.lookups _ some
