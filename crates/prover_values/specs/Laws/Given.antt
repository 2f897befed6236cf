-- Whatever is given on a domain is a table's: there are polynomials with these values.
use Rattle.std.proofs.Common.{◌≡◌, ℕ, ◌^◌, ◌<◌, ◌≤◌, [], Option, Some, None, length, get_or, refl, sym, ◌∙◌, ap, subst, arith}
use Rattle.std.proofs.lemmas.List.{length-map, get_or-map}
use Rattle.p3_field.specs.Ring.{Ring}
use Rattle.p3_field.specs.Field.{TwoAdic, Extension}
use Rattle.p3_field.specs.Poly.{Apart, tabulate, eval_poly}
use Rattle.p3_field.specs.Domain.{CosetData, point}
use Rattle.p3_field.specs.Laws.Interpolants.{interpolant_exists, points_apart}
use Rattle.p3_field.specs.Laws.Tabulate.{length-tabulate, get_or-tabulate, tabulate_items, tabulate_same}
use Rattle.p3_dft.specs.Transform.{values_at}
use Rattle.p3_matrix.specs.Matrix.{Rows, column, height}
use Rattle.p3_matrix.specs.Laws.Cells.{length-column}
use Rattle.commit_core.specs.Commitments.{Committed, IsEvaluated}
use Rattle.law_committed.specs.Committed.{CommittedTable}
use Rattle.law_committed.specs.Fields.{FieldsLaws}
use Rattle.law_committed.specs.Traces.{IsSomeTall, IsTall, interpolant, interpolants, some_interpolants}
use Rattle.prover_values.specs.Evaluations.{EvaluatedSome, Evaluations, IsReadOn}

-- evaluations at points that are told to be a domain's are evaluations on it, whatever size goes with the polynomials
pub evaluated_along : {F : Type 0} (r : Ring F) (n m : ℕ) (p q : ℕ → F) (c : Committed F) (size : ℕ) (v : Rows F) → n ≡ m → ((i : ℕ) → p i ≡ q i) → IsEvaluated r n p c v
    → IsEvaluated r m q (record { size = size; polynomials = c.polynomials }) v
evaluated_along {F} r n m p q c size v e h I =
    let s : p ≡ q = (λ j i. h i j) in
    let J : IsEvaluated r m q c v = subst (λ (z : ℕ → F). IsEvaluated r m z c v) s (subst (λ (k : ℕ). IsEvaluated r k p c v) e I) in
    record { width_is = J.width_is; column_is = J.column_is }

-- and have a row for each point, unless there is no column
pub evaluated_tall : {F : Type 0} (r : Ring F) (n : ℕ) (p : ℕ → F) (c : Committed F) (v : Rows F) → IsEvaluated r n p c v → 0 < v.width → height v ≡ n
unfolding values_at
evaluated_tall r n p c v I pos = sym (length-column r.zero v 0) ∙ (ap length (I.column_is 0 pos) ∙ length-tabulate n (λ i. eval_poly r (get_or c.polynomials 0 []) (p i)))

module _ {F E : Type 0} (f : TwoAdic F) (e : Extension F E) (top : ℕ) (inverse : E → E) (L : FieldsLaws f e top inverse) (d : CosetData F) (fits : d.log_size ≤ top) (nz : d.shift ≡ f.ring.zero → ⊥) where
  abbrev n : ℕ
  n = 2 ^ d.log_size

  abbrev p : ℕ → F
  p = point f.ring f.root d

  -- a matrix with a row for each point has the values of its columns' interpolants
  interpolants_read : (size : ℕ) (m : Rows F) → IsTall (2 ^ d.log_size) m → IsEvaluated f.ring (2 ^ d.log_size) (point f.ring f.root d) (record { size = size; polynomials = interpolants f d m }) m
  unfolding values_at
  interpolants_read size m T =
      let z = f.ring.zero in
      let columns = tabulate m.width (column z m) in
      let count : length columns ≡ m.width = length-tabulate m.width (column z m) in
      record {
        width_is = sym (length-map columns (interpolant f d) ∙ count);
        column_is = λ j h.
            let v = column z m j in
            let tall : height m ≡ n = T.tall (omega (arith, h)) in
            let long : length v ≡ n = length-column z m j ∙ tall in
            let is : get_or (interpolants f d m) j [] ≡ interpolant f d v =
            get_or-map (interpolant f d) columns j [] [] (omega (arith, h, count)) ∙ ap (interpolant f d) (get_or-tabulate m.width (column z m) j [] h) in
            let apart : Apart (length v) p = subst (λ k. Apart k p) (sym long) (points_apart f.ring L.below f.inv L.below_field top f.root L.roots d fits nz) in
            let I = interpolant_exists f.ring L.below f.inv L.below_field p v apart in
            tabulate_items z v n long
            ∙ (tabulate_same n (λ i. get_or v i z) (λ i. eval_poly f.ring (interpolant f d v) (p i)) (λ i b. sym (I.value_is i (omega (arith, b, long))))
            ∙ ap (λ g. tabulate n (λ i. eval_poly f.ring g (p i))) (sym is));
      }

  some_interpolants_read : (size : ℕ) (m : Option (Rows F)) → IsSomeTall (2 ^ d.log_size) m
      → EvaluatedSome f (2 ^ d.log_size) (point f.ring f.root d) (record { size = size; polynomials = some_interpolants f d m }) m
  some_interpolants_read size None T = refl
  some_interpolants_read size (Some m) T = interpolants_read size m T

  -- so there is a table of each height with these evaluations
  pub some_table_is_read : (k : ℕ) (v : Evaluations F E) → IsTall (2 ^ d.log_size) v.main → IsSomeTall (2 ^ d.log_size) v.preprocessed → IsSomeTall (2 ^ d.log_size) v.permutation
      → (t : CommittedTable F E) × (t.log_height ≡ k) × IsReadOn f t d v
  some_table_is_read k v main preprocessed permutation =
      let t : CommittedTable F E = record {
        main = interpolants f d v.main;
        preprocessed = some_interpolants f d v.preprocessed;
        permutation = some_interpolants f d v.permutation;
        public_values = v.public_values;
        challenges = v.challenges;
        terminals = v.terminals;
        periodic = v.periodic;
        log_height = k;
      } in
      let R : IsReadOn f t d v = record {
        main = interpolants_read (2 ^ k) v.main main;
        preprocessed = some_interpolants_read (2 ^ k) v.preprocessed preprocessed;
        permutation = some_interpolants_read (2 ^ k) v.permutation permutation;
        public_values = refl;
        periodic = refl;
        challenges = refl;
        terminals = refl;
      } in
      (t, refl, R)
