-- Traces of 2^k rows are committed to by their columns' interpolants.
use Rattle.std.proofs.Common.{◌≡◌, ℕ, ◌*◌, ◌^◌, ◌<◌, ◌≤◌, inl, inr, Option, None, Some, List, [], length, get_or, refl, sym, ◌∙◌, ap, subst, arith}
use Rattle.std.proofs.lemmas.List.{length-map, get_or-map}
use Rattle.std.proofs.lemmas.Bool.{cases_lt}
use Rattle.p3_field.specs.Field.{TwoAdic, Extension}
use Rattle.p3_field.specs.Poly.{Apart, tabulate}
use Rattle.p3_field.specs.Domain.{IsInterpolant, point, subgroup}
use Rattle.p3_field.specs.Laws.Interpolants.{interpolant_exists, points_apart}
use Rattle.p3_field.specs.Laws.Tabulate.{length-tabulate, get_or-tabulate}
use Rattle.p3_matrix.specs.Matrix.{Rows, column}
use Rattle.p3_matrix.specs.Laws.Cells.{length-column}
use Rattle.p3_matrix.specs.Laws.Flattened.{height-pieces, pieces-fill}
use Rattle.air_core.specs.Check.{TableTraces}
use Rattle.law_committed.specs.Fields.{FieldsLaws}
use Rattle.law_committed.specs.Rows.{CommitsTo, InterpolateColumns, InterpolateSome, flattened_matrix}
use Rattle.law_committed.specs.Traces.{HaveTraceRows, IsSomeTall, IsTall, committed_traces, interpolant, interpolants, some_interpolants}

module _ {F E : Type 0} (f : TwoAdic F) (e : Extension F E) (top : ℕ) (inverse : E → E) (L : FieldsLaws f e top inverse) (k : ℕ) (fits : k ≤ top) where
  columns_interpolated : (m : Rows F) → IsTall (2 ^ k) m → InterpolateColumns f (subgroup f.ring k) m (interpolants f (subgroup f.ring k) m)
  columns_interpolated m T =
      let d = subgroup f.ring k in
      let p = point f.ring f.root d in
      let values = column f.ring.zero m in
      let apart : Apart (2 ^ k) p = points_apart f.ring L.below f.inv L.below_field top f.root L.roots d fits L.below_field.one_differs in
      record {
        fills = T.fills;
        tall = T.tall;
        count = length-map (tabulate m.width values) (interpolant f d) ∙ length-tabulate m.width values;
        each = λ j h.
            let long : length (values j) ≡ 2 ^ k = length-column f.ring.zero m j ∙ T.tall (omega (arith, h)) in
            let there : get_or (interpolants f d m) j [] ≡ interpolant f d (values j) =
            get_or-map (interpolant f d) (tabulate m.width values) j [] [] (omega (arith, h, length-tabulate m.width values))
            ∙ ap (interpolant f d) (get_or-tabulate m.width values j [] h) in
            subst (IsInterpolant f.ring p (values j)) (sym there)
            (interpolant_exists f.ring L.below f.inv L.below_field p (values j) (subst (λ n. Apart n p) (sym long) apart));
      }

  some_interpolated : (m : Option (Rows F)) → IsSomeTall (2 ^ k) m → InterpolateSome f (subgroup f.ring k) m (some_interpolants f (subgroup f.ring k) m)
  some_interpolated None T = refl
  some_interpolated (Some m) T = columns_interpolated m T

  flattened_tall : (m : Rows E) → IsTall (2 ^ k) m → IsTall (2 ^ k) (flattened_matrix e m)
  flattened_tall m T =
      let D = e.dimension in
      let pos : 0 < D = L.vector.positive in
      record {
        fills = pieces-fill e.coefficients D L.vector.coefficients_length pos m T.fills;
        tall = λ h. height-pieces e.coefficients D L.vector.coefficients_length pos m (flattened_matrix e m) refl refl ∙ T.tall (some m.width D h);
      }
    where
      some : (w D : ℕ) → 0 < w * D → 0 < w
      some w D h = elim (cases_lt 0 w) [
        | inl a ↦ a
        | inr a ↦ let z : w ≡ 0 = omega (arith, a) in let n : 0 * D ≡ 0 = omega arith in absurd (omega (arith, h, ap (λ v. v * D) z, n))
      ]

  -- the traces' own table commits to them
  pub traces_committed : (traces : TableTraces F) (columns : Rows E) (challenges terminals : List E) → HaveTraceRows (2 ^ k) traces columns
      → CommitsTo f e (committed_traces f e traces columns challenges terminals k) traces columns
  traces_committed traces columns challenges terminals H = record {
    tall = H.tall;
    main = columns_interpolated traces.main H.main;
    preprocessed = some_interpolated traces.preprocessed H.preprocessed;
    fills = H.permutation.fills;
    permutation = columns_interpolated (flattened_matrix e columns) (flattened_tall columns H.permutation);
    public_values = refl;
    periodic = refl;
    periods = H.periods;
  }
