-- The interpolants of a committed matrix's columns are the polynomials that it is committed to by.
use Rattle.std.proofs.Common.{◌≡◌, ℕ, zero, suc, ◌+◌, ◌^◌, ◌≤◌, List, [], ◌∷◌, Some, Vec, Global, length, map, refl, sym, ◌∙◌, ap, subst}
use Rattle.std.specs.Prelude.{slice_get}
use Rattle.std.proofs.lemmas.Option.{get_or_from_slice_get}
use Rattle.p3_field.specs.BabyBear.{baby_bear_inv, baby_bear_ring, baby_bear_root, reduce}
use Rattle.p3_field.specs.Domain.{CosetData, IsInterpolant, coset_point, point}
use Rattle.p3_field.specs.Laws.BabyBearField.{baby_bear_31, baby_bear_field_laws, baby_bear_root_laws}
use Rattle.p3_field.specs.Laws.BabyBearLaws.{baby_bear_laws}
use Rattle.p3_field.specs.Laws.Interpolants.{interpolant_exists, interpolant_unique, points_apart}
use Rattle.p3_field.specs.Laws.Tabulate.{length-tabulate}
use Rattle.p3_field.specs.Poly.{Apart, tabulate}
use Rattle.p3_field.specs.declared.baby_bear.BabyBear.{BabyBear}
use Rattle.p3_matrix.specs.Matrix.{Rows, cell_at, column, height}
use Rattle.commit_core.specs.Space.{EachOf}
use Rattle.plain_pcs.specs.Extension.{columns, extended_domain, interpolant}
use Rattle.plain_pcs.specs.Refusals.{HasSubgroupHeight}
use Rattle.plain_pcs.specs.Scheme.{PlainCommitmentData}
use Rattle.law_soundness.specs.Commitment.{matrix_at, no_matrix, polynomials_at}
use Rattle.tool_statement.specs.Config.{tool_scheme}

-- the matrix at a place
pub there_high : (c : PlainCommitmentData BabyBear) (i : ℕ) (m : Rows BabyBear) → HasSubgroupHeight 27 (matrix_at c i) → slice_get c.matrices i ≡ Some m → HasSubgroupHeight 27 m
there_high c i m h e = subst (HasSubgroupHeight 27) (get_or_from_slice_get c.matrices i m no_matrix e) h

-- a list whose items are known by their places
mapped_tabulate : {X A : Type 0} (g : X → A) (xs : List X) (t : ℕ → A) → ((j : ℕ) (x : X) → slice_get xs j ≡ Some x → g x ≡ t j) → map g xs ≡ tabulate (length xs) t
mapped_tabulate g [] t h = refl
mapped_tabulate g (x ∷ xs) t h =
    let first : g x ≡ t 0 = h 0 x refl in
    let rest : map g xs ≡ tabulate (length xs) (λ j. t (suc j)) = mapped_tabulate g xs (λ j. t (suc j)) (λ j y e. h (suc j) y e) in
    λ i. first i ∷ rest i

map-tabulate : {A B : Type 0} (g : A → B) (n : ℕ) (t : ℕ → A) → map g (tabulate n t) ≡ tabulate n (λ j. g (t j))
map-tabulate g zero t = refl
map-tabulate g (suc n) t = ap (λ l. g (t 0) ∷ l) (map-tabulate g n (λ j. t (suc j)))

length-column : (m : Rows BabyBear) (j : ℕ) → length (column baby_bear_ring.zero m j) ≡ height m
unfolding column
length-column m j = length-tabulate (height m) (λ i. cell_at baby_bear_ring.zero m i j)

module _ (c : PlainCommitmentData BabyBear) (i k : ℕ) (fits : k + 1 ≤ 27) (high : height (matrix_at c i) ≡ 2 ^ (k + 1)) (polynomials : List (Vec BabyBear Global))
    (each : EachOf (matrix_at c i).width polynomials (λ j f. IsInterpolant baby_bear_ring (coset_point baby_bear_ring (reduce 31) (baby_bear_root (k + 1))) (column baby_bear_ring.zero (matrix_at c i) j) f.items)) where
  abbrev d : CosetData BabyBear
  d = extended_domain tool_scheme k

  abbrev values : ℕ → List BabyBear
  values j = column baby_bear_ring.zero (matrix_at c i) j

  apart : (j : ℕ) → Apart (length (values j)) (point baby_bear_ring baby_bear_root d)
  apart j =
      let long : length (values j) ≡ 2 ^ (k + 1) = length-column (matrix_at c i) j ∙ high in
      subst (λ n. Apart n (point baby_bear_ring baby_bear_root d)) (sym long) (points_apart baby_bear_ring baby_bear_laws baby_bear_inv baby_bear_field_laws 27 baby_bear_root baby_bear_root_laws d fits baby_bear_31)

  -- there is one interpolant of a column
  own_interpolant : (j : ℕ) (f : Vec BabyBear Global) → slice_get polynomials j ≡ Some f → f.items ≡ interpolant tool_scheme.field d (values j)
  own_interpolant j f at =
      interpolant_unique baby_bear_ring baby_bear_laws baby_bear_inv baby_bear_field_laws (point baby_bear_ring baby_bear_root d) (values j) f.items (interpolant tool_scheme.field d (values j)) (apart j) (each.each j f at)
      (interpolant_exists baby_bear_ring baby_bear_laws baby_bear_inv baby_bear_field_laws (point baby_bear_ring baby_bear_root d) (values j) (apart j))

  pub columns_are : map (λ f. f.items) polynomials ≡ polynomials_at tool_scheme k c i
  columns_are =
      let made = λ (j : ℕ). interpolant tool_scheme.field d (values j) in
      mapped_tabulate (λ (f : Vec BabyBear Global). f.items) polynomials made own_interpolant
      ∙ (ap (λ n. tabulate n made) each.count ∙ sym (map-tabulate (interpolant tool_scheme.field d) (matrix_at c i).width values))
