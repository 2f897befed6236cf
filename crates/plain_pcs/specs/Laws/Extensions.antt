-- Extensions by a transform on the subgroup, and their columns.
use Rattle.std.proofs.Common.{◌≡◌, ℕ, ◌+◌, ◌^◌, ◌<◌, ◌≤◌, List, [], Some, length, get_or, map, sym, ◌∙◌, ap, subst, arith}
use Rattle.std.specs.Prelude.{slice_get}
use Rattle.std.proofs.lemmas.List.{get_or-map, length-map}
use Rattle.std.proofs.lemmas.Option.{slice_get_within}
use Rattle.p3_field.specs.Ring.{RingLaws}
use Rattle.p3_field.specs.Field.{FieldLaws, TwoAdicLaws}
use Rattle.p3_field.specs.Poly.{Apart}
use Rattle.p3_field.specs.Domain.{CosetData, point, coset_point, IsInterpolant}
use Rattle.p3_field.specs.Laws.Interpolants.{interpolant_exists, points_apart}
use Rattle.p3_field.specs.Laws.Tabulate.{length-tabulate, get_or-tabulate}
use Rattle.p3_matrix.specs.Matrix.{Rows, FillsRows, height, column}
use Rattle.p3_matrix.specs.Laws.Cells.{length-column}
use Rattle.p3_dft.specs.Transform.{values_at, IsExtensionOf}
use Rattle.commit_core.specs.Commitments.{AreExtensions}
use Rattle.plain_pcs.specs.Scheme.{Scheme}
use Rattle.plain_pcs.specs.Extension.{columns, interpolant, extended_domain, extension_of, IsCommittable, Extends}
use Rattle.plain_pcs.specs.Refusals.{HasSubgroupHeight}
use Rattle.plain_pcs.specs.Laws.Listed.{item_at}
use Rattle.plain_pcs.specs.Laws.Shifted.{extension_shifted}
use Rattle.plain_pcs.specs.Laws.Evaluations.{width-evaluations, height-evaluations, column-evaluations, evaluations_of_columns}

-- the polynomials of a matrix's columns on a domain
abbrev pub polynomials : {F : Type 0} → Scheme F → CosetData F → Rows F → List (List F)
polynomials s d m = map (interpolant s.field d) (columns s.field.ring.zero m)

pub length-polynomials : {F : Type 0} (s : Scheme F) (d : CosetData F) (m : Rows F) → length (polynomials s d m) ≡ m.width
length-polynomials s d m = length-map (columns s.field.ring.zero m) (interpolant s.field d) ∙ length-tabulate m.width (column s.field.ring.zero m)

pub get_or-polynomials : {F : Type 0} (s : Scheme F) (d : CosetData F) (m : Rows F) (j : ℕ) → j < m.width → get_or (polynomials s d m) j [] ≡ interpolant s.field d (column s.field.ring.zero m j)
get_or-polynomials s d m j b =
    let z = s.field.ring.zero in
    let within : j < length (columns z m) = omega (arith, length-tabulate m.width (column z m)) in
    get_or-map (interpolant s.field d) (columns z m) j [] [] within ∙ ap (interpolant s.field d) (get_or-tabulate m.width (column z m) j [] b)

module _ {F : Type 0} (s : Scheme F) (L : RingLaws s.field.ring) (W : FieldLaws s.field.ring s.field.inv) (T : TwoAdicLaws s.field.ring s.most s.field.root) where
  -- the interpolant on a domain is one
  pub is_interpolant : (d : CosetData F) (v : List F) → d.log_size ≤ s.most → (d.shift ≡ s.field.ring.zero → ⊥) → length v ≡ 2 ^ d.log_size
      → IsInterpolant s.field.ring (point s.field.ring s.field.root d) v (interpolant s.field d v)
  is_interpolant d v fits nz size =
      let p = point s.field.ring s.field.root d in
      let apart : Apart (2 ^ d.log_size) p = points_apart s.field.ring L s.field.inv W s.most s.field.root T d fits nz in
      interpolant_exists s.field.ring L s.field.inv W p v (subst (λ (n : ℕ). Apart n p) (sym size) apart)

  subgroup_apart : (k : ℕ) (v : List F) → k ≤ s.most → length v ≡ 2 ^ k → Apart (length v) (coset_point s.field.ring s.field.ring.one (s.field.root k))
  subgroup_apart k v fits size =
      let r = s.field.ring in
      let apart : Apart (2 ^ k) (coset_point r r.one (s.field.root k)) = points_apart r L s.field.inv W s.most s.field.root T (record { shift = r.one; log_size = k }) fits W.one_differs in
      subst (λ (n : ℕ). Apart n (coset_point r r.one (s.field.root k))) (sym size) apart

  -- the transform from the subgroup to the coset with shift GENERATOR / shift gives the extension
  pub transformed_extension : (d : CosetData F) (m v : Rows F) → (d.shift ≡ s.field.ring.zero → ⊥) → IsCommittable s d m → FillsRows v.values v.width
      → IsExtensionOf s.field.ring s.field.root s.log_blowup (s.field.ring.mul s.field.generator (s.field.inv d.shift)) m v → v ≡ extension_of s d m
  unfolding extension_of
  transformed_extension d m v nz C fills X =
      let r = s.field.ring in
      let k = d.log_size in
      let low : k ≤ s.most = omega (arith, C.fits) in
      let long = length-polynomials s d m in
      evaluations_of_columns s.field (extended_domain s k) (polynomials s d m) (omega (arith, C.has_columns, long)) v fills (X.width_is ∙ sym long)
      (λ j b.
      let inside : j < m.width = omega (arith, long) in
      let c = column r.zero m j in
      let size : length c ≡ 2 ^ k = length-column r.zero m j ∙ C.height_is in
      let f = interpolant s.field d c in
      extension_shifted r L s.field.inv W d.shift nz s.field.generator (s.field.root k) (s.field.root (k + s.log_blowup)) (2 ^ (k + s.log_blowup)) c (column r.zero v j) f
      (subgroup_apart k c low size) (is_interpolant d c low nz size) (X.column_is j k inside C.height_is)
      ∙ ap (values_at r (point r s.field.root (extended_domain s k)) (2 ^ (k + s.log_blowup))) (sym (get_or-polynomials s d m j inside)))

  pub width-extension : (d : CosetData F) (m : Rows F) → IsCommittable s d m → (extension_of s d m).width ≡ m.width
  unfolding extension_of
  width-extension d m C =
      let long = length-polynomials s d m in
      width-evaluations s.field (extended_domain s d.log_size) (polynomials s d m) (omega (arith, C.has_columns, long)) ∙ long

  pub height-extension : (d : CosetData F) (m : Rows F) → IsCommittable s d m → height (extension_of s d m) ≡ 2 ^ (d.log_size + s.log_blowup)
  unfolding extension_of
  height-extension d m C =
      let long = length-polynomials s d m in
      height-evaluations s.field (extended_domain s d.log_size) (polynomials s d m) (omega (arith, C.has_columns, long))

  -- extensions have heights of subgroups
  pub extended_height : (chunks : List (CosetData F × Rows F)) (ls : List (Rows F)) → AreExtensions (Extends s) chunks ls
      → (i : ℕ) (l : Rows F) → slice_get ls i ≡ Some l → HasSubgroupHeight s.most l
  extended_height chunks ls E i l q =
      let (x, at) = item_at chunks i (let b = slice_get_within ls i l q in omega (arith, b, E.count)) in
      let X = E.each i l q x at in
      (x.0.log_size + s.log_blowup, X.committable.fits, ap (λ (v : Rows F). height v) X.extension_is ∙ height-extension x.0 x.1 X.committable)

  pub column-extension : (d : CosetData F) (m : Rows F) → IsCommittable s d m → (j : ℕ) → j < m.width
      → column s.field.ring.zero (extension_of s d m) j
      ≡ values_at s.field.ring (point s.field.ring s.field.root (extended_domain s d.log_size)) (2 ^ (d.log_size + s.log_blowup)) (get_or (polynomials s d m) j [])
  unfolding extension_of
  column-extension d m C j b =
      let long = length-polynomials s d m in
      column-evaluations s.field (extended_domain s d.log_size) (polynomials s d m) (omega (arith, C.has_columns, long)) j (omega (arith, long))
