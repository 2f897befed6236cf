-- The value of the identity polynomial, which is zero exactly where the identity holds.
use Rattle.std.proofs.Common.{◌≡◌, ◌↔◌, ℕ, zero, suc, ◌+◌, ◌-◌, List, [], length, get_or, map, sym, ◌∙◌, ap}
use Rattle.std.proofs.Math.ListN.{get_or-map}
use Rattle.p3_field.specs.Ring.{RingLaws, sub}
use Rattle.p3_field.specs.Field.{TwoAdic, Extension, combine}
use Rattle.p3_field.specs.Poly.{eval_poly, eval_poly_in, mul_poly, product}
use Rattle.p3_field.specs.Domain.{CosetData, point, vanishing_polynomial}
use Rattle.p3_field.specs.Laws.Chunks.{eval_sum_polys}
use Rattle.p3_field.specs.Laws.Products.{product_same}
use Rattle.p3_field.specs.Laws.Roots.{sub_zero, sub_self}
use Rattle.p3_field.specs.Laws.Sums.{total_same}
use Rattle.p3_field.specs.Laws.Values.{eval_sub, eval_mul, eval_scale}
use Rattle.air_core.specs.CellValues.{reading_at}
use Rattle.air_core.specs.Tree.{Tree, eval_tree}
use Rattle.p3_uni_stark.specs.Fold.{fold}
use Rattle.p3_uni_stark.specs.FoldPolynomials.{fold_poly}
use Rattle.p3_uni_stark.specs.Laws.FoldPolynomials.{fold_of_trees}
use Rattle.p3_uni_stark.specs.Recombine.{chunk_weight, domain_at, recombined}
use Rattle.law_committed.specs.Committed.{CommittedTable, reading}
use Rattle.law_committed.specs.Identity.{CommittedIdentity, CommittedQuotient, chunk_values, identity_poly, product_poly, quotient_poly, rows_vanishing_polynomial, scaled_vanishing_polynomial, weight_poly}
use Rattle.law_committed.specs.Polynomials.{over, cell_polys, combined_poly, tree_poly}
use Rattle.law_committed.specs.Laws.Values.{combined_value, constant_value, values_are}

module _ {F E : Type 0} (e : Extension F E) (M : RingLaws e.ring) where
  product_value : (n : ℕ) (t : ℕ → List E) (x : E) → eval_poly e.ring (product_poly e.ring n t) x ≡ product e.ring n (λ j. eval_poly e.ring (t j) x)
  product_value zero t x = constant_value e M e.ring.one x
  product_value (suc n) t x = eval_mul e.ring M (product_poly e.ring n t) (t n) x ∙ ap (λ v. e.ring.mul v (eval_poly e.ring (t n) x)) (product_value n t x)

  module _ (f : TwoAdic F) where
    -- the value of a chunk's weight
    weight_value : (ds : List (CosetData F)) (i : ℕ) (x : E) → eval_poly e.ring (weight_poly f e ds i) x ≡ chunk_weight f e ds i x
    unfolding weight_poly chunk_weight
    weight_value ds i x =
        let s = e.ring in
        let V = λ (j : ℕ). vanishing_polynomial f.ring f.inv (domain_at f.ring ds j) in
        let w = λ (j : ℕ). e.embed (f.inv (eval_poly f.ring (V j) (point f.ring f.root (domain_at f.ring ds i) 0))) in
        let t : ℕ → List E = λ j. scaled_vanishing_polynomial f e (domain_at f.ring ds i) (domain_at f.ring ds j) in
        let u : ℕ → E = λ j. s.mul (eval_poly_in e (V j) x) (w j) in
        let n = length ds - suc i in
        let each : (j : ℕ) → eval_poly s (t j) x ≡ u j = λ j. eval_scale s M (w j) (over e (V j)) x ∙ M.mul_comm (w j) (eval_poly_in e (V j) x) in
        eval_mul s M (product_poly s i t) (product_poly s n (λ j. t (suc i + j))) x
        ∙ (λ k. s.mul
        ((product_value i t x ∙ product_same s M i (λ j. eval_poly s (t j) x) u (λ j h. each j)) k)
        ((product_value n (λ j. t (suc i + j)) x ∙ product_same s M n (λ j. eval_poly s (t (suc i + j)) x) (λ j. u (suc i + j)) (λ j h. each (suc i + j))) k))

    -- the quotient's value is recombined from the chunks' values
    pub quotient_poly_value : (q : CommittedQuotient F) (x : E) → eval_poly e.ring (quotient_poly f e q) x ≡ recombined f e q.domains (chunk_values f e q x) x
    unfolding quotient_poly recombined
    quotient_poly_value q x =
        let s = e.ring in
        let ds = q.domains in
        let at = λ (gs : List (List F)). map (λ (g : List F). eval_poly_in e g x) gs in
        let p : ℕ → List E = λ i. combined_poly e 0 (get_or q.chunks i []) in
        let v : ℕ → E = λ i. combine s e.basis 0 (get_or (map at q.chunks) i []) in
        eval_sum_polys s M (length ds) (λ i. mul_poly s (weight_poly f e ds i) (p i)) x
        ∙ total_same s M (length ds) (λ i. eval_poly s (mul_poly s (weight_poly f e ds i) (p i)) x) (λ i. s.mul (chunk_weight f e ds i x) (v i))
        (λ i h. eval_mul s M (weight_poly f e ds i) (p i) x
        ∙ (λ k. s.mul (weight_value ds i x k) ((combined_value e M 0 (get_or q.chunks i []) x ∙ ap (combine s e.basis 0) (sym (get_or-map at q.chunks i []))) k)))

    module _ (t : CommittedTable F E) (trees : List (Tree F)) where
      -- the value of the fold of the trees' polynomials is the fold of their values
      pub trees_fold_value : (alpha x : E) → eval_poly e.ring (fold_poly e.ring alpha (map (tree_poly f e t) trees)) x ≡ fold e.ring alpha (map (eval_tree (reading f e t x)) trees)
      trees_fold_value alpha x =
          fold_of_trees e.ring M e.embed (cell_polys f e t) alpha x trees
          ∙ ap (λ v. fold e.ring alpha (map (eval_tree (reading_at e.ring e.embed v)) trees)) (values_are e M f t x)

      -- the value of the identity polynomial: the fold of the trees' values, minus that of the vanishing polynomial times the quotient
      pub identity_value : (q : CommittedQuotient F) (alpha x : E)
          → eval_poly e.ring (identity_poly f e t trees q alpha) x
          ≡ sub e.ring (fold e.ring alpha (map (eval_tree (reading f e t x)) trees)) (e.ring.mul (eval_poly e.ring (rows_vanishing_polynomial f e t) x) (recombined f e q.domains (chunk_values f e q x) x))
      unfolding identity_poly
      identity_value q alpha x =
          let s = e.ring in
          let P = fold_poly s alpha (map (tree_poly f e t) trees) in
          let V = rows_vanishing_polynomial f e t in
          let Q = quotient_poly f e q in
          eval_sub s M P (mul_poly s V Q) x
          ∙ (λ i. sub s (trees_fold_value alpha x i) ((eval_mul s M V Q x ∙ ap (s.mul (eval_poly s V x)) (quotient_poly_value q x)) i))

      -- it is zero exactly where the identity holds
      pub identity_at : (q : CommittedQuotient F) (alpha x : E) → CommittedIdentity f e t trees q alpha x ↔ (eval_poly e.ring (identity_poly f e t trees q alpha) x ≡ e.ring.zero)
      identity_at q alpha x =
          let folded = fold e.ring alpha (map (eval_tree (reading f e t x)) trees) in
          let divided = e.ring.mul (eval_poly e.ring (rows_vanishing_polynomial f e t) x) (recombined f e q.domains (chunk_values f e q x) x) in
          (λ I. identity_value q alpha x ∙ sub_self e.ring M folded divided I, λ z. sub_zero e.ring M folded divided (sym (identity_value q alpha x) ∙ z))
