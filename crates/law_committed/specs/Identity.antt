-- The identity of a committed table's constraints with their quotient, at a point and as a polynomial. After Plonky3's
-- p3-batch-stark (verify_constraints_with_lookups), whose verifier tests it at one drawn point.
use Rattle.std.specs.Prelude.{◌≡◌, ℕ, zero, suc, ◌+◌, ◌-◌, List, [], ◌∷◌, length, get_or, map, All}
use Rattle.p3_field.specs.Ring.{Ring}
use Rattle.p3_field.specs.Field.{TwoAdic, Extension}
use Rattle.p3_field.specs.Poly.{DegreeBelow, eval_poly, eval_poly_in, mul_poly, scale_poly, sub_poly, sum_polys}
use Rattle.p3_field.specs.Domain.{CosetData, point, vanishing_polynomial}
use Rattle.air_core.specs.Tree.{Tree, eval_tree}
use Rattle.p3_uni_stark.specs.Fold.{fold}
use Rattle.p3_uni_stark.specs.FoldPolynomials.{fold_poly}
use Rattle.p3_uni_stark.specs.Recombine.{domain_at, recombined}
use Rattle.law_committed.specs.Committed.{CommittedTable, reading, row_count_of, trace_domain}
use Rattle.law_committed.specs.Polynomials.{over, combined_poly, tree_poly}

-- A quotient as a proof commits to it: the domains of its chunks, and for each chunk a polynomial for each basis element.
pub record CommittedQuotient (F : Type 0) : Type 0 where
  pub domains : List (CosetData F)
  pub chunks : List (List (List F))

-- how many chunks it has
abbrev pub chunk_count_of : {F : Type 0} → CommittedQuotient F → ℕ
chunk_count_of q = length q.domains

-- its chunks are over domains of the table's height, and their polynomials have degrees below it
pub record IsBoundedQuotient {F E : Type 0} (f : TwoAdic F) (t : CommittedTable F E) (q : CommittedQuotient F) : Type 0 where
  pub domains : All (λ d. d.log_size ≡ t.log_height) q.domains
  pub chunks : All (λ gs. All (DegreeBelow f.ring (row_count_of t)) gs) q.chunks

-- the product of the n polynomials t 0 .. t (n - 1)
abbrev pub product_poly : {E : Type 0} → Ring E → ℕ → (ℕ → List E) → List E
product_poly s zero t = s.one ∷ []
product_poly s (suc n) t = mul_poly s (product_poly s n t) (t n)

-- the same but for t i
abbrev pub product_poly_but : {E : Type 0} → Ring E → ℕ → ℕ → (ℕ → List E) → List E
product_poly_but s n i t = mul_poly s (product_poly s i t) (product_poly s (n - suc i) (λ j. t (suc i + j)))

module _ {F E : Type 0} (f : TwoAdic F) (e : Extension F E) where
  -- the vanishing polynomial of the domain d, scaled to one at the first point of the domain c
  abbrev pub scaled_vanishing_polynomial : CosetData F → CosetData F → List E
  scaled_vanishing_polynomial c d = scale_poly e.ring (e.embed (f.inv (eval_poly f.ring (vanishing_polynomial f.ring f.inv d) (point f.ring f.root c 0))))
      (over e (vanishing_polynomial f.ring f.inv d))

  -- the weight of chunk i: the product over the other domains of their vanishing polynomials, scaled to one at the first point of
  -- chunk i's domain
  unfoldable pub weight_poly : List (CosetData F) → ℕ → List E
  weight_poly ds i = product_poly_but e.ring (length ds) i (λ j. scaled_vanishing_polynomial (domain_at f.ring ds i) (domain_at f.ring ds j))

  -- the quotient: the sum of each chunk's weight times the sum of its polynomials times the basis elements
  unfoldable pub quotient_poly : CommittedQuotient F → List E
  quotient_poly q = sum_polys e.ring (chunk_count_of q) (λ i. mul_poly e.ring (weight_poly q.domains i) (combined_poly e 0 (get_or q.chunks i [])))

  -- the values at x of each chunk's polynomials
  abbrev pub chunk_values : CommittedQuotient F → E → List (List E)
  chunk_values q x = map (λ gs. map (λ g. eval_poly_in e g x) gs) q.chunks

  -- the vanishing polynomial of the rows, over the larger field
  abbrev pub rows_vanishing_polynomial : CommittedTable F E → List E
  rows_vanishing_polynomial t = over e (vanishing_polynomial f.ring f.inv (trace_domain f e t))

  module _ (t : CommittedTable F E) (trees : List (Tree F)) where
    -- The identity of the committed polynomials at x: the fold by alpha of the trees' values there is the vanishing polynomial's value times
    -- the quotient's, recombined from its chunks' values.
    abbrev pub CommittedIdentity : CommittedQuotient F → (alpha x : E) → Type 0
    CommittedIdentity q alpha x =
        fold e.ring alpha (map (eval_tree (reading f e t x)) trees)
        ≡ e.ring.mul (eval_poly e.ring (rows_vanishing_polynomial t) x) (recombined f e q.domains (chunk_values q x) x)

    -- the identity polynomial: the fold by alpha of the trees' polynomials, minus the vanishing polynomial times the quotient
    unfoldable pub identity_poly : CommittedQuotient F → E → List E
    identity_poly q alpha = sub_poly e.ring (fold_poly e.ring alpha (map (tree_poly f e t) trees)) (mul_poly e.ring (rows_vanishing_polynomial t) (quotient_poly q))
