-- Degrees of the trees of a tuple and of terms.
use Rattle.std.proofs.Common.{◌≡◌, ℕ, ◌<◌, ◌^◌, max, List, ◌∷◌, sym, ◌∙◌, ap, arith}
use Rattle.p3_field.specs.Ring.{Ring}
use Rattle.p3_field.specs.Poly.{eval_poly}
use Rattle.air_core.specs.Degree.{multiple, capped_sum}
use Rattle.air_core.specs.Tree.{Tree}
use Rattle.p3_lookup.specs.Lookup.{LookupData, Sent, sent}
use Rattle.p3_lookup.specs.Term.{common, numerator}
use Rattle.p3_lookup.specs.Trees.{trees, base_tree, beta_tree, term_trees}
use Rattle.p3_lookup.specs.Packing.{lookup_degree}
use Rattle.p3_lookup.specs.Emission.{AreDegreesOf}

-- a sum with nothing stops at the cap alone
pub capped_zero : (z d : ℕ) → z ≡ 0 → d < 2 ^ 64 → capped_sum z d ≡ d
capped_zero z d e h = omega (arith, e, h)

-- one item more of a tuple's sum
pub sum_degree : {F : Type 0} (f : Ring F) (t : ℕ) (x : Tree F) (rest : List (Tree F)) (b : Tree F) (m d n : ℕ) → multiple t b ≡ 0 → m ≡ multiple t x → d ≡ multiple t (eval_poly (trees f) rest b) → d < 2 ^ 64
    → n ≡ max m d → n ≡ multiple t (eval_poly (trees f) (x ∷ rest) b)
sum_degree f t x rest b m d n h p q lt s =
    let c : capped_sum (multiple t b) (multiple t (eval_poly (trees f) rest b)) ≡ d = ap (capped_sum (multiple t b)) (sym q) ∙ capped_zero (multiple t b) d h lt in
    cc (c, p, s)

-- one term more
pub term_degrees : {F : Type 0} (f : Ring F) (t : ℕ) (a b : Tree F) (s : Sent (Tree F)) (ss : List (Sent (Tree F))) (m d c n : ℕ) → multiple t a ≡ 0 → m ≡ multiple t s.count → d ≡ multiple t (eval_poly (trees f) s.tuple b)
    → AreDegreesOf f t a b (c, n) ss → AreDegreesOf f t a b (capped_sum d c, max (capped_sum m c) (capped_sum d n)) (s ∷ ss)
term_degrees f t a b s ss m d c n h p q r =
    let e : max (multiple t a) (multiple t (eval_poly (trees f) s.tuple b)) ≡ d = ap (λ k. max k (multiple t (eval_poly (trees f) s.tuple b))) h ∙ ap (max 0) (sym q) ∙ zero_max d in
    (cc (e, r.0), cc (e, p, r.0, r.1))
  where
    zero_max : (k : ℕ) → max 0 k ≡ k
    zero_max k = omega arith

fold : (t u v : ℕ) → t < 2 ^ 64 → max (max (max u v) 2) (capped_sum t 1) ≡ max (max (max (max 0 (max u v)) (capped_sum 1 1)) (capped_sum t (max (max 1 1) (max 0 1)))) (capped_sum 1 (max (max 0 1) (max 0 1)))
fold t u v h = omega (arith, h)

-- the degree of a lookup's constraints, from those of its parts
pub whole_degree : {F : Type 0} (f : Ring F) (t c n x : ℕ) (l : LookupData F) → t < 2 ^ 64 → AreDegreesOf f t (base_tree 0) (beta_tree 0) (c, n) (sent l)
    → x ≡ max (max (max (capped_sum 1 c) n) 2) (capped_sum t 1) → x ≡ lookup_degree f t l
whole_degree f t c n x l h p e =
    let u = multiple t (common (trees f) (term_trees f 0 l)) in
    let v = multiple t (numerator (trees f) (term_trees f 0 l)) in
    e ∙ ap (λ k. max (max (max (capped_sum 1 k) n) 2) (capped_sum t 1)) p.0 ∙ ap (λ k. max (max (max (capped_sum 1 u) k) 2) (capped_sum t 1)) p.1 ∙ fold t (capped_sum 1 u) v h
