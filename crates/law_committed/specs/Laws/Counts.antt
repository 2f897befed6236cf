-- How many challenges are unlucky: at one row fewer alphas than trees, so on all rows at most n (N - 1); and no more zetas than
-- the identity polynomial's degree.
use Rattle.std.proofs.Common.{◌≡◌, ℕ, zero, suc, ◌+◌, ◌-◌, ◌*◌, ◌<◌, ◌≤◌, inl, inr, List, [], ◌∷◌, length, get_or, sym, ◌∙◌, ap, subst, arith}
use Rattle.std.specs.Prelude.{max, reverse}
use Rattle.std.specs.List.{All}
use Rattle.std.proofs.lemmas.List.{length-map, length-reverse}
use Rattle.std.proofs.lemmas.Bool.{cases_lt, cases_eq}
use Rattle.p3_field.specs.Ring.{Ring, RingLaws}
use Rattle.p3_field.specs.Field.{TwoAdic, Extension}
use Rattle.p3_field.specs.Poly.{eval_poly, DegreeBelow, IsZeroPoly, mul_poly}
use Rattle.p3_field.specs.Laws.Algebra.{mul_zero, zero_mul}
use Rattle.p3_field.specs.Laws.Coeffs.{degree_more, degree_mul, degree_length, degree_length_le}
use Rattle.p3_field.specs.Laws.Values.{eval_mul}
use Rattle.p3_field.specs.Laws.Roots.{NoZeroDivisors, RootsAt, field_no_zero_divisors, root_count}
use Rattle.p3_field.specs.Laws.PolyLaws.{poly_no_zero_divisors}
use Rattle.air_core.specs.Degree.{full_polynomial_degree}
use Rattle.air_core.specs.Tree.{Tree, eval_tree}
use Rattle.p3_uni_stark.specs.Laws.FoldPolynomials.{fold_at_challenge, zero_values}
use Rattle.law_committed.specs.Committed.{CommittedTable, IsBounded, table_periods_of, row, row_count_of}
use Rattle.law_committed.specs.Fields.{FieldsLaws}
use Rattle.law_committed.specs.Identity.{CommittedQuotient, IsBoundedQuotient, chunk_count_of, identity_poly}
use Rattle.law_committed.specs.Unlucky.{AreDistinct, IsUnluckyZeta, IsUnluckyAlphaAt, IsUnluckyAlpha, constraint_values}
use Rattle.law_committed.specs.Laws.Decided.{items_decided}
use Rattle.law_committed.specs.Laws.IdentityDegree.{identity_degree}

-- fewer roots than the bound of the degree, for a polynomial that isn't zero
pub few_roots_in : {E : Type 0} (s : Ring E) → RingLaws s → NoZeroDivisors s → (m : ℕ) (xs g : List E) → AreDistinct s.zero xs → DegreeBelow s m g
    → RootsAt s (length xs) (λ i. get_or xs i s.zero) g → (IsZeroPoly s g → ⊥) → length xs < m
few_roots_in s M N m xs g apart d roots nz = elim (cases_lt (length xs) m) [
  | inl l ↦ l
  | inr l ↦ absurd (nz (root_count s M N (length xs) (λ i. get_or xs i s.zero) g apart (degree_more s M m (length xs) g l d) roots))
]

-- without trees no alpha is unlucky
pub no_alphas : {F E : Type 0} (f : TwoAdic F) (e : Extension F E) (t : CommittedTable F E) (trees : List (Tree F)) (alpha : E) → length trees ≡ 0 → IsUnluckyAlpha f e t trees alpha → ⊥
no_alphas f e t trees alpha none (i, below, u) =
    u.differs (λ k v h. absurd (omega (arith, h, length-map trees (eval_tree (row f e t i)), none)))

module _ {F E : Type 0} (f : TwoAdic F) (e : Extension F E) (top : ℕ) (inverse : E → E) (L : FieldsLaws f e top inverse) (t : CommittedTable F E) (trees : List (Tree F)) where
  nonzero_divisors : NoZeroDivisors e.ring
  nonzero_divisors = field_no_zero_divisors e.ring L.above inverse L.above_field

  -- the values at row i as the coefficients of a polynomial, of which a fold is a value
  values_long : (i : ℕ) → length (reverse (constraint_values f e t trees i)) ≡ length trees
  values_long i = length-reverse (constraint_values f e t trees i) ∙ length-map trees (eval_tree (row f e t i))

  -- distinct alphas that are all unlucky at row i are fewer than the trees, if there are trees
  pub few_alphas_at : (i : ℕ) (xs : List E) → 0 < length trees → AreDistinct e.ring.zero xs → All (IsUnluckyAlphaAt f e t trees i) xs → length xs < length trees
  few_alphas_at i [] some apart unlucky = some
  few_alphas_at i (x ∷ xs) some apart unlucky =
      let cs = constraint_values f e t trees i in
      few_roots_in e.ring L.above nonzero_divisors (length trees) (x ∷ xs) (reverse cs) apart
      (degree_length_le e.ring L.above (length trees) (reverse cs) (omega (arith, values_long i)))
      (λ j h. sym (fold_at_challenge e.ring L.above (get_or (x ∷ xs) j e.ring.zero) cs) ∙ (unlucky j e.ring.zero h).vanishes)
      (λ z. (unlucky zero x (omega arith)).differs (zero_values e.ring L.above cs z))

  -- g isn't zero, has degree at most m, and each alpha of P is a root
  record IsRuledBy (m : ℕ) (P : E → Type 0) (g : List E) : Type 0 where
    pub low : DegreeBelow e.ring (suc m) g
    pub nonzero : IsZeroPoly e.ring g → ⊥
    pub root : (a : E) → P a → eval_poly e.ring g a ≡ e.ring.zero

  one_rules : (P : E → Type 0) → ((a : E) → P a → ⊥) → (m : ℕ) → IsRuledBy m P (e.ring.one ∷ [])
  one_rules P none m = record {
    low = degree_more e.ring L.above 1 (suc m) (e.ring.one ∷ []) (omega arith) (degree_length e.ring L.above (e.ring.one ∷ []));
    nonzero = λ z. L.above_field.one_differs (z 0);
    root = λ a p. absurd (none a p);
  }

  row_rules : (i : ℕ) → (g : List E) × IsRuledBy (length trees - 1) (IsUnluckyAlphaAt f e t trees i) g
  row_rules i =
      let cs = constraint_values f e t trees i in
      elim (items_decided e.ring.zero L.above_decided cs) [
        | inl a ↦ (e.ring.one ∷ [], one_rules (IsUnluckyAlphaAt f e t trees i) (λ alpha u. u.differs a) (length trees - 1))
        | inr d ↦ (
          reverse cs,
          record {
            low = degree_length_le e.ring L.above (suc (length trees - 1)) (reverse cs) (omega (arith, values_long i));
            nonzero = λ z. d (zero_values e.ring L.above cs z);
            root = λ alpha u. sym (fold_at_challenge e.ring L.above alpha cs) ∙ u.vanishes;
          },
        )
      ]

  -- unlucky at one of the first m rows
  abbrev IsUnluckyBelow : ℕ → E → Type 0
  IsUnluckyBelow m alpha = (i : ℕ) × (i < m) × IsUnluckyAlphaAt f e t trees i alpha

  rows_rule : (m : ℕ) → (g : List E) × IsRuledBy (m * (length trees - 1)) (IsUnluckyBelow m) g
  rows_rule zero = (e.ring.one ∷ [], one_rules (IsUnluckyBelow zero) (λ alpha u. omega (arith, u.1)) (zero * (length trees - 1)))
  rows_rule (suc m) =
      let s = e.ring in
      let (g, G) = rows_rule m in
      let (h, H) = row_rules m in
      let k = length trees - 1 in (
        mul_poly s g h,
        record {
          low = degree_more s L.above (suc (m * k) + k) (suc (suc m * k)) (mul_poly s g h) (omega arith) (degree_mul s L.above (suc (m * k)) k g h G.low H.low);
          nonzero = λ z. elim (poly_no_zero_divisors s L.above nonzero_divisors (λ x. L.above_decided x s.zero) g h z) [ inl a ↦ G.nonzero a | inr b ↦ H.nonzero b ];
          root = λ a u. eval_mul s L.above g h a ∙ (elim (cases_eq u.0 m) [
            | inl w ↦ ap (s.mul (eval_poly s g a)) (H.root a (subst (λ i. IsUnluckyAlphaAt f e t trees i a) w u.2)) ∙ mul_zero s L.above (eval_poly s g a)
            | inr w ↦ ap (λ v. s.mul v (eval_poly s h a)) (G.root a (u.0, omega (arith, u.1, w), u.2)) ∙ zero_mul s L.above (eval_poly s h a)
          ]);
        },
      )

  -- distinct alphas that are unlucky at some row are at most n (N - 1), for n rows and N trees
  pub few_alphas : (xs : List E) → AreDistinct e.ring.zero xs → All (IsUnluckyAlpha f e t trees) xs → length xs ≤ row_count_of t * (length trees - 1)
  few_alphas xs apart unlucky =
      let (g, G) = rows_rule (row_count_of t) in
      let h : length xs < suc (row_count_of t * (length trees - 1)) =
      few_roots_in e.ring L.above nonzero_divisors (suc (row_count_of t * (length trees - 1))) xs g apart G.low (λ j l. G.root (get_or xs j e.ring.zero) (unlucky j e.ring.zero l)) G.nonzero in
      omega (arith, h)

  -- distinct zetas that are unlucky are at most the larger of p and n (C + 1) - 1, for n rows, C chunks and trees of degree at most p
  pub few_zetas : (q : CommittedQuotient F) (alpha : E) → t.log_height ≤ top → IsBounded f t → IsBoundedQuotient f t q → (p : ℕ)
      → All (λ tree. full_polynomial_degree (row_count_of t) (table_periods_of t) tree ≤ p) trees
      → (xs : List E) → AreDistinct e.ring.zero xs → All (IsUnluckyZeta f e t trees q alpha) xs
      → length xs ≤ max p (row_count_of t * (chunk_count_of q + 1) - 1)
  few_zetas q alpha fits B Q p most [] apart unlucky = omega arith
  few_zetas q alpha fits B Q p most (x ∷ xs) apart unlucky =
      let bound = max p (row_count_of t * (chunk_count_of q + 1) - 1) in
      let h : length (x ∷ xs) < suc bound =
      few_roots_in e.ring L.above nonzero_divisors (suc bound) (x ∷ xs) (identity_poly f e t trees q alpha) apart
      (identity_degree f e top inverse L t q Q fits B trees alpha p most)
      (λ j l. (unlucky j e.ring.zero l).vanishes)
      (unlucky zero x (omega arith)).differs in
      omega (arith, h)
