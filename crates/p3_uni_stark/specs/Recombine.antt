-- A quotient's value from its chunks' values. The rule is that of Plonky3's p3-uni-stark
-- (recompose_quotient_from_chunks).
use Rattle.std.specs.Prelude.{◌≡◌, ℕ, suc, ◌+◌, ◌-◌, ◌<◌, ◌^◌, List, [], length, get_or}
use Rattle.p3_field.specs.Ring.{Ring}
use Rattle.p3_field.specs.Field.{TwoAdic, Extension, combine}
use Rattle.p3_field.specs.Poly.{eval_poly, eval_poly_in, total, product}
use Rattle.p3_field.specs.Domain.{CosetData, vanishing_polynomial, point}
use Rattle.commit_core.specs.Space.{AreDisjoint}

-- the product of t j for j below n but for j = i
abbrev pub product_but : {A : Type 0} → Ring A → ℕ → ℕ → (ℕ → A) → A
product_but r n i t = r.mul (product r i t) (product r (n - suc i) (λ j. t (suc i + j)))

-- domain i of a list; what stands past its end is never read
abbrev pub domain_at : {F : Type 0} → Ring F → List (CosetData F) → ℕ → CosetData F
domain_at r ds i = get_or ds i (record { shift = r.one; log_size = 0 })

-- domain i of the list has no point in common with any other
abbrev pub IsDisjointFrom : {F : Type 0} → TwoAdic F → List (CosetData F) → ℕ → Type 0
IsDisjointFrom f ds i = (j : ℕ) → j < length ds → (i ≡ j → ⊥)
    → AreDisjoint (2 ^ (domain_at f.ring ds i).log_size) (point f.ring f.root (domain_at f.ring ds i)) (2 ^ (domain_at f.ring ds j).log_size) (point f.ring f.root (domain_at f.ring ds j))

-- no two domains of the list have a point in common
abbrev pub AllDisjoint : {F : Type 0} → TwoAdic F → List (CosetData F) → Type 0
AllDisjoint f ds = (i : ℕ) → i < length ds → IsDisjointFrom f ds i

-- the weight of chunk i at x: the product over the other domains j of their vanishing polynomials' V_j(x) /
-- V_j(first point of domain i). At the points of domain i it is one where the domains are cosets of one group,
-- and at those of the others zero (`weight_at_own` and `weight_elsewhere` of Laws/Weights).
unfoldable pub chunk_weight : {F E : Type 0} → TwoAdic F → Extension F E → List (CosetData F) → ℕ → E → E
chunk_weight f e ds i x =
    product_but e.ring (length ds) i
    (λ j. e.ring.mul (eval_poly_in e (vanishing_polynomial f.ring f.inv (domain_at f.ring ds j)) x)
    (e.embed (f.inv (eval_poly f.ring (vanishing_polynomial f.ring f.inv (domain_at f.ring ds j)) (point f.ring f.root (domain_at f.ring ds i) 0)))))

-- the quotient's value at x, where chunk i's polynomials have the values listed in item i of `chunks`: the sum of
-- each chunk's weight times the sum of its values times the basis elements
unfoldable pub recombined : {F E : Type 0} → TwoAdic F → Extension F E → List (CosetData F) → List (List E) → E → E
recombined f e ds chunks x =
    total e.ring (length ds) (λ i. e.ring.mul (chunk_weight f e ds i x) (combine e.ring e.basis 0 (get_or chunks i [])))
