-- What holds of all items of joined lists.
use Rattle.std.proofs.Common.{◌≡◌, ℕ, zero, suc, ◌<◌, List, [], ◌∷◌, ◌++◌, map, refl, sym, ◌∙◌, ap, arith, append-nil, append_assoc, inl, inr, subst}
use Rattle.std.specs.Prelude.{All}
use Rattle.std.proofs.lemmas.List.Elements.{All-nil, All-cons, All-head, All-tail, All-append}
use Rattle.std.proofs.lemmas.Bool.{cases_eq}
use Rattle.p3_field.specs.Poly.{tabulate}
use Rattle.air_core.specs.Joined.{joined}

pub all_left : {X : Type 0} (Q : X → Type 0) (xs ys : List X) → All Q (xs ++ ys) → All Q xs
all_left Q [] ys h = All-nil Q
all_left Q (x ∷ xs) ys h = All-cons Q x xs (All-head Q x (xs ++ ys) h) (all_left Q xs ys (All-tail Q x (xs ++ ys) h))

pub all_right : {X : Type 0} (Q : X → Type 0) (xs ys : List X) → All Q (xs ++ ys) → All Q ys
all_right Q [] ys h = h
all_right Q (x ∷ xs) ys h = all_right Q xs ys (All-tail Q x (xs ++ ys) h)

pub all_of_joined : {X : Type 0} (Q : X → Type 0) (n : ℕ) (t : ℕ → List X) → All Q (joined n t) → (i : ℕ) → i < n → All Q (t i)
unfolding joined
all_of_joined Q zero t h i lt = absurd (omega (arith, lt))
all_of_joined Q (suc n) t h i lt = elim (cases_eq i n) [
  | inl e ↦ subst (λ j. All Q (t j)) (sym e) (all_right Q (joined n t) (t n) h)
  | inr d ↦ all_of_joined Q n t (all_left Q (joined n t) (t n) h) i (omega (arith, d, lt))
]

pub all_joined : {X : Type 0} (Q : X → Type 0) (n : ℕ) (t : ℕ → List X) → ((i : ℕ) → i < n → All Q (t i)) → All Q (joined n t)
unfolding joined
all_joined Q zero t h = All-nil Q
all_joined Q (suc n) t h = All-append Q (joined n t) (t n) (all_joined Q n t (λ i lt. h i (omega (arith, lt)))) (h n (omega arith))

pub all_of_tabulate : {X : Type 0} (Q : X → Type 0) (n : ℕ) (t : ℕ → X) → All Q (tabulate n t) → (i : ℕ) → i < n → Q (t i)
all_of_tabulate Q zero t h i lt = absurd (omega (arith, lt))
all_of_tabulate Q (suc n) t h zero lt = All-head Q (t zero) (tabulate n (λ i. t (suc i))) h
all_of_tabulate Q (suc n) t h (suc i) lt = all_of_tabulate Q n (λ i. t (suc i)) (All-tail Q (t zero) (tabulate n (λ i. t (suc i))) h) i (omega (arith, lt))

pub all_tabulate : {X : Type 0} (Q : X → Type 0) (n : ℕ) (t : ℕ → X) → ((i : ℕ) → i < n → Q (t i)) → All Q (tabulate n t)
all_tabulate Q zero t h = All-nil Q
all_tabulate Q (suc n) t h = All-cons Q (t zero) (tabulate n (λ i. t (suc i))) (h zero (omega arith)) (all_tabulate Q n (λ i. t (suc i)) (λ i lt. h (suc i) (omega (arith, lt))))

-- a table as joined lists of one item
pub joined_in_front : {X : Type 0} (n : ℕ) (t : ℕ → List X) → joined (suc n) t ≡ t zero ++ joined n (λ i. t (suc i))
unfolding joined
joined_in_front zero t = sym (append-nil (t zero))
joined_in_front (suc n) t = ap (λ xs. xs ++ t (suc n)) (joined_in_front n t) ∙ append_assoc (t zero) (joined n (λ i. t (suc i))) (t (suc n))

pub tabulate_joined : {X : Type 0} (n : ℕ) (t : ℕ → X) → tabulate n t ≡ joined n (λ i. t i ∷ [])
unfolding joined
tabulate_joined zero t = refl
tabulate_joined (suc n) t = ap (λ xs. t zero ∷ xs) (tabulate_joined n (λ i. t (suc i))) ∙ sym (joined_in_front n (λ i. t i ∷ []))

-- what holds of f at each item of a table
pub all_of_mapped : {X Y : Type 0} (Q : Y → Type 0) (f : X → Y) (n : ℕ) (t : ℕ → X) → All Q (map f (tabulate n t)) → (k : ℕ) → k < n → Q (f (t k))
all_of_mapped Q f zero t h k lt = absurd (omega (arith, lt))
all_of_mapped Q f (suc n) t h zero lt = All-head Q (f (t zero)) (map f (tabulate n (λ i. t (suc i)))) h
all_of_mapped Q f (suc n) t h (suc k) lt = all_of_mapped Q f n (λ i. t (suc i)) (All-tail Q (f (t zero)) (map f (tabulate n (λ i. t (suc i)))) h) k (omega (arith, lt))

pub all_mapped : {X Y : Type 0} (Q : Y → Type 0) (f : X → Y) (n : ℕ) (t : ℕ → X) → ((k : ℕ) → k < n → Q (f (t k))) → All Q (map f (tabulate n t))
all_mapped Q f zero t h = All-nil Q
all_mapped Q f (suc n) t h = All-cons Q (f (t zero)) (map f (tabulate n (λ i. t (suc i)))) (h zero (omega arith)) (all_mapped Q f n (λ i. t (suc i)) (λ k lt. h (suc k) (omega (arith, lt))))
