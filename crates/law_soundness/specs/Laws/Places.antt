-- Places in lists that are put together.
use Rattle.std.proofs.Common.{◌≡◌, ℕ, zero, suc, ◌+◌, ◌<◌, List, [], ◌∷◌, ◌++◌, Some, length, ◌∙◌, ap, arith}
use Rattle.std.specs.Prelude.{slice_get, flat_map, sum}
use Rattle.std.proofs.lemmas.List.Sums.{sum_by-cons}
use Rattle.p3_field.specs.Poly.{tabulate}

-- the item stands somewhere in the list
abbrev pub Has : {A : Type 0} → List A → A → Type 0
Has xs x = (i : ℕ) × (slice_get xs i ≡ Some x)

-- what stands in a list stands there in a longer one, and after another list
pub found_before : {A : Type 0} (xs ys : List A) (i : ℕ) (x : A) → slice_get xs i ≡ Some x → slice_get (xs ++ ys) i ≡ Some x
found_before [] ys i x h = absurd cc
found_before (y ∷ xs) ys zero x h = h
found_before (y ∷ xs) ys (suc i) x h = found_before xs ys i x h

pub found_after : {A : Type 0} (xs ys : List A) (i : ℕ) (x : A) → slice_get ys i ≡ Some x → slice_get (xs ++ ys) (length xs + i) ≡ Some x
found_after [] ys i x h = let e : 0 + i ≡ i = omega arith in ap (λ k. slice_get ys k) e ∙ h
found_after (y ∷ xs) ys i x h =
    let e : length (y ∷ xs) + i ≡ suc (length xs + i) = omega arith in
    ap (λ k. slice_get (y ∷ xs ++ ys) k) e ∙ found_after xs ys i x h

pub has_before : {A : Type 0} (xs ys : List A) (x : A) → Has xs x → Has (xs ++ ys) x
has_before xs ys x h = (h.0, found_before xs ys h.0 x h.1)

pub has_after : {A : Type 0} (xs ys : List A) (x : A) → Has ys x → Has (xs ++ ys) x
has_after xs ys x h = (length xs + h.0, found_after xs ys h.0 x h.1)

-- what stands in one of five lists
module _ {A : Type 0} (a b c d e : List A) (x : A) where
  pub has_second : Has b x → Has (a ++ b ++ c ++ d ++ e) x
  has_second h = has_before (a ++ b ++ c ++ d) e x (has_before (a ++ b ++ c) d x (has_before (a ++ b) c x (has_after a b x h)))

  pub has_third : Has c x → Has (a ++ b ++ c ++ d ++ e) x
  has_third h = has_before (a ++ b ++ c ++ d) e x (has_before (a ++ b ++ c) d x (has_after (a ++ b) c x h))

  pub has_fourth : Has d x → Has (a ++ b ++ c ++ d ++ e) x
  has_fourth h = has_before (a ++ b ++ c ++ d) e x (has_after (a ++ b ++ c) d x h)

  pub has_fifth : Has e x → Has (a ++ b ++ c ++ d ++ e) x
  has_fifth h = has_after (a ++ b ++ c ++ d) e x h

-- an item of a table
pub found_in_table : {A : Type 0} (n : ℕ) (t : ℕ → A) (i : ℕ) → i < n → slice_get (tabulate n t) i ≡ Some (t i)
found_in_table zero t i h = absurd (omega (arith, h))
found_in_table (suc n) t zero h = cc
found_in_table (suc n) t (suc i) h = found_in_table n (λ j. t (suc j)) i (omega (arith, h))

-- Item j of list i, where lists are put together and list l has so many items: it stands after all items of the lists before.
pub found_in_lists : {X A : Type 0} (n : ℕ) (t : ℕ → X) (f : X → List A) (count : ℕ → ℕ) (i j : ℕ) (x : A) → ((l : ℕ) → l < n → length (f (t l)) ≡ count l)
    → i < n → slice_get (f (t i)) j ≡ Some x → slice_get (flat_map f (tabulate n t)) (sum (tabulate i count) + j) ≡ Some x
found_in_lists zero t f count i j x long below h = absurd (omega (arith, below))
found_in_lists (suc n) t f count zero j x long below h =
    let e : 0 + j ≡ j = omega arith in
    let rest = flat_map f (tabulate n (λ l. t (suc l))) in
    ap (λ k. slice_get (f (t zero) ++ rest) k) e ∙ found_before (f (t zero)) rest j x h
found_in_lists (suc n) t f count (suc i) j x long below h =
    let rest = flat_map f (tabulate n (λ l. t (suc l))) in
    let later : ℕ → ℕ = λ l. count (suc l) in
    let first : length (f (t zero)) ≡ count zero = long zero (omega arith) in
    let more : sum (tabulate (suc i) count) ≡ count zero + sum (tabulate i later) = sum_by-cons (λ m. m) (count zero) (tabulate i later) in
    let e : sum (tabulate (suc i) count) + j ≡ length (f (t zero)) + (sum (tabulate i later) + j) = omega (arith, first, more) in
    ap (λ k. slice_get (f (t zero) ++ rest) k) e
    ∙ found_after (f (t zero)) rest (sum (tabulate i later) + j) x (found_in_lists n (λ l. t (suc l)) f later i j x (λ l b. long (suc l) (omega (arith, b))) (omega (arith, below)) h)
