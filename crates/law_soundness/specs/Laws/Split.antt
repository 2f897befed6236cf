-- How many distinct items have a property that is one of several, of which each has few.
use Rattle.std.proofs.Common.{◌≡◌, ℕ, zero, suc, ◌+◌, ◌≤◌, ◌⊎◌, inl, inr, List, [], ◌∷◌, length, map, refl, sym, subst, arith}
use Rattle.std.specs.Prelude.{All, Contains, sum}
use Rattle.std.proofs.lemmas.List.Elements.{All-cons, All-from_get_or, All-head, All-nil, All-tail}
use Rattle.std.proofs.lemmas.List.Sums.{sum_by-cons}
use Rattle.law_committed.specs.Unlucky.{AreDistinct}

module _ {E : Type 0} (z : E) where
  -- none of the items is a
  abbrev Lacks : E → List E → Type 0
  Lacks a xs = All (λ x. a ≡ x → ⊥) xs

  distinct_tail : (a : E) (xs : List E) → AreDistinct z (a ∷ xs) → AreDistinct z xs
  distinct_tail a xs h i j b c e = h (suc i) (suc j) (omega (arith, b)) (omega (arith, c)) e

  lacks_head : (a : E) (xs : List E) → AreDistinct z (a ∷ xs) → Lacks a xs
  lacks_head a xs h = All-from_get_or (λ x. a ≡ x → ⊥) xs z (λ i l e. h zero (suc i) (omega arith) (omega (arith, l)) e)

  distinct_cons : (a : E) (xs : List E) → Lacks a xs → AreDistinct z xs → AreDistinct z (a ∷ xs)
  distinct_cons a xs l h i zero b c e = absurd (omega (arith, b))
  distinct_cons a xs l h zero (suc j) b c e = l j z (omega (arith, c)) e
  distinct_cons a xs l h (suc i) (suc j) b c e = h i j (omega (arith, b)) (omega (arith, c)) e

  -- the items in two parts, those of the first with P and those of the second with Q
  record Parts (P Q : E → Type 0) (xs : List E) : Type 0 where
    first : List E
    second : List E
    count : length xs ≡ length first + length second
    first_distinct : AreDistinct z first
    second_distinct : AreDistinct z second
    first_have : All P first
    second_have : All Q second
    first_lack : (a : E) → Lacks a xs → Lacks a first
    second_lack : (a : E) → Lacks a xs → Lacks a second

  split : (P Q : E → Type 0) (xs : List E) → AreDistinct z xs → All (λ x. P x ⊎ Q x) xs → Parts P Q xs
  split P Q [] d h = record {
    first = [];
    second = [];
    count = refl;
    first_distinct = λ i j b c e. absurd (omega (arith, c));
    second_distinct = λ i j b c e. absurd (omega (arith, c));
    first_have = All-nil P;
    second_have = All-nil Q;
    first_lack = λ a l. l;
    second_lack = λ a l. l;
  }
  split P Q (x ∷ xs) d h =
      let r = split P Q xs (distinct_tail x xs d) (All-tail (λ y. P y ⊎ Q y) x xs h) in
      let apart = lacks_head x xs d in
      let more = r.count in
      elim (All-head (λ y. P y ⊎ Q y) x xs h) [
        | inl p ↦ record {
          first = x ∷ r.first;
          second = r.second;
          count = omega (arith, more);
          first_distinct = distinct_cons x r.first (r.first_lack x apart) r.first_distinct;
          second_distinct = r.second_distinct;
          first_have = All-cons P x r.first p r.first_have;
          second_have = r.second_have;
          first_lack = λ a l. All-cons (λ y. a ≡ y → ⊥) x r.first (All-head (λ y. a ≡ y → ⊥) x xs l) (r.first_lack a (All-tail (λ y. a ≡ y → ⊥) x xs l));
          second_lack = λ a l. r.second_lack a (All-tail (λ y. a ≡ y → ⊥) x xs l);
        }
        | inr q ↦ record {
          first = r.first;
          second = x ∷ r.second;
          count = omega (arith, more);
          first_distinct = r.first_distinct;
          second_distinct = distinct_cons x r.second (r.second_lack x apart) r.second_distinct;
          first_have = r.first_have;
          second_have = All-cons Q x r.second q r.second_have;
          first_lack = λ a l. r.first_lack a (All-tail (λ y. a ≡ y → ⊥) x xs l);
          second_lack = λ a l. All-cons (λ y. a ≡ y → ⊥) x r.second (All-head (λ y. a ≡ y → ⊥) x xs l) (r.second_lack a (All-tail (λ y. a ≡ y → ⊥) x xs l));
        }
      ]

  -- Where at most `bound b` distinct items have a property of b, at most the sum of these numbers have it of some b in a list.
  module _ {B : Type 0} (P : B → E → Type 0) (bound : B → ℕ) where
    abbrev pub IsFew : B → Type 0
    IsFew b = (xs : List E) → AreDistinct z xs → All (P b) xs → length xs ≤ bound b

    abbrev pub OfSome : List B → E → Type 0
    OfSome bs x = (b : B) × Contains bs b × P b x

    here_or_later : (b : B) (bs : List B) (x : E) → OfSome (b ∷ bs) x → P b x ⊎ OfSome bs x
    here_or_later b bs x (c, (zero, l, same), p) = inl (subst (λ d. P d x) (sym same) p)
    here_or_later b bs x (c, (suc k, l, same), p) = inr (c, (k, omega (arith, l), same), p)

    pub few_of_some : (bs : List B) → All IsFew bs → (xs : List E) → AreDistinct z xs → All (OfSome bs) xs → length xs ≤ sum (map bound bs)
    few_of_some [] few [] d h = omega arith
    few_of_some [] few (x ∷ xs) d h = let l = (All-head (OfSome []) x xs h).1.1 in absurd (omega (arith, l))
    few_of_some (b ∷ bs) few xs d h =
        let r = split (P b) (OfSome bs) xs d (λ k u l. here_or_later b bs _ (h k u l)) in
        let first = All-head IsFew b bs few r.first r.first_distinct r.first_have in
        let second = few_of_some bs (All-tail IsFew b bs few) r.second r.second_distinct r.second_have in
        let more : sum (map bound (b ∷ bs)) ≡ bound b + sum (map bound bs) = sum_by-cons (λ n. n) (bound b) (map bound bs) in
        let whole = r.count in
        omega (arith, first, second, more, whole)
