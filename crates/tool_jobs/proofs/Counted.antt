-- A job's sums are those of its rows, in any order.
use Rattle.std.proofs.Common.{◌≡◌, ℕ, ◌+◌, ◌<◌, ◌≤◌, ◌==◌, Bool, true, false, cond, List, [], ◌∷◌, map, refl, sym, ◌∙◌, ap, subst, arith, inl, inr}
use Rattle.std.specs.Prelude.{sum_by}
use Rattle.std.specs.List.{flat_map}
use Rattle.std.specs.List.Sorted.{IsPermutation}
use Rattle.std.proofs.lemmas.Bool.{cases_lt}
use Rattle.std.proofs.lemmas.List.Sorted.{sum_by-IsPermutation}
use Rattle.std.proofs.lemmas.List.Sums.{sum_by-append, sum_by-cons}
use Rattle.std.proofs.Math.Nat.{mod-eq_of_lt}
use Rattle.p3_field.specs.BabyBear.{baby_bear_ring}
use Rattle.p3_field.specs.Laws.BabyBearLaws.{baby_bear_of_nat_value}
use Rattle.p3_field.specs.Ring.{of_nat}
use Rattle.p3_field.specs.declared.baby_bear.BabyBear.{BabyBear}
use Rattle.law_tool_valid.specs.Job.{IsBalancedJob, JobTable, swap_of, wheel_of, take_of, give_of, hash_of, times_given, times_taken}
use Rattle.tool_jobs.specs.Tallies.{IsFirstUnequal, given_in, given_often, taken_in, taken_once, tallies_of, tally_times}
use Rattle.tool_jobs.specs.Unbalanced.{IsFirstUnbalanced, same_word}
use Rattle.tool_jobs.specs.declared.balance.Tally.{Tally}
use Rattle.tool_jobs.proofs.Runs.{miss}

-- a sum over what is made of each item
sum_by-map : {X Y : Type 0} (f : Y → ℕ) (g : X → Y) (xs : List X) → sum_by f (map g xs) ≡ sum_by (λ x. f (g x)) xs
sum_by-map f g [] = refl
sum_by-map f g (x ∷ xs) = sum_by-cons f (g x) (map g xs) ∙ (ap (λ n. f (g x) + n) (sum_by-map f g xs) ∙ sym (sum_by-cons (λ y. f (g y)) x xs))

-- a sum over pieces
sum_by-flat_map : {X Y : Type 0} (f : Y → ℕ) (g : X → List Y) (xs : List X) → sum_by f (flat_map g xs) ≡ sum_by (λ x. sum_by f (g x)) xs
sum_by-flat_map f g [] = refl
sum_by-flat_map f g (x ∷ xs) =
    sum_by-append f (g x) (flat_map g xs) ∙ (ap (λ n. sum_by f (g x) + n) (sum_by-flat_map f g xs) ∙ sym (sum_by-cons (λ y. sum_by f (g y)) x xs))

sum_by-same : {X : Type 0} (f g : X → ℕ) → ((x : X) → f x ≡ g x) → (xs : List X) → sum_by f xs ≡ sum_by g xs
sum_by-same f g e [] = refl
sum_by-same f g e (x ∷ xs) = sum_by-cons f x xs ∙ ((λ i. e x i + sum_by-same f g e xs i) ∙ sym (sum_by-cons g x xs))

sum_by-zero : {X : Type 0} (f : X → ℕ) → ((x : X) → f x ≡ 0) → (xs : List X) → sum_by f xs ≡ 0
sum_by-zero f e [] = refl
sum_by-zero f e (x ∷ xs) = let h = e x in let r = sum_by-zero f e xs in omega (arith, h, r, sum_by-cons f x xs)

cond-zero : (b : Bool) → let n : ℕ = cond b 0 0 in n ≡ 0
cond-zero true = refl
cond-zero false = refl

-- how often a table takes a word, and gives it
taken-table : (v : ℕ) (t : JobTable BabyBear) → times_taken (λ x. x.value == v) t ≡ taken_in v (tallies_of t)
taken-table v (swap_of k a b) = refl
taken-table v (wheel_of k) = refl
taken-table v (take_of words) = sym (sum_by-map (λ t. cond (t.number == v) t.taken 0) taken_once words)
taken-table v (give_of pairs) =
    sym (sum_by-map (λ t. cond (t.number == v) t.taken 0) given_often pairs ∙ sum_by-zero (λ p. cond (p.0.value == v) 0 0) (λ p. cond-zero (p.0.value == v)) pairs)
taken-table v (hash_of rows) = refl

given-table : (v : ℕ) (t : JobTable BabyBear) → times_given (λ x. x.value == v) t ≡ given_in v (tallies_of t)
given-table v (swap_of k a b) = refl
given-table v (wheel_of k) = refl
given-table v (take_of words) =
    sym (sum_by-map (λ t. cond (t.number == v) t.given 0) taken_once words ∙ sum_by-zero (λ (x : BabyBear). cond (x.value == v) 0 0) (λ x. cond-zero (x.value == v)) words)
given-table v (give_of pairs) = sym (sum_by-map (λ t. cond (t.number == v) t.given 0) given_often pairs)
given-table v (hash_of rows) = refl

module _ (job : List (JobTable BabyBear)) (sorted : List Tally) (moved : IsPermutation (flat_map tallies_of job) sorted) where
  taken-job : (v : ℕ) → sum_by (times_taken (λ x. x.value == v)) job ≡ taken_in v sorted
  taken-job v =
      let f : Tally → ℕ = λ t. cond (t.number == v) t.taken 0 in
      sum_by-same (times_taken (λ x. x.value == v)) (λ t. sum_by f (tallies_of t)) (taken-table v) job
      ∙ (sym (sum_by-flat_map f tallies_of job) ∙ sym (sum_by-IsPermutation f (flat_map tallies_of job) sorted moved))

  given-job : (v : ℕ) → sum_by (times_given (λ x. x.value == v)) job ≡ given_in v sorted
  given-job v =
      let f : Tally → ℕ = λ t. cond (t.number == v) t.given 0 in
      sum_by-same (times_given (λ x. x.value == v)) (λ t. sum_by f (tallies_of t)) (given-table v) job
      ∙ (sym (sum_by-flat_map f tallies_of job) ∙ sym (sum_by-IsPermutation f (flat_map tallies_of job) sorted moved))

  pub answered-none : ((v : ℕ) → taken_in v sorted ≡ given_in v sorted) → IsBalancedJob same_word job
  answered-none equal = λ w. taken-job w.value ∙ (equal w.value ∙ sym (given-job w.value))

  -- no word has a number from the order on
  absent : (often : Tally → ℕ) (v : ℕ) → 2013265921 ≤ v → tally_times often v sorted ≡ 0
  absent often v high =
      let f : Tally → ℕ = λ t. cond (t.number == v) (often t) 0 in
      let one : (x : BabyBear) → x.value ≡ v → ⊥ = λ x e. let h = x.in_range in omega (arith, h, e, high) in
      sum_by-IsPermutation f (flat_map tallies_of job) sorted moved
      ∙ (sum_by-flat_map f tallies_of job ∙ sum_by-zero (λ t. sum_by f (tallies_of t)) (table one) job)
    where
      f' : Tally → ℕ
      f' t = cond (t.number == v) (often t) 0

      table : ((x : BabyBear) → x.value ≡ v → ⊥) → (t : JobTable BabyBear) → sum_by f' (tallies_of t) ≡ 0
      table one (swap_of k a b) = refl
      table one (wheel_of k) = refl
      table one (take_of words) = sum_by-map f' taken_once words ∙ sum_by-zero (λ x. f' (taken_once x)) (λ x. miss x.value v (often (taken_once x)) (one x)) words
      table one (give_of pairs) = sum_by-map f' given_often pairs ∙ sum_by-zero (λ p. f' (given_often p)) (λ p. miss p.0.value v (often (given_often p)) (one p.0)) pairs
      table one (hash_of rows) = refl

  is-number : (n : ℕ) → IsFirstUnequal sorted n → n < 2013265921
  is-number n h = elim (cases_lt n 2013265921) [
    | inl below ↦ below
    | inr high ↦ absurd (h.unequal (absent (λ t. t.taken) n high ∙ sym (absent (λ t. t.given) n high)))
  ]

  pub answered-some : (n : ℕ) (x : BabyBear) → IsFirstUnequal sorted n → x ≡ of_nat baby_bear_ring n → IsFirstUnbalanced job x
  answered-some n x h e =
      let value : n ≡ x.value = sym (mod-eq_of_lt (is-number n h)) ∙ (baby_bear_of_nat_value n ∙ ap (λ (y : BabyBear). y.value) (sym e)) in
      record {
        unbalanced = λ same. h.unequal (subst (λ m. taken_in m sorted ≡ given_in m sorted) (sym value) (sym (taken-job x.value) ∙ (same ∙ given-job x.value)));
        least = λ w less. taken-job w.value ∙ (h.least w.value (omega (arith, less, value)) ∙ sym (given-job w.value));
      }
