-- The search for the first column that doesn't fit, and the greatest length.
use Rattle.std.proofs.Common.{◌≡◌, ℕ, ◌+◌, ◌<◌, inl, inr, List, Option, Some, length, get_or, map, subst, sym, ◌∙◌, ap, arith}
use Rattle.std.proofs.lemmas.Bool.{cases_lt}
use Rattle.std.proofs.lemmas.List.{get_or-map, length-map}
use Rattle.std.proofs.lemmas.Option.{slice_get-get_or, get_or_from_slice_get}
use Rattle.std.specs.Prelude.{MatchOption, All, slice_get}
use Rattle.std.specs.Int.{◌∣◌}
use Rattle.p3_field.specs.Checks.{FirstFails}
use Rattle.p3_field.specs.Laws.Checks.{first_of_items}
use Rattle.commit_core.specs.Periodic.{IsPeriod, period_checks, NamesFirstUnfit, IsGreatest}
use Rattle.commit_core.specs.Laws.Periods.{periods_pass, longest_divided}
use Rattle.commit_core.specs.declared.periodic.PeriodicColumnShapeError.{PeriodicColumnShapeError}

-- where the columns before this one fit and it doesn't, it is the first unfit one
pub first_unfit : {V : Type 0} (f : V → ℕ) (height : ℕ) (columns : List V) (index n : ℕ) (v : V) (e : PeriodicColumnShapeError) → index < length columns → v ≡ get_or columns index v → n ≡ f v
    → ((k : ℕ) (d : V) → k < index → IsPeriod height (f (get_or columns k d))) → FirstFails (period_checks height index n) e → NamesFirstUnfit height (map f columns) e
first_unfit f height columns index n v e within at is before fails =
    let inside : index < length (map f columns) = omega (arith, length-map columns f) in
    let here : slice_get (map f columns) index ≡ Some n =
    slice_get-get_or (map f columns) index n inside ∙ ap Some (get_or-map f columns index v n within ∙ (ap f (sym at) ∙ sym is)) in
    first_of_items (period_checks height) (map f columns) index n e here
    (λ i m b q.
    let low : i < length columns = omega arith in
    let same : f (get_or columns i v) ≡ m = sym (get_or-map f columns i v m low) ∙ get_or_from_slice_get (map f columns) i m m q in
    periods_pass height i m (subst (IsPeriod height) same (before i v b))) fails

-- one more column fits
pub more_fit : {V : Type 0} (f : V → ℕ) (height : ℕ) (columns : List V) (index n : ℕ) (v : V) → index < length columns → v ≡ get_or columns index v → n ≡ f v
    → ((k : ℕ) (d : V) → k < index → IsPeriod height (f (get_or columns k d))) → IsPeriod height n → (k : ℕ) (d : V) → k < index + 1 → IsPeriod height (f (get_or columns k d))
more_fit f height columns index n v within at e before fit k d b = elim (cases_lt k index) [
  | inl a ↦ before k d a
  | inr a ↦
      let here : k ≡ index = omega arith in
      let item : get_or columns index d ≡ v = any_default columns index d v within ∙ sym at in
      subst (IsPeriod height) (e ∙ sym (ap f (ap (λ j. get_or columns j d) here ∙ item))) fit
]
  where
    any_default : {V : Type 0} (xs : List V) (i : ℕ) (d v : V) → i < length xs → get_or xs i d ≡ get_or xs i v
    any_default xs i d v h = get_or_from_slice_get xs i (get_or xs i v) d (slice_get-get_or xs i v h)

-- the greatest of lengths that are powers of two is a multiple of each
pub greatest_divided : {V : Type 0} (f : V → ℕ) (height : ℕ) (columns : List V) (o : Option ℕ) (n : ℕ) → All (λ c. IsPeriod height (f c)) columns
    → MatchOption o (length columns ≡ 0) (IsGreatest (map f columns)) → o ≡ Some n → All (λ c. f c ∣ n) columns
greatest_divided f height columns o n fit found is = λ k d h.
    let G : IsGreatest (map f columns) n = subst (λ p. MatchOption p (length columns ≡ 0) (IsGreatest (map f columns))) is found in
    (longest_divided f height columns n fit G k d h).1
