-- Values of the declared lengths are enough.
use Rattle.std.proofs.Common.{◌≡◌, ℕ, ◌<◌, ◌≤◌, List, length, All, true, false, sym, ◌∙◌, inl, inr, arith}
use Rattle.std.specs.Prelude.{IsTrue, nat_lt, nat_eq}
use Rattle.std.proofs.lemmas.Bool.{cases_lt}
use Rattle.std.proofs.lemmas.Bool.Decides.{nat_tests}
use Rattle.std.proofs.lemmas.List.Folds.{list_any_none}
use Rattle.air_core.specs.Shape.{Declaration, has, width_of}
use Rattle.p3_lookup.specs.Lookup.{LookupData}
use Rattle.batch_constraints.specs.BatchTrees.{AreLookupsOf}
use Rattle.verifier_identity.specs.Identity.{OpenedTable, HasDeclaredLengths, OpensWhatIsRead}

differs_above : (m n w : ℕ) → m < w → w ≤ n → nat_eq m n ≡ false
differs_above m n w h k = grind (arith, nat_tests)

is_below : (m n : ℕ) → m < n → IsTrue (nat_lt m n)
is_below m n h = grind (arith, nat_tests)

false_is_not_true : false ≡ true → ⊥
false_is_not_true e = cc

has_below : (ns : List ℕ) (w n : ℕ) → All (λ c. c < w) ns → IsTrue (has ns n) → n < w
has_below ns w n below h = elim (cases_lt n w) [
  | inl less ↦ less
  | inr more ↦ absurd (false_is_not_true (sym (list_any_none (λ m. nat_eq m n) ns (λ k d at. differs_above _ n w (below k d at) more)) ∙ h))
]

-- values of the declared lengths are those of each cell that the table reads
pub declared_lengths_enough : {F E : Type 0} (d : Declaration F) (lookups : List (LookupData F)) (o : OpenedTable F E) → All (λ c. c < d.width) d.main_next
    → All (λ c. c < width_of d.preprocessed) d.preprocessed_next → AreLookupsOf d lookups → HasDeclaredLengths d (length lookups) o → OpensWhatIsRead d lookups o
declared_lengths_enough d lookups o main preprocessed are h = record {
  declared = record {
    main = omega (arith, h.trace_local);
    main_next = λ column has_it. is_below _ _ (omega (arith, h.trace_next, has_below d.main_next d.width column main has_it));
    preprocessed = omega (arith, h.preprocessed_local);
    preprocessed_next = λ column has_it. is_below _ _ (omega (arith, h.preprocessed_next, has_below d.preprocessed_next (width_of d.preprocessed) column preprocessed has_it));
    periodic = omega (arith, h.periodic);
    public = omega (arith, h.public);
  };
  lookups_of = are;
  columns = λ some. omega (arith, h.permutation_local some, h.permutation_next some);
  challenges = omega (arith, h.challenges);
  terminals = λ some. omega (arith, h.terminals some);
}
