-- How many terminals there are, and that permutation columns are committed to exactly where there are some.
use Rattle.std.proofs.Common.{◌≡◌, ℕ, suc, List, [], ◌∷◌, length, get_or, Option, None, Some, refl, sym, ◌∙◌, ap, zero-add}
use Rattle.std.specs.Prelude.{count_by, is_some}
use Rattle.std.specs.List.{filter_map}
use Rattle.p3_field.specs.Poly.{tabulate}
use Rattle.p3_matrix.specs.Matrix.{Rows}
use Rattle.verifier_draws.specs.Laws.Singles.{counts_more, counts_some}
use Rattle.batch_config.specs.Setting.{Setting}
use Rattle.batch_statement.specs.Words.{has_some, is_there}
use Rattle.batch_statement.specs.Statement.{Statement}
use Rattle.batch_transcript.specs.BatchScript.{is_positive}
use Rattle.law_valid.specs.Traced.{traced_at}
use Rattle.law_valid.specs.Valid.{IsTracedBatch}
use Rattle.law_acceptance.specs.Laws.Shape.{permutation_there}
use Rattle.law_honest.specs.HonestProof.{Prover, challenges_at, honest_permutation_commitment, shape, honest_terminal, terminals, where_some}

-- of lists, as many as are not empty have a value
counted_where : {A B : Type 0} (lists : List (List A)) (u : ℕ → B) → length (filter_map (λ t. t) (tabulate (length lists) (λ i. where_some (get_or lists i []) (u i)))) ≡ count_by has_some lists
counted_where [] u = refl
counted_where ([] ∷ lists) u = rw zero-add (counted_where lists (λ i. u (suc i)))
counted_where ((x ∷ xs) ∷ lists) u = ap suc (counted_where lists (λ i. u (suc i))) ∙ sym (counts_more lists x xs)

there_some : {A : Type 0} (o : Option A) → is_some o ≡ is_there o
there_some None = refl
there_some (Some x) = refl

module _ {S F E C : Type 0} (c : Setting S F E C) (p : Prover F E C) (s : Statement F C) (traces : List (Rows F)) (degree_bits : List ℕ) (B : IsTracedBatch c p.commitment_of s traces degree_bits) (w : Option F) where
  -- as many tables have a terminal as have lookups
  pub terminals_counted : length (filter_map (λ t. t) (terminals c p s traces degree_bits w)) ≡ (shape c p s traces degree_bits).num_lookup_instances
  unfolding honest_terminal
  terminals_counted =
      let own : ℕ → Option E = λ i. honest_terminal c p (traced_at s traces degree_bits i) (challenges_at c p s traces degree_bits w i) in
      ap (λ n. length (filter_map (λ t. t) (tabulate n own))) (sym B.lists.lookups_long)
      ∙ counted_where s.common.lookups _

  pub columns_there : is_some (honest_permutation_commitment c p s traces degree_bits w) ≡ is_positive (shape c p s traces degree_bits).num_lookup_instances
  columns_there = there_some (honest_permutation_commitment c p s traces degree_bits w) ∙ (permutation_there c p s traces degree_bits B w ∙ sym (counts_some s.common.lookups))
