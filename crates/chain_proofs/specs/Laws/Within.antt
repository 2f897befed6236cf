-- The honest proof of a chain is within the limits of a proof's text.
use Rattle.std.specs.Int.{IsPowerOfTwo}
use Rattle.std.proofs.Common.{◌≡◌, ℕ, zero, suc, ◌+◌, ◌*◌, ◌^◌, ◌<◌, ◌≤◌, List, [], ◌∷◌, length, Option, sym, ap, subst, arith}
use Rattle.std.specs.Prelude.{All}
use Rattle.std.proofs.lemmas.List.{length-map}
use Rattle.p3_field.specs.Domain.{CosetData, subgroup}
use Rattle.p3_field.specs.Laws.Tabulate.{length-tabulate}
use Rattle.p3_field.specs.Poly.{tabulate}
use Rattle.p3_field.specs.Quartic.{quartic_inv}
use Rattle.p3_field.specs.declared.baby_bear.BabyBear.{BabyBear}
use Rattle.p3_field.specs.declared.quartic.QuarticExtension.{QuarticExtension}
use Rattle.p3_matrix.specs.Matrix.{Rows}
use Rattle.air_core.specs.Laws.Lists.{all_tabulate}
use Rattle.plain_pcs.specs.Laws.OpenedCommitments.{power_within}
use Rattle.plain_pcs.specs.declared.commitment.PlainProof.{PlainProof}
use Rattle.law_committed.specs.Fields.{FieldsLaws, baby_bear_field, quartic_extension}
use Rattle.law_committed.specs.Rows.{flattened_matrix}
use Rattle.law_honest.specs.HonestProof.{alpha, challenges_at, honest_proof, honest_terminal, opened_of, permutation_columns, permutation_matrices, zeta}
use Rattle.law_valid.specs.Traced.{TracedTable, declared as declared_of, log_parts}
use Rattle.law_valid.specs.Valid.{HasQuotientDomain, IsTraced}
use Rattle.prover_answer.specs.Batch.{all_chunks, all_permutations, chunks_of, main_matrices, table_at, table_count}
use Rattle.tool_airs.specs.Airs.{AirsBatch, AirsProof}
use Rattle.tool_airs.specs.Laws.Alone.{of_each, sends_nothing, table_of}
use Rattle.tool_lines.specs.Texts.{Between, ListWithin}
use Rattle.tool_proof_text.specs.Openings.{InstanceWithin}
use Rattle.tool_proof_text.specs.ProofText.{ProofWithin}
use Rattle.tool_prover.specs.Laws.Granted.{all_chunks_sized, all_permutations_sized, mains_sized}
use Rattle.tool_prover.specs.Laws.JobTables.{IsSmall}
use Rattle.tool_prover.specs.Laws.OpenedSizes.{opened_within}
use Rattle.tool_prover.specs.Laws.Sized.{IsSized}
use Rattle.tool_prover.specs.Laws.Within.{any_option, commitment_within, flat_few, four, some_within, unmasked, where_few}
use Rattle.transcript_version.specs.declared.TranscriptVersion.TheVariants.{V2}
use Rattle.tool_statement.specs.Config.{tool_scheme, tool_setting}
use Rattle.chain_proofs.specs.Laws.Table.{all_shaped, alone, divided, low, parts_are, traced}
use Rattle.chain_proofs.specs.Statement.{IsChainProof, chain_batch, chain_instance, constraints, declared, none_sent}

module _ (start : List ℕ) (blocks : List (List ℕ)) (power : IsPowerOfTwo (length blocks)) (few : length blocks ≤ 8) (L : FieldsLaws baby_bear_field quartic_extension 27 quartic_inv) where
  abbrev pub b : AirsBatch
  b = chain_batch start blocks

  abbrev own : TracedTable BabyBear
  own = table_of declared constraints none_sent alone (chain_instance start blocks)

  -- what holds of the chain's table holds of each of its batch
  pub each : (P : TracedTable BabyBear → Type 0) → P own → (i : ℕ) → i < table_count b → P (table_at b i)
  each P h = of_each declared constraints none_sent alone L (chain_instance start blocks ∷ []) (all_shaped start blocks power few) P only
    where
      only : All (λ i. P (table_of declared constraints none_sent alone i)) (chain_instance start blocks ∷ [])
      only zero d l = h
      only (suc i) d l = absurd (omega (arith, l))

  pub tables_traced : (i : ℕ) → i < table_count b → IsTraced (tool_setting V2) (table_at b i)
  tables_traced = each (IsTraced (tool_setting V2)) (traced start blocks power few L)

  pub tables_divided : (i : ℕ) → i < table_count b → HasQuotientDomain (tool_setting V2) (table_at b i)
  tables_divided = each (HasQuotientDomain (tool_setting V2)) (divided start blocks power few L)

  small : IsSmall V2 own
  small =
      let h = low start blocks power few in
      let none : length own.lookups ≡ 0 = ap length (sends_nothing declared constraints none_sent alone (chain_instance start blocks)) in
      let one = parts_are start blocks power few L in
      record { rows = omega (arith, h); columns = omega arith; preprocessed = omega arith; lookups = omega (arith, none); parts = omega (arith, one) }

  pub tables_small : (i : ℕ) → i < table_count b → IsSmall V2 (table_at b i)
  tables_small = each (IsSmall V2) small

  pub narrow_rows : (i : ℕ) → i < table_count b → (table_at b i).degree_bits ≤ 10
  narrow_rows i l = (tables_small i l).rows

  narrow : (i : ℕ) → i < table_count b → (declared_of (table_at b i)).width ≤ 9168
  narrow i l = (tables_small i l).columns

  few_flat : (i : ℕ) → i < table_count b → (length (table_at b i).lookups + 1) * (tool_setting V2).extension.dimension ≤ 9168
  unfolding tool_setting
  few_flat i l = let n = (tables_small i l).lookups in omega (arith, n)

  pub mains : All (IsSized 10 9168) (main_matrices b)
  unfolding tool_setting
  mains = mains_sized tool_scheme L.below L.below_field L.roots b L (unmasked V2) tables_traced 10 9168 (omega arith) narrow_rows narrow few_flat (let n = four V2 in omega (arith, n))

  pub mains_few : length (main_matrices b) ≤ 8
  mains_few = omega arith

  module _ (w : Option BabyBear) (z : BabyBear) where
    abbrev folding : QuarticExtension
    folding = alpha b.setting b.prover b.statement b.traces b.degree_bits w

    abbrev drawn : QuarticExtension
    drawn = zeta b.setting b.prover b.statement b.traces b.degree_bits w z

    abbrev challenges : ℕ → List QuarticExtension
    challenges i = challenges_at b.setting b.prover b.statement b.traces b.degree_bits w i

    instance_within : (i : ℕ) → i < table_count b → InstanceWithin (opened_of (tool_setting V2) b.prover (table_at b i) (challenges i) folding drawn)
    unfolding tool_setting
    instance_within i l =
        let s = tables_small i l in
        opened_within (tool_setting V2) b.prover (table_at b i) (challenges i) L (tables_divided i l) (tables_traced i l) (four V2) s.columns s.preprocessed s.lookups s.parts folding drawn

    permutations : All (IsSized 10 9168) (all_permutations b w)
    unfolding tool_setting
    permutations = all_permutations_sized tool_scheme L.below L.below_field L.roots b L (unmasked V2) tables_traced 10 9168 (omega arith) narrow_rows narrow few_flat (let n = four V2 in omega (arith, n)) w

    pub permutations_few : length (all_permutations b w) ≤ 16
    permutations_few =
        let m : length (all_permutations b w) ≤ 2 * table_count b = flat_few {Y = CosetData BabyBear × Rows BabyBear} (λ i. permutation_matrices b.setting b.prover (table_at b i) (challenges i)) (table_count b) (λ i. i) (λ i l. where_few (table_at b i).lookups (subgroup b.setting.field.ring (table_at b i).degree_bits, flattened_matrix b.setting.extension (permutation_columns b.setting b.prover (table_at b i) (challenges i)))) in
        omega (arith, m)

    chunks : All (IsSized 10 9168) (all_chunks b w)
    unfolding tool_setting
    chunks = all_chunks_sized tool_scheme L.below L.below_field L.roots b L (unmasked V2) tables_traced 10 9168 (omega arith) narrow_rows narrow few_flat (let n = four V2 in omega (arith, n)) w

    few_chunks : (i : ℕ) → i < table_count b → length (chunks_of b w i) ≤ 2
    few_chunks i l =
        let two : 2 ^ log_parts (tool_setting V2) (table_at b i) ≤ 2 ^ 1 = power_within (log_parts (tool_setting V2) (table_at b i)) 1 (tables_small i l).parts in
        let n : length (chunks_of b w i) ≡ 2 ^ log_parts (tool_setting V2) (table_at b i) = length-tabulate (2 ^ log_parts (tool_setting V2) (table_at b i)) _ in
        omega (arith, two, n)

    pub chunks_few : length (all_chunks b w) ≤ 16
    chunks_few = let m = flat_few (chunks_of b w) (table_count b) (λ i. i) few_chunks in omega (arith, m)

    built_within : (opening : PlainProof) → ProofWithin (honest_proof b.setting b.prover b.statement b.traces b.degree_bits w z opening)
    unfolding honest_proof
    built_within opening =
        let n = table_count b in
        let h = low start blocks power few in
        let long = length-tabulate n (λ i. opened_of (tool_setting V2) b.prover (table_at b i) (challenges i) folding drawn) in
        let ended = length-tabulate n (λ i. honest_terminal (tool_setting V2) b.prover (table_at b i) (challenges i)) in
        record {
          commitments = record {
            main = commitment_within (main_matrices b) (let m = mains_few in omega (arith, m)) mains;
            permutation = some_within (all_permutations b w) permutations_few permutations;
            quotient_chunks = commitment_within (all_chunks b w) chunks_few chunks;
            random = tt;
          };
          instances = ((omega arith, omega (arith, long)), all_tabulate InstanceWithin n _ instance_within);
          lookup_terminals = ((omega arith, omega (arith, ended)), λ i d l. any_option _);
          degree_bits = bits;
        }
      where
        bits : ListWithin 0 1024 (Between 0 255) b.degree_bits
        bits = ((omega arith, omega arith), each_bit)
          where
            each_bit : All (Between 0 255) b.degree_bits
            each_bit zero d l = let h = low start blocks power few in (omega arith, omega (arith, h))
            each_bit (suc i) d l = absurd (omega (arith, l))

  -- so is a proof that is built honestly
  pub proof_within : (q : AirsProof) → IsChainProof start blocks q → ProofWithin q
  proof_within q B = subst ProofWithin (sym B.proof_is) (built_within q.lookup_pow_witness q.ood_pow_witness q.opening_proof)
