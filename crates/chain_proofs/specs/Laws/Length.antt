-- How many numbers the honest proof of a chain has, at most.
use Rattle.std.specs.Int.{IsPowerOfTwo}
use Rattle.std.proofs.Common.{◌≡◌, ℕ, ◌+◌, ◌*◌, ◌^◌, ◌<◌, ◌≤◌, List, ◌∷◌, [], length, map, Option, sym, ◌∙◌, subst, arith}
use Rattle.std.specs.Prelude.{All}
use Rattle.p3_field.specs.Domain.{subgroup}
use Rattle.p3_field.specs.Laws.SubgroupSelectors.{map_tabulate}
use Rattle.p3_field.specs.Laws.Tabulate.{length-tabulate}
use Rattle.p3_field.specs.Poly.{tabulate}
use Rattle.p3_field.specs.Quartic.{quartic_inv}
use Rattle.p3_field.specs.declared.baby_bear.BabyBear.{BabyBear}
use Rattle.p3_field.specs.declared.quartic.QuarticExtension.{QuarticExtension}
use Rattle.air_core.specs.Laws.Lists.{all_tabulate}
use Rattle.plain_pcs.specs.Laws.OpenedCommitments.{power_within}
use Rattle.plain_pcs.specs.declared.commitment.PlainProof.{PlainProof}
use Rattle.law_committed.specs.Fields.{FieldsLaws, baby_bear_field, quartic_extension}
use Rattle.law_honest.specs.HonestProof.{IsBuilt, alpha, challenges_at, honest_proof, honest_terminal, opened_of, zeta}
use Rattle.law_valid.specs.Traced.{TracedTable}
use Rattle.prover_answer.specs.Batch.{all_chunks, all_permutations, main_matrices, table_at, table_count}
use Rattle.tool_airs.specs.Airs.{AirsBatch, AirsProof}
use Rattle.tool_airs.specs.Laws.Alone.{table_of}
use Rattle.tool_hash_lines.specs.Laws.Matrices.{laws_of_tool}
use Rattle.tool_lines.specs.Texts.{extension_numbers, one_number, option_numbers}
use Rattle.tool_proof_text.specs.Openings.{instance_numbers}
use Rattle.tool_proof_text.specs.ProofText.{proof_numbers}
use Rattle.tool_prover.specs.Laws.FileLength.{IsFew, commitment_few, narrow_few, proof_sum, some_few, terminal_few}
use Rattle.tool_prover.specs.Laws.Lengths.{list_few}
use Rattle.tool_prover.specs.Laws.OpenedCounts.{opened_few}
use Rattle.tool_prover.specs.Laws.Sized.{IsSized, all_flat, chunks_sized, main_sized, permutations_sized}
use Rattle.tool_prover.specs.Laws.Within.{four, unmasked}
use Rattle.transcript_version.specs.declared.TranscriptVersion.TheVariants.{V2}
use Rattle.tool_statement.specs.Config.{tool_setting}
use Rattle.chain_proofs.specs.Laws.Table.{alone, low}
use Rattle.chain_proofs.specs.Laws.Within.{b, chunks_few, each, mains, mains_few, narrow_rows, permutations_few, tables_divided, tables_small, tables_traced}
use Rattle.chain_proofs.specs.Statement.{IsChainProof, chain_instance, constraints, declared, none_sent}

module _ (start : List ℕ) (blocks : List (List ℕ)) (power : IsPowerOfTwo (length blocks)) (few : length blocks ≤ 8) (L : FieldsLaws baby_bear_field quartic_extension 27 quartic_inv) where
  abbrev batch : AirsBatch
  batch = b start blocks power few L

  abbrev table : ℕ → TracedTable BabyBear
  table = table_at batch

  cells : (i : ℕ) → i < table_count batch → 2 ^ (table i).degree_bits * (table i).trace.width ≤ 73344
  cells = each start blocks power few L (λ t. 2 ^ t.degree_bits * t.trace.width ≤ 73344) own
    where
      own : let t = table_of declared constraints none_sent alone (chain_instance start blocks) in 2 ^ t.degree_bits * t.trace.width ≤ 73344
      own =
          let t = table_of declared constraints none_sent alone (chain_instance start blocks) in
          let q : 2 ^ t.degree_bits ≤ 2 ^ 3 = power_within t.degree_bits 3 (low start blocks power few) in
          omega (arith, q)

  mains_light : All (IsFew 73344) (main_matrices batch)
  mains_light =
      subst (All (IsFew 73344)) (sym (map_tabulate (λ (t : TracedTable BabyBear). (subgroup (tool_setting V2).field.ring t.degree_bits, t.trace)) (table_count batch) table))
      (all_tabulate (IsFew 73344) (table_count batch) (λ i. (subgroup (tool_setting V2).field.ring (table i).degree_bits, (table i).trace)) (λ i l.
      let Z = main_sized (tool_setting V2) batch.prover (table i) [] fields (tables_traced start blocks power few L i l) (unmasked V2) 10 9168 (narrow_rows start blocks power few L i l) (tables_small start blocks power few L i l).columns in
      record { has_columns = Z.has_columns; height_is = Z.height_is; low = Z.low; cells = cells i l }))
    where
      fields : FieldsLaws (tool_setting V2).field (tool_setting V2).extension (tool_setting V2).two_adicity quartic_inv
      fields = laws_of_tool V2 quartic_inv L

  module _ (w : Option BabyBear) (z : BabyBear) where
    abbrev folding : QuarticExtension
    folding = alpha batch.setting batch.prover batch.statement batch.traces batch.degree_bits w

    abbrev drawn : QuarticExtension
    drawn = zeta batch.setting batch.prover batch.statement batch.traces batch.degree_bits w z

    abbrev challenges : ℕ → List QuarticExtension
    challenges i = challenges_at batch.setting batch.prover batch.statement batch.traces batch.degree_bits w i

    fields : FieldsLaws (tool_setting V2).field (tool_setting V2).extension (tool_setting V2).two_adicity quartic_inv
    fields = laws_of_tool V2 quartic_inv L

    eight : (i : ℕ) → i < table_count batch → (length (table i).lookups + 1) * (tool_setting V2).extension.dimension ≤ 8
    unfolding tool_setting
    eight i l = let n = (tables_small start blocks power few L i l).lookups in omega (arith, n)

    permutations_light : All (IsFew 8192) (all_permutations batch w)
    permutations_light =
        let sized : All (IsSized 10 8) (all_permutations batch w) = all_flat (IsSized 10 8) _ (table_count batch) (λ i. i) (λ i l.
        permutations_sized (tool_setting V2) batch.prover (table i) (challenges i) fields (tables_traced start blocks power few L i l) (unmasked V2) 10 8 (narrow_rows start blocks power few L i l) (eight i l)) in
        λ i d l. narrow_few 8 _ (sized i d l)

    chunks_light : All (IsFew 4096) (all_chunks batch w)
    chunks_light =
        let sized : All (IsSized 10 4) (all_chunks batch w) = all_flat (IsSized 10 4) _ (table_count batch) (λ i. i) (λ i l.
        chunks_sized (tool_setting V2) batch.prover (table i) (challenges i) fields (tables_traced start blocks power few L i l) (unmasked V2) 10 4 (narrow_rows start blocks power few L i l) folding (four V2)) in
        λ i d l. narrow_few 4 _ (sized i d l)

    instance_few : (i : ℕ) → i < table_count batch → length (instance_numbers (opened_of (tool_setting V2) batch.prover (table i) (challenges i) folding drawn)) ≤ 74000
    instance_few i l =
        let s = tables_small start blocks power few L i l in
        opened_few (tool_setting V2) batch.prover (table i) (challenges i) fields (tables_divided start blocks power few L i l) (tables_traced start blocks power few L i l) (four V2) s.columns s.preprocessed s.lookups s.parts folding drawn

    built_few : (opening : PlainProof) → length (proof_numbers (honest_proof batch.setting batch.prover batch.statement batch.traces batch.degree_bits w z opening)) ≤ 2160000
    unfolding honest_proof
    built_few opening =
        let n = table_count batch in
        let opened = λ (i : ℕ). opened_of (tool_setting V2) batch.prover (table i) (challenges i) folding drawn in
        let ended = λ (i : ℕ). honest_terminal (tool_setting V2) batch.prover (table i) (challenges i) in
        proof_sum (honest_proof batch.setting batch.prover batch.statement batch.traces batch.degree_bits w z opening)
        (commitment_few 73344 8 (main_matrices batch) (mains_few start blocks power few L) mains_light)
        (some_few 8192 16 (all_permutations batch w) (permutations_few start blocks power few L w z) permutations_light)
        (commitment_few 4096 16 (all_chunks batch w) (chunks_few start blocks power few L w z) chunks_light) (omega arith)
        (list_few instance_numbers 74000 8 (tabulate n opened) (let long = length-tabulate n opened in omega (arith, long)) (all_tabulate (λ o. length (instance_numbers o) ≤ 74000) n opened instance_few))
        (list_few (option_numbers extension_numbers) 5 8 (tabulate n ended) (let long = length-tabulate n ended in omega (arith, long)) (λ i d l. terminal_few _))
        (list_few one_number 1 8 batch.degree_bits (omega arith) (λ i d l. omega arith))

  -- so it is of a proof that is built honestly
  pub proof_few : (q : AirsProof) → IsChainProof start blocks q → length (proof_numbers q) ≤ 2160000
  proof_few q B = subst (λ (p : AirsProof). length (proof_numbers p) ≤ 2160000) (sym B.proof_is) (built_few q.lookup_pow_witness q.ood_pow_witness q.opening_proof)
