-- How long the text of a job's honest proof file is, at most: it is one that can be read whole.
use Rattle.std.proofs.Common.{◌≡◌, ℕ, ◌+◌, ◌*◌, ◌^◌, ◌<◌, ◌≤◌, List, [], ◌∷◌, ◌++◌, length, map, Option, None, Some, sym, ◌∙◌, ap, subst, arith, length-append}
use Rattle.std.specs.Prelude.{All}
use Rattle.std.proofs.Math.Nat.{mul-le-mul_right}
use Rattle.std.proofs.lemmas.List.{length-map}
use Rattle.std.proofs.lemmas.Nat.{pow-add}
use Rattle.p3_field.specs.BabyBear.{baby_bear_ring}
use Rattle.p3_field.specs.Domain.{CosetData, subgroup}
use Rattle.p3_field.specs.Laws.SubgroupSelectors.{map_tabulate}
use Rattle.p3_field.specs.Laws.Tabulate.{length-tabulate}
use Rattle.p3_field.specs.Poly.{tabulate}
use Rattle.p3_field.specs.declared.baby_bear.BabyBear.{BabyBear}
use Rattle.p3_field.specs.declared.quartic.QuarticExtension.{QuarticExtension}
use Rattle.p3_matrix.specs.Matrix.{Rows, height}
use Rattle.air_core.specs.Laws.Lists.{all_tabulate}
use Rattle.transcript_version.specs.declared.TranscriptVersion.{TranscriptVersion}
use Rattle.transcript_version.specs.declared.TranscriptVersion.TheVariants.{V1}
use Rattle.tool_lines.specs.Texts.{Small, element_numbers, extension_numbers, line_text, list_numbers, one_number, option_numbers}
use Rattle.tool_proof_text.specs.Matrices.{matrix_numbers}
use Rattle.tool_proof_text.specs.Openings.{instance_numbers}
use Rattle.tool_proof_text.specs.ProofText.{ToolProofData, commitment_numbers, commitments_numbers, proof_numbers}
use Rattle.plain_pcs.specs.Extension.{IsCommittable, commitment_of, extended_domain, extension_of}
use Rattle.plain_pcs.specs.Laws.Evaluations.{evaluations-fill}
use Rattle.plain_pcs.specs.Laws.Extensions.{height-extension, length-polynomials, polynomials, width-extension}
use Rattle.plain_pcs.specs.Laws.OpenedCommitments.{power_within}
use Rattle.plain_pcs.specs.declared.commitment.PlainProof.{PlainProof}
use Rattle.batch_setup.specs.Setup.{log_of}
use Rattle.law_valid.specs.Traced.{TracedTable}
use Rattle.law_committed.specs.Laws.Degrees.{all_images}
use Rattle.law_honest.specs.HonestProof.{IsBuilt, alpha, challenges_at, committed_where, honest_proof, honest_terminal, opened_of, zeta}
use Rattle.tool_statement.specs.Config.{tool_scheme, tool_setting}
use Rattle.tool_statement.specs.declared.table.TableStatement.{TableStatement}
use Rattle.tool_statement.specs.declared.table.TableStatement.TheVariants.{Swap, Wheel, Take, Give, Hash}
use Rattle.law_tool_valid.specs.Job.{IsJobTableWithin, JobTable, swap_of, wheel_of, take_of, give_of, hash_of, job_log_height_of, trace_of}
use Rattle.prover_answer.specs.Batch.{all_chunks, all_permutations, main_matrices, table_at, table_count}
use Rattle.tool_proof_files.specs.Files.{FileData, file_numbers, statement_numbers}
use Rattle.tool_proof_files.specs.Laws.Files.{file-grammar}
use Rattle.tool_jobs.specs.Jobs.{JobWithin}
use Rattle.tool_jobs.specs.Laws.Statements.{few_log_of}
use Rattle.tool_jobs.specs.Stated.{statement_of}
use Rattle.tool_prover.specs.JobAnswer.{IsHonestProofFile, file_of}
use Rattle.tool_prover.specs.JobBatch.{job_batch, tool_prover}
use Rattle.tool_prover.specs.Laws.JobTables.{each, tables_divided, tables_sized, tables_traced, tool_serves}
use Rattle.tool_prover.specs.Laws.Lengths.{items_few, list_few, text_short}
use Rattle.tool_prover.specs.Laws.OpenedCounts.{opened_few}
use Rattle.tool_prover.specs.Laws.Sized.{IsSized, all_flat, chunks_sized, main_sized, permutations_sized}
use Rattle.tool_prover.specs.Laws.Within.{chunks_few, few_tables, fields, four, low, mains_few, narrow, permutations_few, unmasked}

-- a matrix with a row for each point of its domain, of up to 2^10 points, and with at most so many cells
pub record IsFew (most : ℕ) (e : CosetData BabyBear × Rows BabyBear) : Type 0 where
  pub has_columns : 0 < e.1.width
  pub height_is : height e.1 ≡ 2 ^ e.0.log_size
  pub low : e.0.log_size ≤ 10
  pub cells : 2 ^ e.0.log_size * e.1.width ≤ most

-- so many columns of up to 2^10 rows
pub narrow_few : (w : ℕ) (e : CosetData BabyBear × Rows BabyBear) → IsSized 10 w e → IsFew (1024 * w) e
narrow_few w e Z =
    let tall : 2 ^ e.0.log_size ≤ 2 ^ 10 = power_within e.0.log_size 10 Z.low in
    let most = mul-le-mul_right e.1.width tall in
    let thin = Z.narrow in
    record { has_columns = Z.has_columns; height_is = Z.height_is; low = Z.low; cells = omega (arith, most, thin) }

-- the numbers of a matrix with twice so many rows
rows_few : (m : Rows BabyBear) (p w most : ℕ) → height m ≡ p * 2 → m.width ≡ w → height m * m.width ≡ length m.values → p * w ≤ most → length (matrix_numbers m) ≤ 2 * most + 2
rows_few m p w most tall wide fills few =
    let items = items_few element_numbers 1 m.values (λ i d l. omega arith) in
    let count : length m.values ≡ p * 2 * w = sym fills ∙ (λ i. tall i * wide i) in
    omega (arith, items, count, few)

-- such a matrix is extended to twice as many points
matrix_few : (most : ℕ) (e : CosetData BabyBear × Rows BabyBear) → IsFew most e → length (matrix_numbers (extension_of tool_scheme e.0 e.1)) ≤ 2 * most + 2
unfolding tool_setting extension_of
matrix_few most e Z =
    let s = tool_scheme in
    let L = (tool_serves V1).fields in
    let low = Z.low in
    let some = Z.has_columns in
    let C : IsCommittable s e.0 e.1 = record { has_columns = some; height_is = Z.height_is; fits = omega (arith, low) } in
    rows_few (extension_of s e.0 e.1) (2 ^ e.0.log_size) e.1.width most
    (height-extension s L.below L.below_field L.roots e.0 e.1 C ∙ pow-add 2 e.0.log_size 1) (width-extension s L.below L.below_field L.roots e.0 e.1 C)
    (evaluations-fill s.field (extended_domain s e.0.log_size) (polynomials s e.0 e.1) (let n = length-polynomials s e.0 e.1 in omega (arith, n, some))) Z.cells

-- a commitment to at most so many such matrices
pub commitment_few : (most count : ℕ) (es : List (CosetData BabyBear × Rows BabyBear)) → length es ≤ count → All (IsFew most) es
    → length (commitment_numbers (commitment_of tool_scheme es)) ≤ count * (2 * most + 2) + 1
commitment_few most count es few all =
    let ext : CosetData BabyBear × Rows BabyBear → Rows BabyBear = λ e. extension_of tool_scheme e.0 e.1 in
    let long = length-map es ext in
    list_few matrix_numbers (2 * most + 2) count (map ext es) (omega (arith, long, few)) (all_images (IsFew most) (λ m. length (matrix_numbers m) ≤ 2 * most + 2) ext (matrix_few most) es all)

pub some_few : (most count : ℕ) (es : List (CosetData BabyBear × Rows BabyBear)) → length es ≤ count → All (IsFew most) es
    → length (option_numbers commitment_numbers (committed_where (commitment_of tool_scheme) es)) ≤ count * (2 * most + 2) + 2
some_few most count [] few all = omega arith
some_few most count (e ∷ es) few all = let n = commitment_few most count (e ∷ es) few all in omega (arith, n)

-- a table's trace has at most 8 rows of 9168 cells
job_cells : (j : JobTable BabyBear) → IsJobTableWithin j → 2 ^ job_log_height_of j * (trace_of baby_bear_ring j).width ≤ 73344
job_cells (swap_of k a b) W = let q = power_within k 10 W in omega (arith, q)
job_cells (wheel_of k) W = let q = power_within k 10 W.1 in omega (arith, q)
job_cells (take_of words) W = let q = power_within (log_of (length words)) 10 (few_log_of 10 (length words) W.0 W.1) in omega (arith, q)
job_cells (give_of pairs) W = let q = power_within (log_of (length pairs)) 10 (few_log_of 10 (length pairs) W.0 W.1) in omega (arith, q)
job_cells (hash_of rows) W = let q = power_within (log_of (length rows)) 3 (few_log_of 3 (length rows) W.0 W.1) in omega (arith, q)

-- a table's statement has at most five numbers, and a terminal has four, where there is one
statement_few : (s : TableStatement) → length (statement_numbers s) ≤ 5
statement_few (Swap k a b x) = omega arith
statement_few (Wheel k) = omega arith
statement_few (Take k) = omega arith
statement_few (Give k) = omega arith
statement_few (Hash k) = omega arith

pub terminal_few : (o : Option QuarticExtension) → length (option_numbers extension_numbers o) ≤ 5
terminal_few None = omega arith
terminal_few (Some x) = omega arith

pub witness_few : (o : Option BabyBear) → length (option_numbers element_numbers o) ≤ 2
witness_few None = omega arith
witness_few (Some x) = omega arith

-- the parts of a proof, and of a file, put together
pub proof_sum : (q : ToolProofData) → length (commitment_numbers q.commitments.main) ≤ 1173521 → length (option_numbers commitment_numbers q.commitments.permutation) ≤ 262178
    → length (commitment_numbers q.commitments.quotient_chunks) ≤ 131105 → length (option_numbers commitment_numbers q.commitments.random) ≤ 1
    → length (list_numbers instance_numbers q.instances) ≤ 592001 → length (list_numbers (option_numbers extension_numbers) q.lookup_terminals) ≤ 41
    → length (list_numbers one_number q.degree_bits) ≤ 9 → length (proof_numbers q) ≤ 2160000
unfolding proof_numbers
proof_sum q a b c d e f g =
    let main = commitment_numbers q.commitments.main in
    let permutation = option_numbers commitment_numbers q.commitments.permutation in
    let chunks = commitment_numbers q.commitments.quotient_chunks in
    let random = option_numbers commitment_numbers q.commitments.random in
    let x = commitments_numbers q.commitments in
    let y = list_numbers instance_numbers q.instances in
    let z = list_numbers (option_numbers extension_numbers) q.lookup_terminals in
    let u = list_numbers one_number q.degree_bits in
    let v = option_numbers element_numbers q.lookup_pow_witness in
    let w = element_numbers q.ood_pow_witness in
    let h = witness_few q.lookup_pow_witness in
    let committed : length x ≤ 1566805 = omega (arith, a, b, c, d, length-append main permutation, length-append (main ++ permutation) chunks, length-append (main ++ permutation ++ chunks) random) in
    omega (arith, committed, e, f, g, h, length-append x y, length-append (x ++ y) z, length-append (x ++ y ++ z) u, length-append (x ++ y ++ z ++ u) v, length-append (x ++ y ++ z ++ u ++ v) w)

file_sum : (f : FileData) → length f.tables ≤ 8 → length (proof_numbers f.proof) ≤ 2160000 → length (file_numbers f) ≤ 2170000
file_sum f few h =
    let tables = list_few statement_numbers 5 8 f.tables few (λ i d l. statement_few _) in
    omega (arith, tables, h, length-append (f.version ∷ list_numbers statement_numbers f.tables) (proof_numbers f.proof))

module _ (version : TranscriptVersion) (job : List (JobTable BabyBear)) (many : length job ≤ 8) (within : All IsJobTableWithin job) where
  abbrev table : ℕ → TracedTable BabyBear
  table = table_at (job_batch version job)

  cells_at : (i : ℕ) → i < table_count (job_batch version job) → 2 ^ (table i).degree_bits * (table i).trace.width ≤ 73344
  cells_at = each version job within (λ t. 2 ^ t.degree_bits * t.trace.width ≤ 73344) job_cells

  mains_light : All (IsFew 73344) (main_matrices (job_batch version job))
  mains_light =
      subst (All (IsFew 73344)) (sym (map_tabulate (λ (t : TracedTable BabyBear). (subgroup (tool_setting version).field.ring t.degree_bits, t.trace)) (table_count (job_batch version job)) table))
      (all_tabulate (IsFew 73344) (table_count (job_batch version job)) (λ i. (subgroup (tool_setting version).field.ring (table i).degree_bits, (table i).trace)) (λ i l.
      let Z = main_sized (tool_setting version) (job_batch version job).prover (table i) [] (fields version job many within) (tables_traced version job within i l) (unmasked version) 10 9168 (low version job many within i l) (narrow version job many within i l) in
      record { has_columns = Z.has_columns; height_is = Z.height_is; low = Z.low; cells = cells_at i l }))

  module _ (w : Option BabyBear) (z : BabyBear) where
    abbrev folding : QuarticExtension
    folding = let b = job_batch version job in alpha b.setting b.prover b.statement b.traces b.degree_bits w

    abbrev drawn : QuarticExtension
    drawn = let b = job_batch version job in zeta b.setting b.prover b.statement b.traces b.degree_bits w z

    abbrev challenges : ℕ → List QuarticExtension
    challenges i = let b = job_batch version job in challenges_at b.setting b.prover b.statement b.traces b.degree_bits w i

    -- the permutation columns of a table have up to eight columns, and its chunks (four version)
    eight : (i : ℕ) → i < table_count (job_batch version job) → (length (table i).lookups + 1) * (tool_setting version).extension.dimension ≤ 8
    unfolding tool_setting
    eight i l = let n = (tables_sized version job within i l).lookups in omega (arith, n)

    permutations_light : All (IsFew 8192) (all_permutations (job_batch version job) w)
    permutations_light =
        let sized : All (IsSized 10 8) (all_permutations (job_batch version job) w) = all_flat (IsSized 10 8) _ (table_count (job_batch version job)) (λ i. i) (λ i l.
        permutations_sized (tool_setting version) (job_batch version job).prover (table i) (challenges i) (fields version job many within) (tables_traced version job within i l) (unmasked version) 10 8 (low version job many within i l) (eight i l)) in
        λ i d l. narrow_few 8 _ (sized i d l)

    chunks_light : All (IsFew 4096) (all_chunks (job_batch version job) w)
    chunks_light =
        let sized : All (IsSized 10 4) (all_chunks (job_batch version job) w) = all_flat (IsSized 10 4) _ (table_count (job_batch version job)) (λ i. i) (λ i l.
        chunks_sized (tool_setting version) (job_batch version job).prover (table i) (challenges i) (fields version job many within) (tables_traced version job within i l) (unmasked version) 10 4 (low version job many within i l) folding (four version)) in
        λ i d l. narrow_few 4 _ (sized i d l)

    instance_few : (i : ℕ) → i < table_count (job_batch version job) → length (instance_numbers (opened_of (tool_setting version) (job_batch version job).prover (table i) (challenges i) folding drawn)) ≤ 74000
    instance_few i l =
        let small = tables_sized version job within i l in
        opened_few (tool_setting version) (job_batch version job).prover (table i) (challenges i) (fields version job many within) (tables_divided version job within i l) (tables_traced version job within i l) (four version) small.columns small.preprocessed small.lookups small.parts
        folding drawn

    built_few : (opening : PlainProof) → length (proof_numbers (let b = job_batch version job in honest_proof b.setting b.prover b.statement b.traces b.degree_bits w z opening)) ≤ 2160000
    unfolding honest_proof tool_prover
    built_few opening =
        let n = table_count (job_batch version job) in
        let few = few_tables version job many within in
        let opened = λ (i : ℕ). opened_of (tool_setting version) (job_batch version job).prover (table i) (challenges i) folding drawn in
        let ended = λ (i : ℕ). honest_terminal (tool_setting version) (job_batch version job).prover (table i) (challenges i) in
        let bits = length-map job (job_log_height_of {F = BabyBear}) in
        proof_sum (let b = job_batch version job in honest_proof b.setting b.prover b.statement b.traces b.degree_bits w z opening)
        (commitment_few 73344 8 (main_matrices (job_batch version job)) (mains_few version job many within) mains_light)
        (some_few 8192 16 (all_permutations (job_batch version job) w) (permutations_few version job many within w z) permutations_light)
        (commitment_few 4096 16 (all_chunks (job_batch version job) w) (chunks_few version job many within w z) chunks_light) (omega arith)
        (list_few instance_numbers 74000 8 (tabulate n opened) (let long = length-tabulate n opened in omega (arith, long, few)) (all_tabulate (λ o. length (instance_numbers o) ≤ 74000) n opened instance_few))
        (list_few (option_numbers extension_numbers) 5 8 (tabulate n ended) (let long = length-tabulate n ended in omega (arith, long, few)) (λ i d l. terminal_few _))
        (list_few one_number 1 8 (map job_log_height_of job) (omega (arith, bits, many)) (λ i d l. omega arith))

  -- so it is of a proof that is built honestly
  proof_few : (q : ToolProofData) → (let b = job_batch version job in IsBuilt b.setting b.prover b.statement b.traces b.degree_bits q) → length (proof_numbers q) ≤ 2160000
  proof_few q B = subst (λ (p : ToolProofData). length (proof_numbers p) ≤ 2160000) (sym B.proof_is) (built_few q.lookup_pow_witness q.ood_pow_witness q.opening_proof)

-- the text of so many small numbers
pub numbers_short : (text ns : List ℕ) → Small ns → text ≡ line_text ns → length ns ≤ 2170000 → length text ≤ 45570000
numbers_short text ns small same few = let short = text_short ns small in let long = ap length same in omega (arith, short, long, few)

-- the text of the honest proof's file has at most 2,170,000 lines, each of at most 21 bytes
pub honest_text_short : (version : TranscriptVersion) (job : List (JobTable BabyBear)) → JobWithin job → (text : List ℕ) → IsHonestProofFile version job text → length text ≤ 45570000
honest_text_short version job h text A =
    let f = file_of version job A.proof in
    let stated = length-map job statement_of in
    let many = h.0.1 in
    numbers_short text (file_numbers f) (file-grammar.small f A.within) A.text_is (file_sum f (omega (arith, stated, many)) (proof_few version job many h.1 A.proof A.honest))
