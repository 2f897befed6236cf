-- The job of a number is within a job's limits.
use Rattle.std.proofs.Common.{◌≡◌, ℕ, ◌+◌, ◌*◌, ◌%◌, ◌^◌, ◌<◌, ◌≤◌, ◌==◌, List, [], ◌∷◌, length, map, ◌∙◌, subst, arith}
use Rattle.std.specs.Prelude.{All, count_by}
use Rattle.std.proofs.lemmas.List.{length-map}
use Rattle.std.proofs.lemmas.List.Elements.{All-cons, All-nil}
use Rattle.std.proofs.lemmas.List.Sums.{count_by-le-length}
use Rattle.air_core.specs.Laws.Lists.{all_tabulate}
use Rattle.p3_field.specs.Laws.Tabulate.{length-tabulate}
use Rattle.p3_field.specs.declared.baby_bear.BabyBear.{BabyBear}
use Rattle.law_tool_valid.specs.Job.{IsHashRow, IsJobTableWithin, JobTable, swap_of, wheel_of, take_of, give_of, hash_of}
use Rattle.tool_jobs.specs.Jobs.{JobWithin}
use Rattle.tool_demo.specs.Demo.{demo_job, element_of, given_pairs, hash_row, hash_rows, taken_numbers, word_at}

pub length-taken_numbers : (seed count : ℕ) → length (taken_numbers seed count) ≡ count
unfolding taken_numbers
length-taken_numbers seed count = length-tabulate count (λ i. word_at seed (2 + i) % 64)

length-given_pairs : (most : ℕ) (taken : List ℕ) → length (given_pairs most taken) ≡ most
unfolding given_pairs
length-given_pairs most taken = length-tabulate most (λ v. (element_of v, count_by (λ x. x == v) taken))

length-hash_rows : (seed count : ℕ) → length (hash_rows seed count) ≡ count
unfolding hash_rows
length-hash_rows seed count = length-tabulate count (hash_row seed)

-- a number is given as often as it stands among the taken ones, so at most as often as there are such
given_few : (most : ℕ) (taken : List ℕ) → All (λ (p : BabyBear × ℕ). p.1 ≤ length taken) (given_pairs most taken)
unfolding given_pairs
given_few most taken =
    all_tabulate (λ (p : BabyBear × ℕ). p.1 ≤ length taken) most (λ v. (element_of v, count_by (λ x. x == v) taken)) (λ v lt. count_by-le-length (λ x. x == v) taken)

low_bits : (w : ℕ) → w % 2 ^ 32 < 2 ^ 32
low_bits w = omega arith

row_within : (seed i : ℕ) → IsHashRow (hash_row seed i)
row_within seed i =
    let t : ℕ → ℕ = λ k. word_at seed (1026 + 24 * i + k) % 2 ^ 32 in
    (length-tabulate 24 t, all_tabulate (λ w. w < 2 ^ 32) 24 t (λ k lt. low_bits (word_at seed (1026 + 24 * i + k))))

rows_within : (seed count : ℕ) → All IsHashRow (hash_rows seed count)
unfolding hash_rows
rows_within seed count = all_tabulate IsHashRow count (hash_row seed) (λ i lt. row_within seed i)

-- the tables whose lists have so many items
take_within : (words : List BabyBear) → length words ≡ 1024 → IsJobTableWithin (take_of words)
take_within words e = ((10, e), omega (arith, e))

give_within : (pairs : List (BabyBear × ℕ)) → length pairs ≡ 64 → All (λ p. p.1 ≤ 1024) pairs → IsJobTableWithin (give_of pairs)
give_within pairs e few = ((6, e), omega (arith, e), few)

hash_within : (rows : List (List ℕ)) → length rows ≡ 8 → All IsHashRow rows → IsJobTableWithin {F = BabyBear} (hash_of rows)
hash_within rows e fits = ((3, e), omega (arith, e), fits)

-- five tables that are within the limits are a job within them
five_within : (a b c d e : JobTable BabyBear) → IsJobTableWithin a → IsJobTableWithin b → IsJobTableWithin c → IsJobTableWithin d → IsJobTableWithin e
    → JobWithin (a ∷ b ∷ c ∷ d ∷ e ∷ [])
five_within a b c d e p q r s t =
    let P : JobTable BabyBear → Type 0 = λ j. IsJobTableWithin j in
    let last = All-cons P e [] t (All-nil P) in
    let two = All-cons P d (e ∷ []) s last in
    let three = All-cons P c (d ∷ e ∷ []) r two in
    let four = All-cons P b (c ∷ d ∷ e ∷ []) q three in
    ((omega arith, omega arith), All-cons P a (b ∷ c ∷ d ∷ e ∷ []) p four)

pub demo_within : (number : ℕ) → JobWithin (demo_job number)
unfolding demo_job
demo_within number =
    let taken = taken_numbers number 1024 in
    let many = length-taken_numbers number 1024 in
    let swaps : IsJobTableWithin (swap_of 10 (element_of (word_at number 0)) (element_of (word_at number 1))) = omega arith in
    let turns : IsJobTableWithin {F = BabyBear} (wheel_of 10) = (omega arith, omega arith) in
    let takes : IsJobTableWithin (take_of (map element_of taken)) = take_within (map element_of taken) (length-map taken element_of ∙ many) in
    let few = subst (λ (n : ℕ). All (λ (p : BabyBear × ℕ). p.1 ≤ n) (given_pairs 64 taken)) many (given_few 64 taken) in
    let gives : IsJobTableWithin (give_of (given_pairs 64 taken)) = give_within (given_pairs 64 taken) (length-given_pairs 64 taken) few in
    let hashes : IsJobTableWithin {F = BabyBear} (hash_of (hash_rows number 8)) = hash_within (hash_rows number 8) (length-hash_rows number 8) (rows_within number 8) in
    five_within (swap_of 10 (element_of (word_at number 0)) (element_of (word_at number 1))) (wheel_of 10) (take_of (map element_of taken)) (give_of (given_pairs 64 taken))
    (hash_of (hash_rows number 8)) swaps turns takes gives hashes
