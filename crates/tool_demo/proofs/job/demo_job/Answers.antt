use Rattle.std.proofs.Common.{◌≡◌, ℕ, List, [], ◌∷◌, length, map, sym, ◌∙◌, ap, subst, arith}
use Rattle.p3_field.specs.declared.baby_bear.BabyBear.{BabyBear}
use Rattle.law_tool_valid.specs.Job.{swap_of, wheel_of, take_of, give_of, hash_of}
use Rattle.rand_xoshiro.specs.SplitMix64.{splitmix_seed}
use Rattle.rand_xoshiro.specs.Xoshiro256.{of_seed}
use Rattle.tool_jobs.specs.Jobs.{JobWithin, read_given, read_tables}
use Rattle.tool_demo.specs.Demo.{demo_job, element_of, given_pairs, hash_rows, state_after, taken_numbers, word_at}
use Rattle.tool_demo.specs.Laws.Within.{demo_within, length-taken_numbers}
use Rattle.tool_demo.proofs.job.demo_job.Goals as goal

begins : (number : ℕ) (s : List ℕ) → s ≡ of_seed (splitmix_seed 32 number) → s ≡ state_after number 0
unfolding state_after
begins number s e = e

-- tables that are made so are the number's job
job_is : (number : ℕ) (a b : BabyBear) (taken : List ℕ) (words : List BabyBear) (pairs : List (BabyBear × ℕ)) (rows : List (List ℕ))
    → a ≡ element_of (word_at number 0) → b ≡ element_of (word_at number 1) → taken ≡ taken_numbers number 1024
    → words ≡ map element_of taken → pairs ≡ given_pairs 64 taken → rows ≡ hash_rows number 8
    → swap_of 10 a b ∷ wheel_of 10 ∷ take_of words ∷ give_of pairs ∷ hash_of rows ∷ [] ≡ demo_job number
unfolding demo_job
job_is number a b taken words pairs rows ea eb et ew ep er =
    let takes = ew ∙ ap (map element_of) et in
    let gives = ep ∙ ap (given_pairs 64) et in
    λ i. swap_of 10 (ea i) (eb i) ∷ wheel_of 10 ∷ take_of (takes i) ∷ give_of (gives i) ∷ hash_of (er i) ∷ []

pub given_words-requires : goal.given_words-requires
given_words-requires c =
    let s = begins c.args.number _ c.seed_from_u64-generator.ensures in
    let s2 = c.next_word-2.ensures.state c.args.number 1 (c.next_word.ensures.state c.args.number 0 s) in
    let many = ap length (c.deref-2.ensures.value ∙ c.in_ok-numbers.ensures.numbers c.args.number s2) ∙ length-taken_numbers c.args.number 1024 in
    omega (arith, many)

job_of : goal.returns-clause-job
job_of c =
    let number = c.args.number in
    let s = begins number _ c.seed_from_u64-generator.ensures in
    let s1 = c.next_word.ensures.state number 0 s in
    let s2 = c.next_word-2.ensures.state number 1 s1 in
    let numbers = c.deref-2.ensures.value ∙ c.in_ok-numbers.ensures.numbers number s2 in
    let same = c.deref.ensures.value ∙ sym c.deref-2.ensures.value in
    ap read_tables c.in_ok-from_array.ensures.items
    ∙ job_is number c.from_u64-a.result c.from_u64-b.result c.deref-2.result.now c.in_ok-taken.taken.items (map read_given c.in_ok-given.given.items) c.in_ok-rows.rows.items
    (c.from_u64-a.ensures ∙ ap element_of (c.next_word.ensures.word number 0 s))
    (c.from_u64-b.ensures ∙ ap element_of (c.next_word-2.ensures.word number 1 s1))
    numbers (c.in_ok-taken.ensures ∙ ap (map element_of) same) c.in_ok-given.ensures
    (c.in_ok-rows.ensures number (c.in_ok-numbers.ensures.state number s2))

pub returns-clause-job : goal.returns-clause-job
returns-clause-job c = job_of c

pub returns-clause-within : goal.returns-clause-within
returns-clause-within c = subst JobWithin (sym (job_of c)) (demo_within c.args.number)
