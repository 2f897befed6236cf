-- What is stated of a job's table fits the table.
use Rattle.std.proofs.Common.{◌≡◌, ℕ, ◌<◌, ◌≤◌, ◌^◌, List, [], ◌∷◌, length, map, get_or, All, refl, sym, subst, arith}
use Rattle.std.specs.Int.{IsPowerOfTwo}
use Rattle.std.proofs.lemmas.List.{get_or-map, length-map}
use Rattle.p3_field.specs.BabyBear.{baby_bear_ring}
use Rattle.p3_field.specs.declared.baby_bear.BabyBear.{BabyBear}
use Rattle.p3_matrix.specs.Laws.Powers.{power_le_cancel}
use Rattle.batch_setup.specs.Laws.Logarithms.{log_of_power}
use Rattle.batch_setup.specs.Setup.{log_of}
use Rattle.tool_statement.specs.StatedTables.{TableWithin, log_height_of, log_heights_of, publics_lists, publics_of, source_of_table, sources_of}
use Rattle.law_tool_valid.specs.Job.{IsJobTableWithin, JobTable, swap_of, wheel_of, take_of, give_of, hash_of, source_of_job}
use Rattle.law_tool_valid.specs.Job.{job_log_height_of as rows_log_of, job_publics_of as table_publics}
use Rattle.tool_jobs.specs.Stated.{statement_of, statements_for}

-- a power of two up to 2^most has a logarithm up to `most`
pub few_log : (most n k : ℕ) → n ≡ 2 ^ k → n ≤ 2 ^ most → k ≤ most
few_log most n k e h = let few : 2 ^ k ≤ 2 ^ most = omega (arith, e, h) in power_le_cancel k most few

pub few_log_of : (most n : ℕ) → IsPowerOfTwo n → n ≤ 2 ^ most → log_of n ≤ most
few_log_of most n p h = subst (λ (k : ℕ). k ≤ most) (sym (log_of_power n p.0 p.1)) (few_log most n p.0 p.1 h)

pub statement-within : (t : JobTable BabyBear) → IsJobTableWithin t → TableWithin (statement_of t)
statement-within (swap_of k a b) h = h
statement-within (wheel_of k) h = h
statement-within (take_of words) h = few_log_of 10 (length words) h.0 h.1
statement-within (give_of pairs) h = few_log_of 10 (length pairs) h.0 h.1
statement-within (hash_of rows) h = few_log_of 3 (length rows) h.0 h.1

pub statement-height : (t : JobTable BabyBear) → log_height_of (statement_of t) ≡ rows_log_of t
statement-height (swap_of k a b) = refl
statement-height (wheel_of k) = refl
statement-height (take_of words) = refl
statement-height (give_of pairs) = refl
statement-height (hash_of rows) = refl

pub statement-publics : (t : JobTable BabyBear) → publics_of (statement_of t) ≡ table_publics t
statement-publics (swap_of k a b) = refl
statement-publics (wheel_of k) = refl
statement-publics (take_of words) = refl
statement-publics (give_of pairs) = refl
statement-publics (hash_of rows) = refl

pub statement-source : (t : JobTable BabyBear) → source_of_table (statement_of t) ≡ source_of_job baby_bear_ring t
statement-source (swap_of k a b) = refl
statement-source (wheel_of k) = refl
statement-source (take_of words) = refl
statement-source (give_of pairs) = refl
statement-source (hash_of rows) = refl

-- the same of a job, table by table
pub statements-within : (job : List (JobTable BabyBear)) → All IsJobTableWithin job → All TableWithin (statements_for job)
statements-within job h i d l =
    let none : JobTable BabyBear = wheel_of 0 in
    let room : i < length job = omega (arith, l, length-map job statement_of) in
    subst TableWithin (sym (get_or-map statement_of job i none d room)) (statement-within (get_or job i none) (h i none room))

pub statements-heights : (job : List (JobTable BabyBear)) → log_heights_of (statements_for job) ≡ map rows_log_of job
statements-heights [] = refl
statements-heights (t ∷ job) = λ i. statement-height t i ∷ statements-heights job i

pub statements-publics : (job : List (JobTable BabyBear)) → publics_lists (statements_for job) ≡ map table_publics job
statements-publics [] = refl
statements-publics (t ∷ job) = λ i. statement-publics t i ∷ statements-publics job i

pub statements-sources : (job : List (JobTable BabyBear)) → sources_of (statements_for job) ≡ map (source_of_job baby_bear_ring) job
statements-sources [] = refl
statements-sources (t ∷ job) = λ i. statement-source t i ∷ statements-sources job i
