-- The words of a table tell the table, and those of a job the job.
use Rattle.std.proofs.Common.{◌≡◌, ℕ, List, ◌∷◌, refl, arith}
use Rattle.p3_field.specs.declared.baby_bear.BabyBear.{BabyBear}
use Rattle.tool_lines.specs.Texts.{Between, Grammar, one_number}
use Rattle.tool_lines.specs.Laws.Grammars.{PairWithin, SameTexts, list-grammar, number-grammar, pair-grammar, pair_numbers, same-grammar}
use Rattle.law_tool_valid.specs.Job.{IsJobTableWithin, JobTable, swap_of, wheel_of, take_of, give_of, hash_of}
use Rattle.tool_jobs.specs.Jobs.{JobWithin, job_numbers, table_numbers}
use Rattle.tool_jobs.specs.Laws.Kinds.{KindWithin, body_numbers, kind-grammar, kind_of}

-- a table is seen as its kind, and the table
abbrev pub TaggedWithin : ℕ × JobTable BabyBear → Type 0
TaggedWithin = PairWithin (Between 1 5) KindWithin

abbrev pub tagged_numbers : ℕ × JobTable BabyBear → List ℕ
tagged_numbers = pair_numbers one_number body_numbers

unfoldable pub same-table : SameTexts TaggedWithin tagged_numbers IsJobTableWithin table_numbers
same-table = record { to = λ p. p.1; to_fits = λ p h. h.1.1; to_numbers = λ p h. words p.0 p.1 h; whole = whole }
  where
    words : (kind : ℕ) (t : JobTable BabyBear) → TaggedWithin (kind, t) → table_numbers t ≡ kind ∷ body_numbers t
    words kind (swap_of k a b) h = λ i. h.1.0 i ∷ body_numbers (swap_of k a b)
    words kind (wheel_of k) h = λ i. h.1.0 i ∷ body_numbers (wheel_of k)
    words kind (take_of ws) h = λ i. h.1.0 i ∷ body_numbers (take_of ws)
    words kind (give_of pairs) h = λ i. h.1.0 i ∷ body_numbers (give_of pairs)
    words kind (hash_of rows) h = λ i. h.1.0 i ∷ body_numbers (hash_of rows)

    known : (t : JobTable BabyBear) → Between 1 5 (kind_of t)
    known (swap_of k a b) = (omega arith, omega arith)
    known (wheel_of k) = (omega arith, omega arith)
    known (take_of ws) = (omega arith, omega arith)
    known (give_of pairs) = (omega arith, omega arith)
    known (hash_of rows) = (omega arith, omega arith)

    whole : (t : JobTable BabyBear) → IsJobTableWithin t → (p : ℕ × JobTable BabyBear) × TaggedWithin p × (p.1 ≡ t)
    whole t h = ((kind_of t, t), (known t, (refl, h)), refl)

pub tag-grammar : Grammar (Between 1 5) one_number
tag-grammar = number-grammar 1 5 (omega arith) (omega arith)

pub table-grammar : Grammar IsJobTableWithin table_numbers
table-grammar = same-grammar same-table (pair-grammar KindWithin tag-grammar kind-grammar)

pub job-grammar : Grammar JobWithin job_numbers
job-grammar = list-grammar 1 8 (omega arith) (omega arith) table-grammar
