-- Jobs as the program has them, seen as the plain data of law_tool_valid; the words of their text, and their limits.
use Rattle.std.specs.Prelude.{◌≡◌, ℕ, ◌≤◌, List, [], ◌∷◌, ◌++◌, decimal, map}
use Rattle.p3_field.specs.declared.baby_bear.BabyBear.{BabyBear}
use Rattle.tool_lines.specs.Texts.{ListWithin, element_numbers, list_numbers}
use Rattle.law_tool_valid.specs.Job.{IsJobTableWithin, JobTable, swap_of, wheel_of, take_of, give_of, hash_of}
use Rattle.tool_jobs.specs.declared.table.GivenWord.{GivenWord}
use Rattle.tool_jobs.specs.declared.table.JobTable.{JobTable as Table}
use Rattle.tool_jobs.specs.declared.table.JobTable.TheVariants.{Swap, Wheel, Take, Give, Hash}

-- a table as plain data
abbrev pub read_given : GivenWord → BabyBear × ℕ
read_given w = (w.word, w.count)

abbrev pub read_table : Table → JobTable BabyBear
read_table (Swap k a b) = swap_of k a b
read_table (Wheel k) = wheel_of k
read_table (Take words) = take_of words.items
read_table (Give words) = give_of (map read_given words.items)
read_table (Hash rows) = hash_of rows.items

-- a job as plain data
abbrev pub read_tables : List Table → List (JobTable BabyBear)
read_tables tables = map read_table tables

-- a word, and how often it is given
abbrev pub given_numbers : BabyBear × ℕ → List ℕ
given_numbers p = p.0.value ∷ p.1 ∷ []

-- a row of compressions: its 24 words
abbrev pub row_numbers : List ℕ → List ℕ
row_numbers row = row

-- a table: its kind; the logarithm of its rows, or the list of its words or rows; and a swap table's first row
abbrev pub table_numbers : JobTable BabyBear → List ℕ
table_numbers (swap_of k a b) = 1 ∷ k ∷ a.value ∷ b.value ∷ []
table_numbers (wheel_of k) = 2 ∷ k ∷ []
table_numbers (take_of words) = 3 ∷ list_numbers element_numbers words
table_numbers (give_of pairs) = 4 ∷ list_numbers given_numbers pairs
table_numbers (hash_of rows) = 5 ∷ list_numbers row_numbers rows

-- a job: a list of one to eight tables, each within its limits
abbrev pub JobWithin : List (JobTable BabyBear) → Type 0
JobWithin job = ListWithin 1 8 IsJobTableWithin job

abbrev pub job_numbers : List (JobTable BabyBear) → List ℕ
job_numbers job = list_numbers table_numbers job

-- a text begins with the line of the kind of a table that has a list: one that takes or gives words, or one of compressions
abbrev pub BeginsList : List ℕ → Type 0
BeginsList text = (kind : ℕ) × (rest : List ℕ) × (text ≡ decimal kind ++ 10 ∷ rest) × (3 ≤ kind) × (kind ≤ 5)
