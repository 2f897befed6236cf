-- How the least unbalanced value is found: by what each row takes and gives of its word, which is named by its canonical number.
use Rattle.std.specs.Prelude.{◌≡◌, ℕ, ◌<◌, ◌==◌, cond, List, [], map, sum_by, Option, MatchOption}
use Rattle.p3_field.specs.declared.baby_bear.BabyBear.{BabyBear}
use Rattle.law_tool_valid.specs.Job.{JobTable, swap_of, wheel_of, take_of, give_of, hash_of}
use Rattle.tool_jobs.specs.declared.balance.Tally.{Tally}

-- a row that takes its word, and one that gives it so often
abbrev pub taken_once : BabyBear → Tally
taken_once word = record { number = word.value; taken = 1; given = 0 }

abbrev pub given_often : BabyBear × ℕ → Tally
given_often p = record { number = p.0.value; taken = 0; given = p.1 }

-- the rows of a table
abbrev pub tallies_of : JobTable BabyBear → List Tally
tallies_of (swap_of k a b) = []
tallies_of (wheel_of k) = []
tallies_of (take_of words) = map taken_once words
tallies_of (give_of pairs) = map given_often pairs
tallies_of (hash_of rows) = []

-- how often rows take, or give, the word with this number
abbrev pub tally_times : (Tally → ℕ) → ℕ → List Tally → ℕ
tally_times often v rows = sum_by (λ t. cond (t.number == v) (often t) 0) rows

abbrev pub taken_in : ℕ → List Tally → ℕ
taken_in v rows = tally_times (λ t. t.taken) v rows

abbrev pub given_in : ℕ → List Tally → ℕ
given_in v rows = tally_times (λ t. t.given) v rows

-- the word with this number is taken in another number than it is given, and no word with a lesser number is
pub record IsFirstUnequal (rows : List Tally) (number : ℕ) : Type 0 where
  pub unequal : taken_in number rows ≡ given_in number rows → ⊥
  pub least : (v : ℕ) → v < number → taken_in v rows ≡ given_in v rows

abbrev pub IsUnequalAnswer : List Tally → Option ℕ → Type 0
IsUnequalAnswer rows answer = MatchOption answer ((v : ℕ) → taken_in v rows ≡ given_in v rows) (IsFirstUnequal rows)
