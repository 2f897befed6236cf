-- The least value that a job takes in another number than it gives.
use Rattle.std.specs.Prelude.{◌≡◌, ◌<◌, ◌==◌, Bool, List, sum_by}
use Rattle.p3_field.specs.declared.baby_bear.BabyBear.{BabyBear}
use Rattle.law_tool_valid.specs.Job.{JobTable, times_given, times_taken}

-- whether words are equal
abbrev pub same_word : BabyBear → BabyBear → Bool
same_word x y = x.value == y.value

-- a value is taken by as many rows as the counts of the rows that give it add up to
abbrev pub IsBalancedAt : List (JobTable BabyBear) → BabyBear → Type 0
IsBalancedAt job v = sum_by (times_taken (λ x. same_word x v)) job ≡ sum_by (times_given (λ x. same_word x v)) job

-- the value isn't balanced, and every value with a lesser canonical number is
pub record IsFirstUnbalanced (job : List (JobTable BabyBear)) (v : BabyBear) : Type 0 where
  pub unbalanced : IsBalancedAt job v → ⊥
  pub least : (w : BabyBear) → w.value < v.value → IsBalancedAt job w
