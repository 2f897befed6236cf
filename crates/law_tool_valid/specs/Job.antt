-- The program's jobs of five kinds of tables, with their traces and what is stated of them; when a job is balanced. All of this is the
-- program's own.
use Rattle.std.specs.Int.{IsPowerOfTwo}
use Rattle.std.specs.Prelude.{◌≡◌, ℕ, ◌%◌, ◌^◌, ◌<◌, ◌≤◌, ◌==◌, Bool, if◌then◌else◌, cond, List, [], ◌∷◌, length, map, All, count_by, sum_by}
use Rattle.std.specs.Prelude.{slice_index_or as get_or}
use Rattle.std.specs.List.{flat_map}
use Rattle.p3_field.specs.Poly.{tabulate}
use Rattle.p3_field.specs.Ring.{Ring, of_nat}
use Rattle.p3_matrix.specs.Matrix.{Rows}
use Rattle.p3_lookup.specs.Lookup.{lookups_of}
use Rattle.blake3_prime.specs.Rows.{rows_cells}
use Rattle.blake3_prime.specs.Trees.{blake3_declaration, blake3_trees}
use Rattle.batch_setup.specs.Packed.{Source}
use Rattle.batch_setup.specs.Setup.{log_of}
use Rattle.batch_statement.specs.Statement.{AirTable}
use Rattle.air_tables.specs.Swap.{swap_declaration, swap_trees}
use Rattle.law_valid.specs.Traced.{TracedTable}
use Rattle.air_tables.specs.Wheel.{number_in, turns, wheel_declaration, wheel_trees}
use Rattle.tool_tables.specs.Words.{give_interactions, take_interactions, words_declaration}
use Rattle.tool_tables.specs.declared.tool.ToolAir.{ToolAir}
use Rattle.tool_tables.specs.declared.tool.ToolAir.TheVariants.{Swap, Wheel, Words, Hash}
use Rattle.tool_tables.specs.declared.words.WordsAir.TheVariants.{Take, Give}

-- a table of a job: 2^k rows that swap, beginning with (a, b); a wheel of 2^k rows; words to take; words with how often each is given; rows of
-- compressions, each a block of 16 words and a chaining value of 8
pub data JobTable (F : Type 0) : Type 0 where
  swap_of : ℕ → F → F → JobTable F
  wheel_of : ℕ → JobTable F
  take_of : List F → JobTable F
  give_of : List (F × ℕ) → JobTable F
  hash_of : List (List ℕ) → JobTable F

-- the 24 words of a row of compressions
abbrev pub IsHashRow : List ℕ → Type 0
IsHashRow row = (length row ≡ 24) × All (λ w. w < 2 ^ 32) row

-- the sizes that a job's tables may have
abbrev pub IsJobTableWithin : {F : Type 0} → JobTable F → Type 0
IsJobTableWithin (swap_of k a b) = k ≤ 10
IsJobTableWithin (wheel_of k) = (0 < k) × (k ≤ 10)
IsJobTableWithin (take_of words) = IsPowerOfTwo (length words) × (length words ≤ 1024)
IsJobTableWithin (give_of pairs) = IsPowerOfTwo (length pairs) × (length pairs ≤ 1024) × All (λ p. p.1 ≤ 1024) pairs
IsJobTableWithin (hash_of rows) = IsPowerOfTwo (length rows) × (length rows ≤ 8) × All IsHashRow rows

-- how many rows of take tables take a word, where the test finds it
abbrev pub times_taken : {F : Type 0} → (F → Bool) → JobTable F → ℕ
times_taken test (swap_of k a b) = 0
times_taken test (wheel_of k) = 0
times_taken test (take_of words) = count_by test words
times_taken test (give_of pairs) = 0
times_taken test (hash_of rows) = 0

-- how often rows of give tables give it
abbrev pub times_given : {F : Type 0} → (F → Bool) → JobTable F → ℕ
times_given test (swap_of k a b) = 0
times_given test (wheel_of k) = 0
times_given test (take_of words) = 0
times_given test (give_of pairs) = sum_by (λ p. cond (test p.0) p.1 0) pairs
times_given test (hash_of rows) = 0

-- each word is taken as often as it is given, where words are equal by `eq`
abbrev pub IsBalancedJob : {F : Type 0} → (F → F → Bool) → List (JobTable F) → Type 0
IsBalancedJob {F = F} eq job = (v : F) → sum_by (times_taken (λ x. eq x v)) job ≡ sum_by (times_given (λ x. eq x v)) job

-- a job: at most eight tables, each within the sizes, and balanced
pub record IsJob {F : Type 0} (eq : F → F → Bool) (job : List (JobTable F)) : Type 0 where
  pub few : length job ≤ 8
  pub within : All IsJobTableWithin job
  pub balanced : IsBalancedJob eq job

-- row i of a swap table
abbrev pub swap_row : {F : Type 0} → F → F → ℕ → List F
swap_row a b i = if i % 2 == 0 then a ∷ b ∷ [] else b ∷ a ∷ []

-- the right cell of the last of 2^k rows
abbrev pub last_right : {F : Type 0} → ℕ → F → F → F
last_right k a b = if k == 0 then b else a

-- the cell in row i of a wheel: i + 1, times 3 and 5 in turn
abbrev pub wheel_cell : {F : Type 0} → Ring F → ℕ → F
wheel_cell r i = r.mul (number_in r i) (get_or (turns r) (i % 2) r.zero)

-- the row of a word that is given so often
abbrev pub give_row : {F : Type 0} → Ring F → F × ℕ → List F
give_row r p = p.0 ∷ of_nat r p.1 ∷ []

-- the logarithm of a table's number of rows, its trace, and its public values
abbrev pub job_log_height_of : {F : Type 0} → JobTable F → ℕ
job_log_height_of (swap_of k a b) = k
job_log_height_of (wheel_of k) = k
job_log_height_of (take_of words) = log_of (length words)
job_log_height_of (give_of pairs) = log_of (length pairs)
job_log_height_of (hash_of rows) = log_of (length rows)

abbrev pub trace_of : {F : Type 0} → Ring F → JobTable F → Rows F
trace_of r (swap_of k a b) = record { values = flat_map (swap_row a b) (tabulate (2 ^ k) (λ i. i)); width = 2 }
trace_of r (wheel_of k) = record { values = tabulate (2 ^ k) (wheel_cell r); width = 1 }
trace_of r (take_of words) = record { values = words; width = 1 }
trace_of r (give_of pairs) = record { values = flat_map (give_row r) pairs; width = 2 }
trace_of r (hash_of rows) = record { values = map (of_nat r) (rows_cells rows); width = 9168 }

abbrev pub job_publics_of : {F : Type 0} → JobTable F → List F
job_publics_of (swap_of k a b) = a ∷ b ∷ last_right k a b ∷ []
job_publics_of (wheel_of k) = []
job_publics_of (take_of words) = []
job_publics_of (give_of pairs) = []
job_publics_of (hash_of rows) = []

-- the logarithm of the number of chunks of its quotient: two for compressions, whose constraints have degree three, and one for the others
abbrev pub log_parts_of : {F : Type 0} → JobTable F → ℕ
log_parts_of (swap_of k a b) = 0
log_parts_of (wheel_of k) = 0
log_parts_of (take_of words) = 0
log_parts_of (give_of pairs) = 0
log_parts_of (hash_of rows) = 1

-- its AIR's declaration, constraints and interactions
abbrev pub source_of_job : {F : Type 0} → Ring F → JobTable F → Source F
source_of_job r (swap_of k a b) = record { declaration = swap_declaration; trees = swap_trees; interactions = [] }
source_of_job r (wheel_of k) = record { declaration = wheel_declaration r k; trees = wheel_trees; interactions = [] }
source_of_job r (take_of words) = record { declaration = words_declaration 1; trees = []; interactions = take_interactions r }
source_of_job r (give_of pairs) = record { declaration = words_declaration 2; trees = []; interactions = give_interactions r }
source_of_job r (hash_of rows) = record { declaration = blake3_declaration; trees = blake3_trees r; interactions = [] }

-- the AIRs that its program makes for it
abbrev pub IsAirOf : {F : Type 0} → Ring F → JobTable F → ToolAir F → Type 0
IsAirOf r (swap_of k a b) (Swap air) = Unit {0}
IsAirOf r (wheel_of k) (Wheel air) = (air.log_height ≡ k) × (map (λ v. v.items) air.periodic.items ≡ turns r ∷ [])
IsAirOf r (take_of words) (Words Take) = Unit {0}
IsAirOf r (give_of pairs) (Words Give) = Unit {0}
IsAirOf r (hash_of rows) (Hash air) = Unit {0}
IsAirOf r j air = ⊥

-- the table as it is proved: each of these has one lookup at most, which is its own
abbrev pub job_table : {F : Type 0} → Ring F → JobTable F → AirTable F
job_table r j = record { declaration = (source_of_job r j).declaration; trees = (source_of_job r j).trees }

abbrev pub traced_job : {F : Type 0} → Ring F → JobTable F → TracedTable F
traced_job r j = record {
  table = job_table r j;
  lookups = lookups_of (source_of_job r j).interactions;
  publics = job_publics_of j;
  trace = trace_of r j;
  degree_bits = job_log_height_of j;
}

-- the AIRs of a job, table by table
abbrev pub AreAirsOf : {F : Type 0} → Ring F → List (JobTable F) → List (ToolAir F) → Type 0
AreAirsOf r [] [] = Unit {0}
AreAirsOf r [] (air ∷ airs) = ⊥
AreAirsOf r (j ∷ job) [] = ⊥
AreAirsOf r (j ∷ job) (air ∷ airs) = IsAirOf r j air × AreAirsOf r job airs
