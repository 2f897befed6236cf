-- The traces of a job's tables have rows.
use Rattle.std.specs.Int.{IsPowerOfTwo, ◌∣◌}
use Rattle.std.proofs.Common.{◌≡◌, ℕ, zero, suc, ◌*◌, ◌/◌, ◌%◌, ◌^◌, ◌<◌, Bool, true, false, cond, List, [], ◌∷◌, length, map, refl, sym, ◌∙◌, ap, subst, arith}
use Rattle.std.specs.Prelude.{◌==◌, All}
use Rattle.std.proofs.Math.Nat.{dvd-mul_right}
use Rattle.std.proofs.lemmas.List.{length-map}
use Rattle.p3_field.specs.Poly.{tabulate}
use Rattle.p3_field.specs.Ring.{Ring, of_nat}
use Rattle.p3_field.specs.Laws.Coset.{double_power}
use Rattle.p3_field.specs.Laws.Tabulate.{length-tabulate, get_or-tabulate}
use Rattle.p3_matrix.specs.Matrix.{row_at}
use Rattle.commit_core.specs.Periodic.{IsPeriod}
use Rattle.blake3_prime.specs.Rows.{rows_cells}
use Rattle.blake3_prime.specs.Laws.Generated.{length-rows_cells}
use Rattle.law_committed.specs.Traces.{HaveTraceRows}
use Rattle.batch_setup.specs.Laws.Logarithms.{log_of_power}
use Rattle.batch_setup.specs.Setup.{log_of}
use Rattle.law_valid.specs.Traced.{no_rows, traces_of}
use Rattle.law_valid.specs.Laws.Committed.{no_rows_tall}
use Rattle.air_tables.specs.Wheel.{number_in, numbers_to, turns}
use Rattle.law_tool_valid.specs.Job.{IsJobTableWithin, JobTable, swap_of, wheel_of, take_of, give_of, hash_of, give_row, job_log_height_of, swap_row, trace_of, traced_job, wheel_cell}
use Rattle.law_valid.specs.Laws.Columns.{column_height, column_row, column_tall, one_column, pieces_height, pieces_row, pieces_tall}

either_long : {F : Type 0} (p : Bool) (a b : F) → length (cond p (a ∷ b ∷ []) (b ∷ a ∷ [])) ≡ 2
either_long true a b = refl
either_long false a b = refl

pub swap_long : {F : Type 0} (a b : F) (i : ℕ) → length (swap_row a b i) ≡ 2
swap_long a b i = either_long (i % 2 == 0) a b

-- a power of two is that of its logarithm
pub power_of_log : (n : ℕ) → IsPowerOfTwo n → n ≡ 2 ^ log_of n
power_of_log n (k, e) = e ∙ ap (λ j. 2 ^ j) (sym (log_of_power n k e))

module _ {F : Type 0} (r : Ring F) where
  -- the rows of the traces
  pub swap_row_is : (k : ℕ) (a b : F) (i : ℕ) → i < 2 ^ k → row_at (trace_of r (swap_of k a b)) i ≡ swap_row a b i
  swap_row_is k a b i h =
      pieces_row (swap_row a b) 2 (swap_long a b) (tabulate (2 ^ k) (λ i. i)) i 0 (let l = length-tabulate (2 ^ k) (λ i. i) in omega (arith, h, l))
      ∙ ap (swap_row a b) (get_or-tabulate (2 ^ k) (λ i. i) i 0 h)

  pub wheel_row_is : (k i : ℕ) → i < 2 ^ k → row_at (trace_of r (wheel_of k)) i ≡ wheel_cell r i ∷ []
  wheel_row_is k i h =
      column_row (tabulate (2 ^ k) (wheel_cell r)) i r.zero (let l = length-tabulate (2 ^ k) (wheel_cell r) in omega (arith, h, l))
      ∙ ap (λ x. x ∷ []) (get_or-tabulate (2 ^ k) (wheel_cell r) i r.zero h)

  pub number_row_is : (k i : ℕ) → i < 2 ^ k → row_at (one_column (numbers_to r (2 ^ k))) i ≡ number_in r i ∷ []
  number_row_is k i h =
      column_row (numbers_to r (2 ^ k)) i r.zero (let l = length-tabulate (2 ^ k) (number_in r) in omega (arith, h, l))
      ∙ ap (λ x. x ∷ []) (get_or-tabulate (2 ^ k) (number_in r) i r.zero h)

  -- the traces have their heights
  no_periods : (n : ℕ) → All (λ (column : List F). IsPeriod n (length column)) []
  no_periods n = λ i d l. absurd (omega (arith, l))

  pub swap_rows : {E : Type 0} (k : ℕ) (a b : F) → HaveTraceRows {E = E} (2 ^ k) (traces_of (traced_job r (swap_of k a b))) no_rows
  swap_rows k a b =
      let l = length-tabulate (2 ^ k) (λ i. i) in
      record {
        tall = pieces_height (swap_row a b) 2 (swap_long a b) (omega arith) (tabulate (2 ^ k) (λ i. i)) ∙ l;
        main = pieces_tall (swap_row a b) 2 (swap_long a b) (omega arith) (2 ^ k) (tabulate (2 ^ k) (λ i. i)) l;
        preprocessed = tt;
        permutation = no_rows_tall (2 ^ k);
        periods = no_periods (2 ^ k);
      }

  pub wheel_rows : {E : Type 0} (k : ℕ) → IsPeriod (2 ^ k) 2 → HaveTraceRows {E = E} (2 ^ k) (traces_of (traced_job r (wheel_of k))) no_rows
  wheel_rows k period =
      let l = length-tabulate (2 ^ k) (wheel_cell r) in
      record {
        tall = column_height (tabulate (2 ^ k) (wheel_cell r)) ∙ l;
        main = column_tall (2 ^ k) (tabulate (2 ^ k) (wheel_cell r)) l;
        preprocessed = column_tall (2 ^ k) (numbers_to r (2 ^ k)) (length-tabulate (2 ^ k) (number_in r));
        permutation = no_rows_tall (2 ^ k);
        periods = one_period;
      }
    where
      one_period : All (λ (column : List F). IsPeriod (2 ^ k) (length column)) (turns r ∷ [])
      one_period zero d h = period
      one_period (suc i) d h = absurd (omega (arith, h))

  pub take_rows : {E : Type 0} (words : List F) → IsPowerOfTwo (length words) → HaveTraceRows {E = E} (2 ^ log_of (length words)) (traces_of (traced_job r (take_of words))) no_rows
  take_rows words power =
      let l = power_of_log (length words) power in
      record {
        tall = column_height words ∙ l;
        main = column_tall (2 ^ log_of (length words)) words l;
        preprocessed = tt;
        permutation = no_rows_tall (2 ^ log_of (length words));
        periods = no_periods (2 ^ log_of (length words));
      }

  pub give_rows : {E : Type 0} (pairs : List (F × ℕ)) → IsPowerOfTwo (length pairs) → HaveTraceRows {E = E} (2 ^ log_of (length pairs)) (traces_of (traced_job r (give_of pairs))) no_rows
  give_rows pairs power =
      let l = power_of_log (length pairs) power in
      record {
        tall = pieces_height (give_row r) 2 (λ p. refl) (omega arith) pairs ∙ l;
        main = pieces_tall (give_row r) 2 (λ p. refl) (omega arith) (2 ^ log_of (length pairs)) pairs l;
        preprocessed = tt;
        permutation = no_rows_tall (2 ^ log_of (length pairs));
        periods = no_periods (2 ^ log_of (length pairs));
      }

  pub hash_rows : {E : Type 0} (rows : List (List ℕ)) → IsPowerOfTwo (length rows) → HaveTraceRows {E = E} (2 ^ log_of (length rows)) (traces_of (traced_job r (hash_of rows))) no_rows
  hash_rows rows power =
      let n = 2 ^ log_of (length rows) in
      let long : length (map (of_nat r) (rows_cells rows)) ≡ 9168 * length rows = length-map (rows_cells rows) (of_nat r) ∙ length-rows_cells rows in
      let high : length (map (of_nat r) (rows_cells rows)) / 9168 ≡ length rows = omega (arith, long) in
      let tall : length (map (of_nat r) (rows_cells rows)) / 9168 ≡ n = high ∙ power_of_log (length rows) power in
      record {
        tall = tall;
        main = record { fills = omega (arith, long); tall = λ _. tall };
        preprocessed = tt;
        permutation = no_rows_tall n;
        periods = no_periods n;
      }

  -- two goes into each power of two but one
  two_divides : (k : ℕ) → 0 < k → IsPeriod (2 ^ k) 2
  two_divides zero pos = absurd (omega (arith, pos))
  two_divides (suc k) pos =
      let twice : 2 * 2 ^ k ≡ 2 ^ suc k = let d = double_power k in omega (arith, d) in
      ((1, refl), subst (λ n. 2 ∣ n) twice (dvd-mul_right 2 (2 ^ k)))

  pub job_rows : {E : Type 0} (j : JobTable F) → IsJobTableWithin j → HaveTraceRows {E = E} (2 ^ job_log_height_of j) (traces_of (traced_job r j)) no_rows
  job_rows (swap_of k a b) w = swap_rows k a b
  job_rows (wheel_of k) w = wheel_rows k (two_divides k w.0)
  job_rows (take_of words) w = take_rows words w.0
  job_rows (give_of pairs) w = give_rows pairs w.0
  job_rows (hash_of rows) w = hash_rows rows w.0
