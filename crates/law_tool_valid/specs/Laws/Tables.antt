-- Each table of a job is traced, meets its constraints, and has a quotient's domain; its constraints fit.
use Rattle.std.specs.Int.{IsPowerOfTwo}
use Rattle.std.proofs.Common.{◌≡◌, ℕ, ◌+◌, ◌^◌, ◌<◌, ◌≤◌, inl, inr, cond, [], length, refl, sym, ◌∙◌, ap, subst, arith}
use Rattle.std.proofs.Math.Pow.{pow-lt}
use Rattle.std.proofs.lemmas.Bool.{cases_lt}
use Rattle.std.proofs.lemmas.Nat.{pow_pos}
use Rattle.p3_field.specs.Field.{TwoAdic, Extension}
use Rattle.p3_field.specs.Ring.{Ring}
use Rattle.blake3_prime.specs.Meanings.{RowMeans}
use Rattle.law_committed.specs.Committed.{Holds}
use Rattle.law_committed.specs.Fields.{FieldsLaws}
use Rattle.law_committed.specs.Traces.{HaveTraceRows, committed_traces}
use Rattle.law_committed.specs.Laws.Disjoint.{shift_gives_domain}
use Rattle.batch_config.specs.Setting.{Setting, masks}
use Rattle.batch_setup.specs.Setup.{log_of}
use Rattle.batch_setup.specs.Laws.Logarithms.{log_of_power}
use Rattle.verifier_shape.specs.ShapeChecks.{chunks_of_table}
use Rattle.law_valid.specs.Traced.{TracedTable, committed_alone, declared, log_parts, log_rows, no_rows, quotient_shift, traces_of}
use Rattle.law_valid.specs.Valid.{AllFit, HasQuotientDomain, IsTraced, OwnHold}
use Rattle.law_tool_valid.specs.Job.{IsJobTableWithin, JobTable, swap_of, wheel_of, take_of, give_of, hash_of, job_log_height_of, log_parts_of, source_of_job, trace_of, traced_job}
use Rattle.law_tool_valid.specs.Serves.{ServesJobs, ServesTable}
use Rattle.law_tool_valid.specs.Laws.Compressions.{compressions_hold}
use Rattle.law_tool_valid.specs.Laws.Fits.{job_chunks, job_fits, job_sized}
use Rattle.law_tool_valid.specs.Laws.Swap.{swap_holds}
use Rattle.law_tool_valid.specs.Laws.Traced.{job_rows, power_of_log}
use Rattle.law_tool_valid.specs.Laws.Wheel.{wheel_holds}

-- the logarithm of a power of two up to another one
pub small_log : (n most : ℕ) → IsPowerOfTwo n → n ≤ 2 ^ most → log_of n ≤ most
small_log n most (k, e) h = elim (cases_lt most k) [
  | inl above ↦ let q : 2 ^ most < 2 ^ k = pow-lt above in absurd (omega (arith, q, e, h))
  | inr fine ↦ let q = log_of_power n k e in omega (arith, q, fine)
]

pub small_height : {F : Type 0} (j : JobTable F) → IsJobTableWithin j → job_log_height_of j ≤ 10
small_height (swap_of k a b) w = w
small_height (wheel_of k) w = w.1
small_height (take_of words) w = small_log (length words) 10 w.0 w.1
small_height (give_of pairs) w = small_log (length pairs) 10 w.0 w.1
small_height (hash_of rows) w = let q = small_log (length rows) 3 w.0 w.1 in omega (arith, q)

-- the rows and the chunks of a quotient
small_domain : {F : Type 0} (j : JobTable F) → IsJobTableWithin j → job_log_height_of j + log_parts_of j ≤ 10
small_domain (swap_of k a b) w = omega (arith, w)
small_domain (wheel_of k) w = let q = w.1 in omega (arith, q)
small_domain (take_of words) w = let q = small_log (length words) 10 w.0 w.1 in omega (arith, q)
small_domain (give_of pairs) w = let q = small_log (length pairs) 10 w.0 w.1 in omega (arith, q)
small_domain (hash_of rows) w = let q = small_log (length rows) 3 w.0 w.1 in omega (arith, q)

-- nothing more is nothing else
no_more : (x y m : ℕ) → m ≡ 0 → x ≡ y → y ≡ x + m
no_more x y m none same = omega (arith, none, same)

no_less : (n : ℕ) → n ≤ n
no_less n = omega arith

module _ {F : Type 0} (r : Ring F) where
  kind_width : (j : JobTable F) → (trace_of r j).width ≡ (declared (traced_job r j)).width
  kind_width (swap_of k a b) = refl
  kind_width (wheel_of k) = refl
  kind_width (take_of words) = refl
  kind_width (give_of pairs) = refl
  kind_width (hash_of rows) = refl

  kind_columns : (j : JobTable F) → 0 < (declared (traced_job r j)).width
  kind_columns (swap_of k a b) = omega arith
  kind_columns (wheel_of k) = omega arith
  kind_columns (take_of words) = omega arith
  kind_columns (give_of pairs) = omega arith
  kind_columns (hash_of rows) = omega arith

  kind_publics : (j : JobTable F) → length (traced_job r j).publics ≡ (declared (traced_job r j)).public_values
  kind_publics (swap_of k a b) = refl
  kind_publics (wheel_of k) = refl
  kind_publics (take_of words) = refl
  kind_publics (give_of pairs) = refl
  kind_publics (hash_of rows) = refl

  -- where compressions mean compressions, all tables are served
  kind_served : RowMeans r → (j : JobTable F) → ServesTable r j
  kind_served means (swap_of k a b) = tt
  kind_served means (wheel_of k) = tt
  kind_served means (take_of words) = tt
  kind_served means (give_of pairs) = tt
  kind_served means (hash_of rows) = means

module _ {F E : Type 0} (f : TwoAdic F) (e : Extension F E) (top : ℕ) (inverse : E → E) (L : FieldsLaws f e top inverse) where
  -- the traces of each kind meet its constraints
  pub kind_holds : (j : JobTable F) → IsJobTableWithin j → ServesTable f.ring j → job_log_height_of j ≤ top
      → Holds f e (committed_traces f e (traces_of (traced_job f.ring j)) no_rows [] [] (job_log_height_of j)) (source_of_job f.ring j).trees
  kind_holds (swap_of k a b) W served low = swap_holds f e top inverse L k low a b
  kind_holds (wheel_of k) W served low = wheel_holds f e top inverse L k low (job_rows f.ring (wheel_of k) W)
  kind_holds (take_of words) W served low = λ i h n d l. absurd (omega (arith, l))
  kind_holds (give_of pairs) W served low = λ i h n d l. absurd (omega (arith, l))
  kind_holds (hash_of rows) W served low =
      compressions_hold f e top inverse L served rows W.2 (log_of (length rows)) low (power_of_log (length rows) W.0) (job_rows f.ring (hash_of rows) W)

module _ {S F E C : Type 0} (c : Setting S F E C) (inverse : E → E) (Z : ServesJobs c inverse) (j : JobTable F) (W : IsJobTableWithin j) where
  abbrev r : Ring F
  r = c.field.ring

  abbrev t : TracedTable F
  t = traced_job r j

  none_masked : masks c ≡ 0
  none_masked = ap (λ z. cond z 1 0) Z.plain

  pub rows_are : log_rows c t ≡ job_log_height_of j
  rows_are = let m = none_masked in omega (arith, m)

  pub job_traced : IsTraced c t
  job_traced =
      let m = none_masked in
      let low = small_height j W in
      let z = Z.least in
      let top = Z.most in
      record {
        width = kind_width r j;
        some = kind_columns r j;
        rows = subst (λ n. HaveTraceRows {E = E} (2 ^ n) (traces_of t) no_rows) (sym rows_are) (job_rows r j W);
        least = omega (arith, m, z);
        most = omega (arith, low, top);
        publics = kind_publics r j;
      }

  -- its constraints hold
  low_enough : job_log_height_of j ≤ c.two_adicity
  low_enough = let a = small_height j W in let b = Z.subgroups in omega (arith, a, b)

  pub job_holds : OwnHold c t
  job_holds = subst (λ n. Holds c.field c.extension (committed_traces c.field c.extension (traces_of t) no_rows [] [] n) t.table.trees) (sym rows_are) (kind_holds c.field c.extension c.two_adicity inverse Z.fields j W (kind_served r Z.compressions j) low_enough)

  -- nothing is masked, so its quotient has the chunks of its sizing
  sized : chunks_of_table r 0 (2 ^ log_rows c t) t.table t.lookups ≡ log_parts c t
  sized =
      let n = 2 ^ log_rows c t in
      no_more (chunks_of_table r (masks c) n t.table t.lookups) (chunks_of_table r 0 n t.table t.lookups) (masks c) none_masked
      (ap (λ k. chunks_of_table r k n t.table t.lookups) none_masked)

  -- which are those of its kind, two at most
  pub parts_are : log_parts c t ≡ log_parts_of j
  parts_are = sym sized ∙ job_sized r j (2 ^ log_rows c t) (pow_pos (log_rows c t))

  pub job_parts : log_parts c t ≤ 1
  job_parts = subst (λ n. n ≤ 1) sized (job_chunks r j (2 ^ log_rows c t) (pow_pos (log_rows c t)))

  pub job_all_fit : AllFit c t
  job_all_fit =
      job_fits r j (2 ^ log_rows c t) (2 ^ log_parts c t) (pow_pos (log_rows c t))
      (subst (λ k. 2 ^ k ≤ 2 ^ log_parts c t) (sym sized) (no_less (2 ^ log_parts c t)))

  pub job_domain : HasQuotientDomain c t
  job_domain =
      let top = Z.subgroups in
      let size : log_rows c t + log_parts c t ≤ 10 = subst (λ n. log_rows c t + n ≤ 10) (sym parts_are) (subst (λ n. n + log_parts_of j ≤ 10) (sym rows_are) (small_domain j W)) in
      shift_gives_domain c.field c.extension c.two_adicity inverse Z.fields (committed_alone c t) (quotient_shift c) (log_parts c t) (omega (arith, size, top)) Z.shift
      (Z.shifted (log_rows c t + log_parts c t) size)
