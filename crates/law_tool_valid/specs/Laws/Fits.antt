-- The constraints of a job's tables fit the chunks of their quotients: two for compressions, one for the others.
use Rattle.std.specs.Int.{div_ceil}
use Rattle.std.proofs.Common.{◌≡◌, ℕ, zero, suc, ◌+◌, ◌-◌, ◌*◌, ◌/◌, ◌^◌, ◌<◌, ◌≤◌, inl, inr, Bool, true, false, max, min, List, [], ◌∷◌, refl, sym, subst, arith}
use Rattle.std.specs.Prelude.{All, nat_le, nat_lt, ◌&&◌}
use Rattle.std.specs.List.{list_all}
use Rattle.std.proofs.Math.Nat.{mul-le-mul_right}
use Rattle.std.proofs.lemmas.Bool.{cases_lt}
use Rattle.std.proofs.lemmas.Grind.{div_ceil_times}
use Rattle.p3_field.specs.Ring.{Ring}
use Rattle.air_core.specs.Degree.{multiple}
use Rattle.air_core.specs.Tree.{Tree}
use Rattle.p3_lookup.specs.Lookup.{lookups_of}
use Rattle.batch_constraints.specs.BatchTrees.{table_trees}
use Rattle.batch_constraints.specs.Fitting.{FitsChunks, transition_factors}
use Rattle.batch_constraints.specs.Sizing.{log_chunks, periods_of}
use Rattle.batch_constraints.specs.Laws.Fits.{few_transitions_fit}
use Rattle.batch_constraints.specs.Laws.Logarithms.{log_ceil_least}
use Rattle.verifier_shape.specs.ShapeChecks.{chunks_of_table}
use Rattle.air_tables.specs.Wheel.{wheel_trees}
use Rattle.law_tool_valid.specs.Job.{JobTable, swap_of, wheel_of, take_of, give_of, hash_of, job_table, log_parts_of, source_of_job}
use Rattle.law_tool_valid.specs.Laws.Compressions.{compressions_chunks, compressions_fit}

-- a constraint of degree two at most, with one transition factor at most
abbrev is_low : {F : Type 0} → Tree F → Bool
is_low tree = nat_le (multiple 0 tree) 2 && nat_lt (transition_factors tree) 2

and_left : (p q : Bool) → (p && q) ≡ true → p ≡ true
and_left true q h = refl
and_left false q h = h

and_right : (p q : Bool) → (p && q) ≡ true → q ≡ true
and_right true q h = h
and_right false q h = absurd (cc h)

low_fits : {F : Type 0} (n c : ℕ) → 0 < n → 0 < c → (tree : Tree F) → is_low tree ≡ true → FitsChunks n [] c tree
low_fits n c pos some tree h =
    let small : multiple 0 tree ≤ 2 = grind (arith, and_left (nat_le (multiple 0 tree) 2) (nat_lt (transition_factors tree) 2) h) in
    let few : transition_factors tree < 2 = grind (arith, and_right (nat_le (multiple 0 tree) 2) (nat_lt (transition_factors tree) 2) h) in
    few_transitions_fit n 2 c tree pos small few (omega (arith, some))

all_low_fit : {F : Type 0} (n c : ℕ) → 0 < n → 0 < c → (trees : List (Tree F)) → list_all is_low trees ≡ true → All (FitsChunks n [] c) trees
all_low_fit n c pos some [] h j d l = absurd (omega (arith, l))
all_low_fit n c pos some (tree ∷ trees) h zero d l = low_fits n c pos some tree (and_left (is_low tree) (list_all is_low trees) h)
all_low_fit n c pos some (tree ∷ trees) h (suc j) d l = all_low_fit n c pos some trees (and_right (is_low tree) (list_all is_low trees) h) j d (omega (arith, l))

-- the wheel's constraint is of a column times a periodic one of period two
wheel_degree : (n : ℕ) → 0 < n → max (n - 1) (min (n - 1 + (2 - 1) * (n / 2)) (2 ^ 64 - 1)) < n * 2
wheel_degree n pos = omega (arith, pos)

-- a number of copies of n that is less than 3 n is at most two
two_at_most : (d n x : ℕ) → 0 < n → x < n * 2 → d * n < x + n → d ≤ 2
two_at_most d n x pos less few = elim (cases_lt 2 d) [
  | inl above ↦ let q : 3 * n ≤ d * n = mul-le-mul_right n (omega (arith, above)) in absurd (omega (arith, q, less, few))
  | inr fine ↦ omega (arith, fine)
]

module _ {F : Type 0} (r : Ring F) where
  wheel_fits : (n c : ℕ) → 0 < n → 0 < c → All (FitsChunks n (2 ∷ []) c) (wheel_trees {F = F})
  wheel_fits n c pos some zero d l =
      let one : n * 2 ≤ n * (c + 1) = let q : 2 * n ≤ (c + 1) * n = mul-le-mul_right n (omega (arith, some)) in omega (arith, q) in
      let less = wheel_degree n pos in
      omega (arith, less, one)
  wheel_fits n c pos some (suc j) d l = absurd (omega (arith, l))

  -- a table of degree two at most has one chunk
  one_chunk : (degree : ℕ) → degree ≤ 2 → log_chunks 0 degree ≡ 0
  one_chunk degree h = let q = log_ceil_least (max (degree + 0) 2 - 1) 0 (omega (arith, h)) in omega (arith, q)

  wheel_constraint : (n : ℕ) → 0 < n → div_ceil (max 0 (max (n - 1) (min (n - 1 + (2 - 1) * (n / 2)) (2 ^ 64 - 1)))) n ≤ 2
  wheel_constraint n pos =
      let x = max 0 (max (n - 1) (min (n - 1 + (2 - 1) * (n / 2)) (2 ^ 64 - 1))) in
      let less : x < n * 2 = let q = wheel_degree n pos in omega (arith, q) in
      two_at_most (div_ceil x n) n x pos less (div_ceil_times x n pos).1

  -- so each kind has its number of chunks, over any number of rows
  pub job_sized : (j : JobTable F) (n : ℕ) → 0 < n → chunks_of_table r 0 n (job_table r j) (lookups_of (source_of_job r j).interactions) ≡ log_parts_of j
  job_sized (swap_of k a b) n pos = one_chunk 2 (omega arith)
  job_sized (wheel_of k) n pos = one_chunk _ (let q = wheel_constraint n pos in omega (arith, q))
  job_sized (take_of words) n pos = one_chunk 2 (omega arith)
  job_sized (give_of pairs) n pos = one_chunk 2 (omega arith)
  job_sized (hash_of rows) n pos = compressions_chunks r

  few_parts : (j : JobTable F) → log_parts_of j ≤ 1
  few_parts (swap_of k a b) = omega arith
  few_parts (wheel_of k) = omega arith
  few_parts (take_of words) = omega arith
  few_parts (give_of pairs) = omega arith
  few_parts (hash_of rows) = omega arith

  -- two at most
  pub job_chunks : (j : JobTable F) (n : ℕ) → 0 < n → chunks_of_table r 0 n (job_table r j) (lookups_of (source_of_job r j).interactions) ≤ 1
  job_chunks j n pos = subst (λ k. k ≤ 1) (sym (job_sized j n pos)) (few_parts j)

  -- all constraints of a kind fit any number of chunks from its own on
  kind_fits : (j : JobTable F) (n c : ℕ) → 0 < n → 2 ^ log_parts_of j ≤ c
      → All (FitsChunks n (periods_of (source_of_job r j).declaration) c) (table_trees r (source_of_job r j).trees (lookups_of (source_of_job r j).interactions))
  kind_fits (swap_of k a b) n c pos enough = all_low_fit n c pos (omega (arith, enough)) (table_trees r (source_of_job r (swap_of k a b)).trees []) refl
  kind_fits (wheel_of k) n c pos enough = wheel_fits n c pos (omega (arith, enough))
  kind_fits (take_of words) n c pos enough = all_low_fit n c pos (omega (arith, enough)) (table_trees r [] (lookups_of (source_of_job r (take_of words)).interactions)) refl
  kind_fits (give_of pairs) n c pos enough = all_low_fit n c pos (omega (arith, enough)) (table_trees r [] (lookups_of (source_of_job r (give_of pairs)).interactions)) refl
  kind_fits (hash_of rows) n c pos enough = compressions_fit r n c pos (omega (arith, enough))

  -- which is that of the table's sizing
  pub job_fits : (j : JobTable F) (n c : ℕ) → 0 < n → 2 ^ chunks_of_table r 0 n (job_table r j) (lookups_of (source_of_job r j).interactions) ≤ c
      → All (FitsChunks n (periods_of (source_of_job r j).declaration) c) (table_trees r (source_of_job r j).trees (lookups_of (source_of_job r j).interactions))
  job_fits j n c pos enough = kind_fits j n c pos (subst (λ k. 2 ^ k ≤ c) (job_sized j n pos) enough)
