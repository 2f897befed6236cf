-- No refusal of prover data can come of a statement's tables.
use Rattle.std.proofs.Common.{◌≡◌, ℕ, zero, suc, ◌-◌, ◌^◌, ◌<◌, ◌≤◌, List, [], ◌∷◌, ◌++◌, length, get_or, All, refl, sym, ◌∙◌, ap, subst, arith}
use Rattle.std.specs.Prelude.{slice_get, IfSome}
use Rattle.std.proofs.lemmas.List.{length-map, get_or-map}
use Rattle.std.proofs.lemmas.List.Elements.{All-append, All-rest}
use Rattle.p3_field.specs.BabyBear.{baby_bear_ring}
use Rattle.p3_field.specs.Domain.{CosetData}
use Rattle.p3_field.specs.Checks.{NoneFails}
use Rattle.p3_field.specs.Laws.Checks.{none_append, none_alone, none_of_each}
use Rattle.p3_field.specs.Laws.Tabulate.{length-tabulate}
use Rattle.p3_field.specs.declared.baby_bear.BabyBear.{BabyBear}
use Rattle.p3_matrix.specs.Matrix.{Rows, height}
use Rattle.p3_matrix.specs.Laws.Grids.{product_height}
use Rattle.commit_core.specs.Failure.{NoneOf}
use Rattle.plain_pcs.specs.Extension.{IsCommittable}
use Rattle.plain_pcs.specs.Refusals.{CommitFault}
use Rattle.plain_pcs.specs.declared.error.PlainProverError.{PlainProverError}
use Rattle.plain_pcs.specs.declared.error.PlainProverError.TheVariants.{Commit, Open}
use Rattle.batch_setup.specs.Packed.{no_source}
use Rattle.batch_setup.specs.Preprocessed.{committed_trace_at, committed_below, commit_checks, height_at, height_checks, on_domain}
use Rattle.batch_setup.specs.SetupChecks.{degree_checks, trace_checks, AreWithinBounds}
use Rattle.batch_setup.specs.declared.error.SetupError.{SetupError}
use Rattle.air_tables.specs.Wheel.{numbers_to}
use Rattle.tool_statement.specs.Config.{tool_scheme}
use Rattle.tool_statement.specs.StatedTables.{TableWithin, log_height_of, log_heights_of, source_of_table, sources_of}
use Rattle.tool_statement.specs.declared.table.TableStatement.{TableStatement}
use Rattle.tool_statement.specs.declared.table.TableStatement.TheVariants.{Swap, Wheel, Take, Give, Hash}

abbrev Fault : Type 0
Fault = SetupError PlainProverError

abbrev traces : Type 0
traces = List (CosetData BabyBear × Rows BabyBear)

abbrev CanCommit : CosetData BabyBear × Rows BabyBear → Type 0
CanCommit e = IsCommittable tool_scheme e.0 e.1

-- the height of a wheel's numbers
wheel_height : (k : ℕ) → height (record { values = numbers_to baby_bear_ring (2 ^ k); width = 1 }) ≡ 2 ^ k
wheel_height k = product_height (numbers_to baby_bear_ring (2 ^ k)) (2 ^ k) 1 (let e : length (numbers_to baby_bear_ring (2 ^ k)) ≡ 2 ^ k = length-tabulate _ _ in omega (arith, e)) (omega arith)

high_enough : (i : ℕ) (t : TableStatement) → NoneFails (height_checks {F = BabyBear} {E = PlainProverError} 0 i (log_height_of t) (source_of_table t).declaration.preprocessed)
unfolding NoneFails
high_enough i (Swap k a b x) = tt
high_enough i (Wheel k) = (let e : k ≡ k - 0 = omega arith in wheel_height k ∙ ap (λ n. 2 ^ n) e, tt)
high_enough i (Take k) = tt
high_enough i (Give k) = tt
high_enough i (Hash k) = tt

can_commit : (t : TableStatement) → TableWithin t → All CanCommit (on_domain baby_bear_ring.one (log_height_of t) (source_of_table t).declaration.preprocessed)
can_commit (Swap k a b x) w i d h = absurd (omega (arith, h))
can_commit (Wheel k) w zero d h = record { has_columns = omega arith; height_is = wheel_height k; fits = let b = w.1 in omega (arith, b) }
can_commit (Wheel k) w (suc i) d h = absurd (omega (arith, h))
can_commit (Take k) w i d h = absurd (omega (arith, h))
can_commit (Give k) w i d h = absurd (omega (arith, h))
can_commit (Hash k) w i d h = absurd (omega (arith, h))

no_items : {X : Type 0} (P : X → Type 0) → All P []
no_items P i d h = absurd (omega (arith, h))

module _ (tables : List TableStatement) (within : All TableWithin tables) where
  abbrev table_at : ℕ → TableStatement
  table_at i = get_or tables i (Take 0)

  source_at : (i : ℕ) → i < length tables → get_or (sources_of tables) i no_source ≡ source_of_table (table_at i)
  source_at i h = get_or-map source_of_table tables i (Take 0) no_source h

  log_height_at : (i : ℕ) → i < length tables → get_or (log_heights_of tables) i 0 ≡ log_height_of (table_at i)
  log_height_at i h = get_or-map log_height_of tables i (Take 0) 0 h

  -- each preprocessed trace has its table's height
  heights : (i : ℕ) → i < length tables → NoneFails (height_at {F = BabyBear} {E = PlainProverError} 0 (sources_of tables) (log_heights_of tables) i)
  heights i h =
      subst (λ s. NoneFails (height_checks {F = BabyBear} {E = PlainProverError} 0 i (get_or (log_heights_of tables) i 0) s.declaration.preprocessed)) (sym (source_at i h))
      (subst (λ b. NoneFails (height_checks {F = BabyBear} {E = PlainProverError} 0 i b (source_of_table (table_at i)).declaration.preprocessed)) (sym (log_height_at i h))
      (high_enough i (table_at i)))

  -- and the scheme can commit to all
  committed_one : (i : ℕ) → i < length tables → All CanCommit (committed_trace_at baby_bear_ring.one (sources_of tables) (log_heights_of tables) i)
  committed_one i h =
      subst (λ s. All CanCommit (on_domain baby_bear_ring.one (get_or (log_heights_of tables) i 0) s.declaration.preprocessed)) (sym (source_at i h))
      (subst (λ b. All CanCommit (on_domain baby_bear_ring.one b (source_of_table (table_at i)).declaration.preprocessed)) (sym (log_height_at i h))
      (can_commit (table_at i) (within i (Take 0) h)))

  committed_all : (n : ℕ) → n ≤ length tables → All CanCommit (committed_below baby_bear_ring.one (sources_of tables) (log_heights_of tables) n)
  committed_all zero h = no_items CanCommit
  committed_all (suc n) h =
      All-append CanCommit (committed_below baby_bear_ring.one (sources_of tables) (log_heights_of tables) n)
      (committed_trace_at baby_bear_ring.one (sources_of tables) (log_heights_of tables) n)
      (committed_all n (omega (arith, h))) (committed_one n (omega (arith, h)))

-- where each can be committed to, the scheme refuses none
there : {X : Type 0} (P : X → Type 0) (xs : List X) → All P xs → (i : ℕ) → IfSome (slice_get xs i) P
there P [] h i = tt
there P (x ∷ xs) h zero = h zero x (omega arith)
there P (x ∷ xs) h (suc i) = there P xs (All-rest P x xs (x ∷ xs) refl h) i

not_refused : (ts : traces) → All CanCommit ts → NoneOf (CommitFault tool_scheme ts)
not_refused ts h (Commit i) f = f.fails (there CanCommit ts h i)
not_refused ts h (Open i) f = f

commits_granted : (ts : traces) → All CanCommit ts → NoneFails (commit_checks {E = PlainProverError} (CommitFault tool_scheme) ts)
unfolding NoneFails
commits_granted [] h = tt
commits_granted (t ∷ ts) h = (not_refused (t ∷ ts) h, tt)

-- so none of the checks fails by which prover data is made of these tables
pub granted : (tables : List TableStatement) (airs : ℕ) → All TableWithin tables → airs ≡ length tables
    → NoneFails (degree_checks {E = PlainProverError} airs (length (log_heights_of tables))
    ++ trace_checks baby_bear_ring.one 0 (CommitFault tool_scheme) (sources_of tables) (log_heights_of tables) airs)
granted tables airs w e =
    let n = length tables in
    subst (λ m. NoneFails (degree_checks {E = PlainProverError} m (length (log_heights_of tables))
    ++ trace_checks baby_bear_ring.one 0 (CommitFault tool_scheme) (sources_of tables) (log_heights_of tables) m)) (sym e)
    (none_append _ _ (none_alone _ (length-map tables log_height_of))
    (none_append _ _ (none_of_each _ n (λ i h. heights tables w i h))
    (commits_granted _ (committed_all tables w n (omega arith)))))

-- the degree bits lie within the scheme's bounds
small : (t : TableStatement) → TableWithin t → log_height_of t ≤ 26
small (Swap k a b x) w = omega (arith, w)
small (Wheel k) w = let b = w.1 in omega (arith, b)
small (Take k) w = omega (arith, w)
small (Give k) w = omega (arith, w)
small (Hash k) w = omega (arith, w)

pub bounded : (tables : List TableStatement) → All TableWithin tables → AreWithinBounds 0 26 (log_heights_of tables)
bounded tables w i h =
    let long = length-map tables log_height_of in
    let l : i < length tables = omega (arith, h, long) in
    let b : get_or (log_heights_of tables) i 0 ≤ 26 =
    subst (λ b. b ≤ 26) (sym (log_height_at tables w i l)) (small (table_at tables w i) (w i (Take 0) l)) in
    (omega arith, b)
