-- The setup refuses no AIRs whose preprocessed traces have their tables' heights.
use Rattle.std.proofs.Common.{◌≡◌, ℕ, zero, suc, ◌-◌, ◌^◌, ◌<◌, ◌≤◌, List, [], ◌∷◌, ◌++◌, length, get_or, map, All, Option, None, Some, refl, sym, ◌∙◌, ap, subst, arith}
use Rattle.std.specs.Prelude.{slice_get, IfSome}
use Rattle.std.proofs.lemmas.List.{get_or-map}
use Rattle.std.proofs.lemmas.List.Elements.{All-append, All-rest}
use Rattle.p3_field.specs.BabyBear.{baby_bear_ring, baby_bear_inv, baby_bear_root, reduce}
use Rattle.p3_field.specs.Checks.{FirstFails, NoneFails}
use Rattle.p3_field.specs.Domain.{CosetData}
use Rattle.p3_field.specs.Laws.Checks.{none_alone, none_append, none_first, none_of_each}
use Rattle.p3_field.specs.declared.baby_bear.BabyBear.{BabyBear}
use Rattle.p3_matrix.specs.Matrix.{Rows, height}
use Rattle.air_core.specs.Check.{HasHeight}
use Rattle.air_core.specs.Shape.{Declaration, HasColumns}
use Rattle.air_core.specs.Tree.{Interaction, Tree}
use Rattle.commit_core.specs.Failure.{NoneOf}
use Rattle.plain_pcs.specs.Extension.{IsCommittable}
use Rattle.plain_pcs.specs.Refusals.{CommitFault}
use Rattle.plain_pcs.specs.Scheme.{Blowup, scheme}
use Rattle.plain_pcs.specs.declared.error.PlainProverError.{PlainProverError}
use Rattle.plain_pcs.specs.declared.error.PlainProverError.TheVariants.{Commit, Open}
use Rattle.batch_setup.specs.Packed.{Source, no_source, source_of}
use Rattle.batch_setup.specs.Preprocessed.{commit_checks, committed_below, committed_trace_at, height_at, height_checks, on_domain}
use Rattle.batch_setup.specs.SetupChecks.{AreWithinBounds, degree_checks, trace_checks}
use Rattle.batch_setup.specs.declared.error.SetupError.{SetupError}
use Rattle.tool_airs.specs.Airs.{HaveHeights, sources_of_airs}
use Rattle.tool_statement.specs.Config.{tool_scheme}

abbrev Traces : Type 0
Traces = List (CosetData BabyBear × Rows BabyBear)

abbrev CanCommit : CosetData BabyBear × Rows BabyBear → Type 0
CanCommit e = IsCommittable tool_scheme e.0 e.1

high_check : (i b : ℕ) (o : Option (Rows BabyBear)) → HasHeight o (2 ^ b) → NoneFails (height_checks {F = BabyBear} {E = PlainProverError} 0 i b o)
unfolding NoneFails
high_check i b None h = tt
high_check i b (Some m) h = (let e : b ≡ b - 0 = omega arith in h ∙ ap (λ n. 2 ^ n) e, tt)

can_commit : (b : ℕ) (o : Option (Rows BabyBear)) → HasColumns o → HasHeight o (2 ^ b) → b ≤ 26 → All CanCommit (on_domain baby_bear_ring.one b o)
can_commit b None columns h low i d l = absurd (omega (arith, l))
can_commit b (Some m) columns h low zero d l = record { has_columns = columns; height_is = h; fits = omega (arith, low) }
can_commit b (Some m) columns h low (suc i) d l = absurd (omega (arith, l))

-- where each matrix can be committed to, the scheme refuses none
there : {X : Type 0} (P : X → Type 0) (xs : List X) → All P xs → (i : ℕ) → IfSome (slice_get xs i) P
there P [] h i = tt
there P (x ∷ xs) h zero = h zero x (omega arith)
there P (x ∷ xs) h (suc i) = there P xs (All-rest P x xs (x ∷ xs) refl h) i

not_refused : (ts : Traces) → All CanCommit ts → NoneOf (CommitFault tool_scheme ts)
not_refused ts h (Commit i) f = f.fails (there CanCommit ts h i)
not_refused ts h (Open i) f = f

commits_granted : (ts : Traces) → All CanCommit ts → NoneFails (commit_checks {E = PlainProverError} (CommitFault tool_scheme) ts)
unfolding NoneFails
commits_granted [] h = tt
commits_granted (t ∷ ts) h = (not_refused (t ∷ ts) h, tt)

module _ {A : Type 0} (declaration : A → Declaration BabyBear) (trees : A → List (Tree BabyBear)) (interactions : A → List (Interaction BabyBear)) (columns : (a : A) → HasColumns (declaration a).preprocessed)
    (airs : List A) (bits : List ℕ) (low : (i : ℕ) → i < length airs → get_or bits i 0 ≤ 26) (high : HaveHeights declaration airs bits) where
  abbrev sources : List (Source BabyBear)
  sources = sources_of_airs declaration trees interactions airs

  -- what holds of each AIR's preprocessed trace
  each : (P : ℕ → Option (Rows BabyBear) → Type 0) → ((i : ℕ) (a : A) → i < length airs → P i (declaration (get_or airs i a)).preprocessed) → (i : ℕ) → i < length airs → P i (get_or sources i no_source).declaration.preprocessed
  each P all i h = from airs refl
    where
      from : (xs : List A) → xs ≡ airs → P i (get_or sources i no_source).declaration.preprocessed
      from [] e = let n : length airs ≡ 0 = ap length (sym e) in absurd (omega (arith, h, n))
      from (a ∷ xs) e =
          subst (λ (s : Source BabyBear). P i s.declaration.preprocessed) (sym (get_or-map (source_of declaration trees interactions) airs i a no_source h)) (all i a h)

  heights : (i : ℕ) → i < length airs → NoneFails (height_at {F = BabyBear} {E = PlainProverError} 0 sources bits i)
  heights = each (λ i o. NoneFails (height_checks {F = BabyBear} {E = PlainProverError} 0 i (get_or bits i 0) o)) (λ i a h. high_check i (get_or bits i 0) (declaration (get_or airs i a)).preprocessed (high i a h))

  committed_one : (i : ℕ) → i < length airs → All CanCommit (committed_trace_at baby_bear_ring.one sources bits i)
  committed_one =
      each (λ i o. All CanCommit (on_domain baby_bear_ring.one (get_or bits i 0) o))
      (λ i a h. can_commit (get_or bits i 0) (declaration (get_or airs i a)).preprocessed (columns (get_or airs i a)) (high i a h) (low i h))

  committed_all : (n : ℕ) → n ≤ length airs → All CanCommit (committed_below baby_bear_ring.one sources bits n)
  committed_all zero h = λ i d l. absurd (omega (arith, l))
  committed_all (suc n) h =
      All-append CanCommit (committed_below baby_bear_ring.one sources bits n) (committed_trace_at baby_bear_ring.one sources bits n)
      (committed_all n (omega (arith, h))) (committed_one n (omega (arith, h)))

  traces_granted : NoneFails (trace_checks {E = PlainProverError} baby_bear_ring.one 0 (CommitFault tool_scheme) sources bits (length airs))
  traces_granted = none_append _ _ (none_of_each _ (length airs) heights) (commits_granted _ (committed_all (length airs) (omega arith)))

  -- so no check fails by which the data is made, also where the lists' lengths are compared
  pub none_refused : (b : Blowup) → b ≡ record { log_blowup = 1 } → (e : SetupError PlainProverError)
      → FirstFails (trace_checks baby_bear_ring.one 0 (CommitFault (scheme baby_bear_ring baby_bear_inv baby_bear_root (reduce 31) 27 b)) sources bits (length airs)) e → ⊥
  none_refused b p e f =
      none_first _ e
      (subst (λ (s : Blowup). NoneFails (trace_checks {E = PlainProverError} baby_bear_ring.one 0 (CommitFault (scheme baby_bear_ring baby_bear_inv baby_bear_root (reduce 31) 27 s)) sources bits (length airs))) (sym p) traces_granted) f

  pub none_refused_of : length bits ≡ length airs → (b : Blowup) → b ≡ record { log_blowup = 1 } → (e : SetupError PlainProverError)
      → FirstFails (degree_checks (length airs) (length bits) ++ trace_checks baby_bear_ring.one 0 (CommitFault (scheme baby_bear_ring baby_bear_inv baby_bear_root (reduce 31) 27 b)) sources bits (length airs)) e → ⊥
  none_refused_of long b p e f =
      none_first _ e
      (subst (λ (s : Blowup). NoneFails (degree_checks {E = PlainProverError} (length airs) (length bits)
      ++ trace_checks {E = PlainProverError} baby_bear_ring.one 0 (CommitFault (scheme baby_bear_ring baby_bear_inv baby_bear_root (reduce 31) 27 s)) sources bits (length airs))) (sym p)
      (none_append _ _ (none_alone _ long) traces_granted)) f
