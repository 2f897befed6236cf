-- What the setup makes of AIRs is what their tables share.
use Rattle.std.proofs.Common.{◌≡◌, ℕ, List, [], ◌∷◌, length, replicate, Option, None, Some, ◌∙◌, ap, subst}
use Rattle.p3_field.specs.BabyBear.{baby_bear_ring, baby_bear_inv, baby_bear_root, reduce}
use Rattle.p3_field.specs.Domain.{CosetData}
use Rattle.p3_field.specs.Poly.{tabulate}
use Rattle.p3_field.specs.declared.baby_bear.BabyBear.{BabyBear}
use Rattle.p3_matrix.specs.Matrix.{Rows}
use Rattle.air_core.specs.Shape.{Declaration}
use Rattle.air_core.specs.Tree.{Interaction, Tree}
use Rattle.p3_lookup.specs.Lookup.{LookupData}
use Rattle.plain_pcs.specs.Extension.{commitment_of}
use Rattle.plain_pcs.specs.Scheme.{Blowup, PlainCommitmentData, Scheme, scheme}
use Rattle.batch_setup.specs.Packed.{packed_at}
use Rattle.batch_setup.specs.Preprocessed.{IsPrepared}
use Rattle.batch_statement.specs.Statement.{PreprocessedTracesData}
use Rattle.batch_statement.specs.declared.preprocessed.PreprocessedInstanceMeta.{PreprocessedInstanceMeta}
use Rattle.prover_answer.specs.PlainBackend.{plain_commits}
use Rattle.tool_airs.specs.Airs.{airs_common, prepared_entries, prepared_traces, sources_of_airs}
use Rattle.tool_statement.specs.Config.{tool_scheme}
use Rattle.tool_statement.specs.StatedTables.{preprocessed_commitment_of}

abbrev Traces : Type 0
Traces = List (CosetData BabyBear × Rows BabyBear)

abbrev pub scheme_with : Blowup → Scheme BabyBear
scheme_with b = scheme baby_bear_ring baby_bear_inv baby_bear_root (reduce 31) 27 b

-- what was prepared of given traces and entries is the commitment to them
prepared_is : (entries : List (Option PreprocessedInstanceMeta)) (es : Traces) (p : Option (PreprocessedTracesData (PlainCommitmentData BabyBear))) (kept : Option Traces)
    → IsPrepared (plain_commits tool_scheme) entries es p kept → p ≡ preprocessed_commitment_of entries es
prepared_is entries [] p kept h = h.0
prepared_is entries (e ∷ es) None kept h = absurd h
prepared_is entries (e ∷ es) (Some g) None h = absurd h
prepared_is entries (e ∷ es) (Some g) (Some d) h =
    let one = h.2.commitment_is in
    let two = h.0 in
    let three = h.1 in
    λ i. Some (record { commitment = one i; instances = two i; matrix_to_instance = three i })

module _ {A : Type 0} (declaration : A → Declaration BabyBear) (trees : A → List (Tree BabyBear)) (interactions : A → List (Interaction BabyBear)) (airs : List A) (bits : List ℕ) where
  pub kept_is : (p : Option (PreprocessedTracesData (PlainCommitmentData BabyBear))) (kept : Option Traces) (b : Blowup) → b ≡ record { log_blowup = 1 }
      → IsPrepared (plain_commits (scheme_with b)) (prepared_entries declaration trees interactions airs bits) (prepared_traces declaration trees interactions airs bits) p kept
      → IsPrepared (plain_commits tool_scheme) (prepared_entries declaration trees interactions airs bits) (prepared_traces declaration trees interactions airs bits) p kept
  kept_is p kept b e h =
      subst (λ (s : Blowup). IsPrepared (plain_commits (scheme_with s)) (prepared_entries declaration trees interactions airs bits) (prepared_traces declaration trees interactions airs bits) p kept) e h

  pub common_is : (lookups : List (List (LookupData BabyBear))) (p : Option (PreprocessedTracesData (PlainCommitmentData BabyBear))) (kept : Option Traces) (b : Blowup) → b ≡ record { log_blowup = 1 }
      → lookups ≡ tabulate (length airs) (packed_at baby_bear_ring 0 (sources_of_airs declaration trees interactions airs) bits (replicate (length airs) 0))
      → IsPrepared (plain_commits (scheme_with b)) (prepared_entries declaration trees interactions airs bits) (prepared_traces declaration trees interactions airs bits) p kept
      → record { preprocessed = p; lookups = lookups } ≡ airs_common declaration trees interactions airs bits
  unfolding airs_common
  common_is lookups p kept b e l h =
      let made = prepared_is (prepared_entries declaration trees interactions airs bits) (prepared_traces declaration trees interactions airs bits) p kept (kept_is p kept b e h) in
      λ i. record { preprocessed = made i; lookups = l i }
