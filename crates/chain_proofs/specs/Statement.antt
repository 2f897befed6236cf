-- What is stated of a chain of compressions over the program's configuration, the batch that is proved, what comes of proving it, and what an accepted
-- proof means (not in Plonky3).
use Rattle.std.specs.Prelude.{◌≡◌, ℕ, ◌^◌, ◌<◌, List, [], ◌∷◌, length, Option, None, Some, ⊤}
use Rattle.p3_field.specs.BabyBear.{baby_bear_ring}
use Rattle.p3_field.specs.declared.baby_bear.BabyBear.{BabyBear}
use Rattle.air_core.specs.Shape.{Declaration}
use Rattle.air_core.specs.Tree.{Interaction, Tree}
use Rattle.plain_pcs.specs.Scheme.{PlainCommitmentData}
use Rattle.plain_pcs.specs.declared.error.PlainProverError.{PlainProverError}
use Rattle.blake3_compress.specs.Generated.{input_of}
use Rattle.batch_setup.specs.Setup.{Instance}
use Rattle.batch_statement.specs.Statement.{Statement}
use Rattle.batch_statement.specs.Words.{bits_at}
use Rattle.batch_transcript.specs.declared.failure.GrindStep.TheVariants.{Lookup, Ood}
use Rattle.chain_air.specs.Chain.{AreChainRows}
use Rattle.chain_air.specs.Generated.{chain_trace, end_of, publics_between}
use Rattle.chain_air.specs.Trees.{chain_declaration, chain_trees}
use Rattle.chain_air.specs.declared.air.ChainAir.{ChainAir}
use Rattle.law_committed.specs.BaseRows.{main_row}
use Rattle.law_committed.specs.Fields.{baby_bear_field}
use Rattle.law_honest.specs.HonestProof.{IsBuilt, LacksOodGround}
use Rattle.law_soundness.specs.CommittedBatch.{committed_table_at}
use Rattle.law_soundness.specs.Meaning.{IsAlphaUnlucky, IsZetaUnlucky}
use Rattle.prover_answer.specs.declared.error.ProvingError.{ProvingError}
use Rattle.prover_answer.specs.declared.error.ProvingError.TheVariants.{LookupDenominatorZero, MultiplicityBound, OutOfMemory, Pcs, WitnessNotFound}
use Rattle.tool_airs.specs.Airs.{AirsBatch, AirsProof, DrawsOutside, airs_batch, airs_statement}
use Rattle.transcript_version.specs.declared.TranscriptVersion.TheVariants.{V2}
use Rattle.tool_statement.specs.Config.{tool_backend, tool_setting}
use Rattle.verifier_batch.specs.BatchChecks.{Accepted}

-- what the AIR declares, its constraints, and that it sends nothing
abbrev pub declared : ChainAir → Declaration BabyBear
declared _ = chain_declaration

abbrev pub constraints : ChainAir → List (Tree BabyBear)
constraints _ = chain_trees baby_bear_ring

abbrev pub none_sent : ChainAir → List (Interaction BabyBear)
none_sent _ = []

-- a table of 2^log_rows rows whose public values are the limbs of two chaining values
abbrev pub chain_statement : (start end : List ℕ) → (log_rows : ℕ) → Statement BabyBear (PlainCommitmentData BabyBear)
chain_statement start end log_rows = airs_statement declared constraints none_sent (record {} ∷ []) (log_rows ∷ []) (publics_between baby_bear_ring start end ∷ [])

-- the chain of blocks from a chaining value
abbrev pub chain_instance : (start : List ℕ) → (blocks : List (List ℕ)) → Instance ChainAir BabyBear
chain_instance start blocks = record { air = record {}; trace = chain_trace baby_bear_ring start blocks; public_values = publics_between baby_bear_ring start (end_of start blocks) }

abbrev pub chain_batch : (start : List ℕ) → (blocks : List (List ℕ)) → AirsBatch
chain_batch start blocks = airs_batch declared constraints none_sent (chain_instance start blocks ∷ [])

-- the degree bits of a proof's first table, where it has any, are the stated logarithm of the rows
abbrev pub HasStatedHeight : (log_rows : ℕ) → (degree_bits : List ℕ) → Type 0
HasStatedHeight log_rows degree_bits = 0 < length degree_bits → bits_at degree_bits 0 ≡ log_rows

-- Where neither drawn challenge is unlucky, the committed rows are those of a chain of 2^log_rows compressions from `start` to `end`.
abbrev pub RowsAreChain : (start end : List ℕ) → (log_rows : ℕ) → AirsProof → Type 0
RowsAreChain start end log_rows p =
    let s = chain_statement start end log_rows in
    (IsAlphaUnlucky (tool_setting V2) 1 s p → ⊥) → (IsZetaUnlucky (tool_setting V2) 1 s p → ⊥)
    → AreChainRows baby_bear_ring (2 ^ log_rows) (main_row baby_bear_field (committed_table_at (tool_setting V2) 1 s p 0)) (input_of start) (input_of end)

module _ (start : List ℕ) (blocks : List (List ℕ)) where
  -- the proof is the honest one of the chain's trace
  abbrev pub IsChainProof : AirsProof → Type 0
  IsChainProof q = let b = chain_batch start blocks in IsBuilt b.setting b.prover b.statement b.traces b.degree_bits q

  -- an honest proof whose point lies outside the table's rows: no check of the verifier fails
  pub record IsAcceptedProof (q : AirsProof) : Type 0 where
    pub honest : IsChainProof q
    pub outside : DrawsOutside (chain_batch start blocks) q
    pub accepted : Accepted (tool_setting V2) tool_backend (chain_batch start blocks).statement q

  -- there is an honest proof, whose point lies on the table's rows
  abbrev pub DrawsInside : Type 0
  DrawsInside = (q : AirsProof) × IsChainProof q × (DrawsOutside (chain_batch start blocks) q → ⊥)

  -- no number passes the grind before the point is drawn
  abbrev pub LacksGround : Type 0
  LacksGround = let b = chain_batch start blocks in LacksOodGround b.setting b.prover b.statement b.traces b.degree_bits

  -- what comes of proving where there is an honest proof
  abbrev pub IsChainOutcome : Option AirsProof → Type 0
  IsChainOutcome None = DrawsInside
  IsChainOutcome (Some q) = IsAcceptedProof q

  -- why there is none
  abbrev pub IsChainRefusal : ProvingError PlainProverError → Type 0
  IsChainRefusal (Pcs phase source) = ⊥
  IsChainRefusal (MultiplicityBound bus) = ⊥
  IsChainRefusal (LookupDenominatorZero i row) = ⊥
  IsChainRefusal (WitnessNotFound Lookup) = ⊥
  IsChainRefusal (WitnessNotFound Ood) = LacksGround
  IsChainRefusal OutOfMemory = ⊤
