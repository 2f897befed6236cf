-- What is drawn along a proof of a statement: the shape that statement and configuration fix, what statement and proof give to the script's steps, and the
-- draws; and the checks of the grinding values, by the answers of the challenger's own tests. After Plonky3's p3-batch-stark (transcript.rs, verify_batch).
use Rattle.std.specs.Prelude.{slice_index_or as get_or}
use Rattle.std.specs.Prelude.{◌≡◌, ℕ, zero, suc, Bool, true, false, List, [], ◌∷◌, ◌++◌, map, length, count_by, is_some, Option, option_map}
use Rattle.std.specs.List.{filter_map}
use Rattle.std.specs.Option.{unwrap_or}
use Rattle.p3_field.specs.Checks.{Check, check}
use Rattle.p3_field.specs.Ring.{Ring}
use Rattle.p3_challenger.specs.Script.{ChallengerOf}
use Rattle.air_core.specs.Shape.{width_of}
use Rattle.transcript_version.specs.declared.TranscriptVersion.{TranscriptVersion}
use Rattle.transcript_version.specs.declared.TranscriptVersion.TheVariants.{V1, V2}
use Rattle.batch_transcript.specs.BatchScript.{BatchShapeData, Given, Draws, draws}
use Rattle.batch_transcript.specs.Buses.{batch_layout}
use Rattle.batch_transcript.specs.declared.failure.BatchTranscriptFailure.TheVariants.{LookupPowWitness, MissingLookupPowWitness, UnexpectedLookupPowWitness, NonCanonicalLookupPowWitness, OodPowWitness, NonCanonicalOodPowWitness}
use Rattle.batch_statement.specs.Proof.{ProofData}
use Rattle.batch_statement.specs.Statement.{Statement}
use Rattle.batch_statement.specs.declared.error.BatchVerificationError.{BatchVerificationError}
use Rattle.batch_statement.specs.declared.error.BatchVerificationError.TheVariants.{Transcript}
use Rattle.batch_statement.specs.Words.{has_some}

-- each table's number of lookups, where the version's shapes have them
abbrev pub lookup_counts_in : {T : Type 0} → TranscriptVersion → List (List T) → List ℕ
lookup_counts_in V1 lookups = []
lookup_counts_in V2 lookups = map length lookups

-- the shape of the script of a statement's proofs in a version, with so many bits for each grinding, where the backend masks or doesn't
abbrev pub script_shape : {F C : Type 0} → TranscriptVersion → (zk : Bool) → (lookup_bits ood_bits : ℕ) → Statement F C → BatchShapeData
script_shape version zk lookup_bits ood_bits s = record {
  trace_widths = map (λ t. t.declaration.width) s.tables;
  public_value_counts = map (λ t. t.declaration.public_values) s.tables;
  preprocessed_widths = map (λ t. width_of t.declaration.preprocessed) s.tables;
  has_preprocessed_commitment = is_some s.common.preprocessed;
  num_lookup_instances = count_by has_some s.common.lookups;
  lookup_pow_bits = lookup_bits;
  has_randomization_commitment = zk;
  ood_pow_bits = ood_bits;
  version = version;
  lookup_counts = lookup_counts_in version s.common.lookups;
}

-- what statement and proof give to the script's steps; of the terminals those that are there, in order
abbrev pub given_of : {F E C P : Type 0} → Statement F C → ProofData F E C P → Given F E C
given_of s p = record {
  degree_bits = p.degree_bits;
  main = p.commitments.main;
  publics = s.publics;
  preprocessed = option_map (λ g. g.commitment) s.common.preprocessed;
  lookup_witness = p.lookup_pow_witness;
  permutation = p.commitments.permutation;
  terminals = filter_map (λ t. t) p.lookup_terminals;
  quotient = p.commitments.quotient_chunks;
  randomization = p.commitments.random;
  ood_witness = p.ood_pow_witness;
}

-- the pair that is drawn for the lookups, where so many tables have lookups
abbrev pub drawn_pair : {S E : Type 0} → (tables : ℕ) → Draws S E → List E
drawn_pair zero d = []
drawn_pair (suc n) d = d.lookup_alpha ∷ d.lookup_beta ∷ []

-- the challenges of the lookups of table i: for each the base of its bus, then beta
abbrev pub table_challenges : {S F E C : Type 0} → Ring E → Draws S E → Statement F C → ℕ → List E
table_challenges e d s i = get_or (batch_layout e (drawn_pair (count_by has_some s.common.lookups) d) s.common.lookups) i []

-- the checks of the grinding value before the lookups' pair, which is there exactly where tables have lookups: at zero bits it is zero, and it passes the
-- challenger's test
abbrev pub lookup_grinding : {F R : Type 0} → (z : F) → (tables bits : ℕ) → Option F → (passed : Bool) → List (Check (BatchVerificationError R))
lookup_grinding z zero bits w passed = check (Transcript UnexpectedLookupPowWitness) (is_some w ≡ false) ∷ []
lookup_grinding z (suc n) bits w passed =
    check (Transcript (MissingLookupPowWitness bits)) (is_some w ≡ true)
    ∷ check (Transcript NonCanonicalLookupPowWitness) (bits ≡ 0 → unwrap_or w z ≡ z)
    ∷ check (Transcript (LookupPowWitness bits)) (passed ≡ true)
    ∷ []

-- those of the value before zeta
abbrev pub ood_grinding : {F R : Type 0} → (z : F) → (bits : ℕ) → F → (passed : Bool) → List (Check (BatchVerificationError R))
ood_grinding z bits w passed =
    check (Transcript NonCanonicalOodPowWitness) (bits ≡ 0 → w ≡ z)
    ∷ check (Transcript (OodPowWitness bits)) (passed ≡ true)
    ∷ []

-- those of both in a batch of this shape, by the answers among what was drawn
abbrev pub grinding_by : {S F E R : Type 0} → (z : F) → BatchShapeData → Option F → F → Draws S E → List (Check (BatchVerificationError R))
grinding_by z s lookup ood d =
    lookup_grinding z s.num_lookup_instances s.lookup_pow_bits lookup d.lookup_passed
    ++ ood_grinding z s.ood_pow_bits ood d.ood_passed

module _ {S F E C P : Type 0} (c : ChallengerOf S F E C) (f : Ring F) (e : Ring E) (dimension : ℕ) (initial : S) (version : TranscriptVersion) (zk : Bool) (lookup_bits ood_bits : ℕ) (s : Statement F C) (p : ProofData F E C P) where
  -- what a challenger draws along the script from its initial state on, its answers to the grinding values, and its state at the opening
  unfoldable pub drawn : Draws S E
  drawn = draws c f e dimension initial (script_shape version zk lookup_bits ood_bits s) (given_of s p)

  -- the checks of both grinding values
  unfoldable pub grinding_checks : {R : Type 0} → List (Check (BatchVerificationError R))
  grinding_checks = grinding_by f.zero (script_shape version zk lookup_bits ood_bits s) p.lookup_pow_witness p.ood_pow_witness drawn
