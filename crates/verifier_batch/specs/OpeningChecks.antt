-- The checks of a batch proof between the draw of the point and the tables' identities. After Plonky3's p3-batch-stark (verify_batch).
use Rattle.std.specs.Prelude.{◌≡◌, ℕ, ◌+◌, List, [], ◌∷◌, ◌++◌, length, map}
use Rattle.std.specs.Prelude.{slice_index_or as get_or}
use Rattle.p3_field.specs.Checks.{Check, in_turn}
use Rattle.p3_field.specs.Domain.{CosetData}
use Rattle.p3_field.specs.Poly.{tabulate}
use Rattle.p3_field.specs.Ring.{Ring}
use Rattle.air_core.specs.Shape.{Declaration, width_of}
use Rattle.commit_core.specs.Claims.{CommitmentClaim}
use Rattle.p3_uni_stark.specs.declared.error.VerificationError.TheVariants.{InvalidOpeningArgument}
use Rattle.batch_config.specs.Domains.{chunk_domains}
use Rattle.batch_config.specs.Setting.{Setting, Backend, masks}
use Rattle.batch_statement.specs.Proof.{ProofData}
use Rattle.batch_statement.specs.Statement.{Statement, entry_of}
use Rattle.batch_statement.specs.declared.error.BatchVerificationError.{BatchVerificationError}
use Rattle.batch_statement.specs.declared.error.BatchVerificationError.TheVariants.{Verification}
use Rattle.verifier_shape.specs.ShapeChecks.{Bounds, HasRightShape, log_chunks_at}
use Rattle.verifier_claims.specs.Claims.{Claimed, claims, matrix_tables}
use Rattle.batch_statement.specs.Words.{bits_at}
use Rattle.verifier_claims.specs.ClaimChecks.{bits_listed, domain_by}

-- the numbers of a configuration that a proof's shape depends on
abbrev pub shape_bounds_of : {S F E C : Type 0} → Setting S F E C → Bounds
shape_bounds_of c = record {
  zk = c.zk;
  masks = masks c;
  least = c.log_min + masks c;
  most = c.log_max;
  order = c.order;
  dimension = c.extension.dimension;
}

-- a proof has the right shape for its statement under a configuration, whose base field has this ring; R is the type of the backend's errors
abbrev pub HasShapeFor : {S F E C P : Type 0} (R : Type 0) → Ring F → Setting S F E C → Statement F C → ProofData F E C P → Type 0
HasShapeFor R f c s p = HasRightShape R f (shape_bounds_of c) s p

-- how many preprocessed columns each table has
abbrev pub preprocessed_widths : {F : Type 0} → List (Declaration F) → List ℕ
preprocessed_widths declarations = map (λ d. width_of d.preprocessed) declarations

-- The backend opens these claims by the proof from this state of the challenger. Where it doesn't, the refusal has its first fault.
abbrev pub opens_check : {S F E C P R : Type 0} → Backend S F E C P R → (state : S) → List (CommitmentClaim E C (CosetData F)) → P → List (Check (BatchVerificationError R))
opens_check {R = R} b state made proof = record {
  refusal = λ e. (r : R) × b.fault state made proof r × (e ≡ Verification (InvalidOpeningArgument r));
  holds = b.opens state made proof;
} ∷ []

module _ {S F E C P : Type 0} (c : Setting S F E C) (s : Statement F C) (p : ProofData F E C P) where
  -- the logarithm of the number of chunks of table i's quotient, before masking
  abbrev pub log_chunks_of_table : ℕ → ℕ
  log_chunks_of_table i = log_chunks_at c.field.ring (masks c) s.tables s.common.lookups p.degree_bits i

  -- this list has those of n tables
  abbrev pub AreLogChunks : (n : ℕ) → List ℕ → Type 0
  AreLogChunks n chunks = chunks ≡ tabulate n log_chunks_of_table

  -- the domains of the chunks of n tables' quotients
  abbrev pub made_domains : (n : ℕ) → List (List (CosetData F))
  made_domains n = tabulate n (λ i. chunk_domains c (bits_at p.degree_bits i) (log_chunks_of_table i))

  -- what the proof's claims are made of
  abbrev pub claimed : Claimed F E C
  claimed = record {
    declarations = map (λ t. t.declaration) s.tables;
    preprocessed = s.common.preprocessed;
    commitments = p.commitments;
    instances = p.instances;
    degree_bits = p.degree_bits;
    log_chunks = tabulate (length s.tables) log_chunks_of_table;
  }

  -- there is a domain for the quotient of table i
  abbrev pub domain_checks : {R : Type 0} → ℕ → List (Check (BatchVerificationError R))
  domain_checks i = domain_by i (bits_at p.degree_bits i) (log_chunks_of_table i) c.log_max c.two_adicity

  -- preprocessed matrix m was committed for its table's height
  abbrev pub metadata_check : {R : Type 0} → ℕ → List (Check (BatchVerificationError R))
  metadata_check m =
      let i = get_or (matrix_tables s.common.preprocessed) m 0 in
      bits_listed (entry_of s.common.preprocessed i) p.degree_bits i ∷ []

  -- both, over all tables and over all matrices
  unfoldable pub claim_checks : {R : Type 0} → List (Check (BatchVerificationError R))
  claim_checks = in_turn (length s.tables) domain_checks ++ in_turn (length (matrix_tables s.common.preprocessed)) metadata_check

-- all of them at the point zeta, from this state of the challenger: the quotients' domains, the preprocessed matrices' heights, and the backend's check of the
-- proof's claims
unfoldable pub opening_checks : {S F E C P R : Type 0} → Setting S F E C → Backend S F E C P R → Statement F C → ProofData F E C P → (zeta : E) → (state : S)
    → List (Check (BatchVerificationError R))
opening_checks c b s p zeta state = claim_checks c s p ++ opens_check b state (claims c (claimed c s p) zeta) p.opening_proof
