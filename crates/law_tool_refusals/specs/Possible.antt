-- Which refusals of a batch proof the program's `verify` may give for a proof file, and which it never gives (not in Plonky3).
use Rattle.std.specs.Prelude.{⊤, ℕ, Option, None, Some}
use Rattle.p3_uni_stark.specs.declared.error.InvalidProofShapeError.{InvalidProofShapeError}
use Rattle.p3_uni_stark.specs.declared.error.InvalidProofShapeError.TheVariants.{InstanceCountMismatch, DegreeBitsTooSmall, DegreeBitsTooLarge, QuotientDomainTooLarge, TraceNextMismatch, UnexpectedTraceNext, UnexpectedPreprocessedValues, UnexpectedPreprocessedNext, PublicValuesLengthMismatch, TraceLocalWidthMismatch, QuotientChunksCountMismatch, QuotientChunkDimensionMismatch, PreprocessedWidthMismatch, PreprocessedMetadataMismatch, MissingPreprocessedValues, QuotientDomainsCountMismatch}
use Rattle.p3_uni_stark.specs.declared.error.VerificationError.{VerificationError}
use Rattle.p3_uni_stark.specs.declared.error.VerificationError.TheVariants.{InvalidProofShape, InvalidOpeningArgument, OodPointInDomain, OodEvaluationMismatch, RandomizationError, PeriodicColumn}
use Rattle.p3_lookup.specs.declared.terminal.LookupError.{LookupError}
use Rattle.p3_lookup.specs.declared.terminal.LookupError.TheVariants.{MultiplicityBound, PermutationWidthMismatch, PermutationLengthMismatch, TerminalPresenceMismatch, CommitmentMismatch, TerminalSum}
use Rattle.batch_transcript.specs.declared.failure.BatchTranscriptFailure.{BatchTranscriptFailure}
use Rattle.batch_transcript.specs.declared.failure.BatchTranscriptFailure.TheVariants.{LookupPowWitness, MissingLookupPowWitness, UnexpectedLookupPowWitness, NonCanonicalLookupPowWitness, OodPowWitness, NonCanonicalOodPowWitness}
use Rattle.batch_statement.specs.declared.error.BatchVerificationError.{BatchVerificationError}
use Rattle.batch_statement.specs.declared.error.BatchVerificationError.TheVariants.{Verification, Lookup, Transcript, OutOfMemory}

-- a refusal of one of a batch's tables names the table
abbrev pub NamesTable : Option ℕ → Type 0
NamesTable None = ⊥
NamesTable (Some i) = ⊤

-- Of a proof's shape. The stated heights are compared before: so degree bits lie within the configuration's bounds, each table has a domain for its quotient,
-- and preprocessed traces are of the proof's heights. A table is stated with as many public values as it declares. The last two come only of a call that
-- makes claims by itself.
abbrev pub ShapeMayCome : InvalidProofShapeError → Type 0
ShapeMayCome InstanceCountMismatch = ⊤
ShapeMayCome (TraceNextMismatch air) = NamesTable air
ShapeMayCome (UnexpectedTraceNext air) = NamesTable air
ShapeMayCome (UnexpectedPreprocessedValues air) = NamesTable air
ShapeMayCome (UnexpectedPreprocessedNext air) = NamesTable air
ShapeMayCome (TraceLocalWidthMismatch air expected got) = ⊤
ShapeMayCome (QuotientChunksCountMismatch air expected got) = ⊤
ShapeMayCome (QuotientChunkDimensionMismatch air) = ⊤
ShapeMayCome (PreprocessedWidthMismatch air) = ⊤
ShapeMayCome (DegreeBitsTooSmall air least got) = ⊥
ShapeMayCome (DegreeBitsTooLarge air most got) = ⊥
ShapeMayCome (QuotientDomainTooLarge air most got) = ⊥
ShapeMayCome (PublicValuesLengthMismatch expected got) = ⊥
ShapeMayCome (PreprocessedMetadataMismatch air) = ⊥
ShapeMayCome (MissingPreprocessedValues air) = ⊥
ShapeMayCome (QuotientDomainsCountMismatch air) = ⊥

-- Of the tables' checks. The only periodic columns are those of wheels, which have two rows at least; each of the columns repeats two values.
abbrev pub VerificationMayCome : {R : Type 0} → VerificationError R → Type 0
VerificationMayCome (InvalidProofShape e) = ShapeMayCome e
VerificationMayCome (InvalidOpeningArgument e) = ⊤
VerificationMayCome OodPointInDomain = ⊤
VerificationMayCome (OodEvaluationMismatch index) = NamesTable index
VerificationMayCome RandomizationError = ⊤
VerificationMayCome (PeriodicColumn e) = ⊥

-- Of the lookups' checks. Eight tables of up to 2^10 rows send too little on a bus to reach the order of the field. The other one that never comes is of a
-- call that makes claims by itself.
abbrev pub LookupMayCome : LookupError → Type 0
LookupMayCome (PermutationWidthMismatch air expected) = ⊤
LookupMayCome (TerminalPresenceMismatch air expected got) = ⊤
LookupMayCome CommitmentMismatch = ⊤
LookupMayCome TerminalSum = ⊤
LookupMayCome (MultiplicityBound bus) = ⊥
LookupMayCome (PermutationLengthMismatch air) = ⊥

-- Of the grinding values. Neither grinding has zero bits.
abbrev pub TranscriptMayCome : BatchTranscriptFailure → Type 0
TranscriptMayCome (LookupPowWitness bits) = ⊤
TranscriptMayCome (MissingLookupPowWitness bits) = ⊤
TranscriptMayCome UnexpectedLookupPowWitness = ⊤
TranscriptMayCome (OodPowWitness bits) = ⊤
TranscriptMayCome NonCanonicalLookupPowWitness = ⊥
TranscriptMayCome NonCanonicalOodPowWitness = ⊥

-- The refusals that `verify` may give. Out of memory is none of the file.
abbrev pub MayCome : {R : Type 0} → BatchVerificationError R → Type 0
MayCome (Verification e) = VerificationMayCome e
MayCome (Lookup e) = LookupMayCome e
MayCome (Transcript e) = TranscriptMayCome e
MayCome OutOfMemory = ⊥
