-- The lines that say why `verify` refuses: the name of the first check that fails, and its numbers in decimal, in the order of the
-- refusal's fields. An absent number isn't written, and a truth is 1 or 0.
use Rattle.std.specs.Prelude.{ℕ, List, [], ◌∷◌, ◌++◌, flat_map, decimal, codes, cond, Option, None, Some}
use Rattle.plain_pcs.specs.declared.error.PlainError.{PlainError}
use Rattle.plain_pcs.specs.declared.error.PlainError.TheVariants.{RoundShape, Dimensions, Degree, Value}
use Rattle.commit_core.specs.declared.periodic.PeriodicColumnShapeError.{PeriodicColumnShapeError}
use Rattle.commit_core.specs.declared.periodic.PeriodicColumnShapeError.TheVariants.{LengthNotPowerOfTwo, LengthNotDividingHeight}
use Rattle.p3_uni_stark.specs.declared.error.InvalidProofShapeError.{InvalidProofShapeError}
use Rattle.p3_uni_stark.specs.declared.error.InvalidProofShapeError.TheVariants.{InstanceCountMismatch, DegreeBitsTooSmall, DegreeBitsTooLarge, QuotientDomainTooLarge, TraceNextMismatch, UnexpectedTraceNext, UnexpectedPreprocessedValues, UnexpectedPreprocessedNext, PublicValuesLengthMismatch, TraceLocalWidthMismatch, QuotientChunksCountMismatch, QuotientChunkDimensionMismatch, PreprocessedWidthMismatch, PreprocessedMetadataMismatch, MissingPreprocessedValues, QuotientDomainsCountMismatch}
use Rattle.p3_uni_stark.specs.declared.error.VerificationError.{VerificationError}
use Rattle.p3_uni_stark.specs.declared.error.VerificationError.TheVariants.{InvalidProofShape, InvalidOpeningArgument, OodPointInDomain, OodEvaluationMismatch, RandomizationError, PeriodicColumn}
use Rattle.p3_lookup.specs.declared.terminal.LookupError.{LookupError}
use Rattle.p3_lookup.specs.declared.terminal.LookupError.TheVariants.{MultiplicityBound, PermutationWidthMismatch, PermutationLengthMismatch, TerminalPresenceMismatch, CommitmentMismatch, TerminalSum}
use Rattle.batch_transcript.specs.declared.failure.BatchTranscriptFailure.{BatchTranscriptFailure}
use Rattle.batch_transcript.specs.declared.failure.BatchTranscriptFailure.TheVariants.{LookupPowWitness, MissingLookupPowWitness, UnexpectedLookupPowWitness, NonCanonicalLookupPowWitness, OodPowWitness, NonCanonicalOodPowWitness}
use Rattle.batch_statement.specs.declared.error.BatchVerificationError.{BatchVerificationError}
use Rattle.batch_statement.specs.declared.error.BatchVerificationError.TheVariants.{Verification, Lookup, Transcript, OutOfMemory}

-- a space and the decimal digits of each number
abbrev pub spaced : List ℕ → List ℕ
spaced numbers = flat_map (λ n. 32 ∷ decimal n) numbers

-- the number, where there is one
abbrev pub known : Option ℕ → List ℕ
known None = []
known (Some n) = n ∷ []

-- the plain scheme's refusals, after the name of the openings' check
abbrev pub plain_name : PlainError → List ℕ
plain_name (RoundShape round) = codes "InvalidOpeningArgument RoundShape"
plain_name (Dimensions round matrix) = codes "InvalidOpeningArgument Dimensions"
plain_name (Degree round matrix column) = codes "InvalidOpeningArgument Degree"
plain_name (Value round matrix at column) = codes "InvalidOpeningArgument Value"

abbrev pub plain_numbers : PlainError → List ℕ
plain_numbers (RoundShape round) = round ∷ []
plain_numbers (Dimensions round matrix) = round ∷ matrix ∷ []
plain_numbers (Degree round matrix column) = round ∷ matrix ∷ column ∷ []
plain_numbers (Value round matrix at column) = round ∷ matrix ∷ at ∷ column ∷ []

-- the refusals of periodic columns, after the name of their check
abbrev pub periodic_name : PeriodicColumnShapeError → List ℕ
periodic_name (LengthNotPowerOfTwo index long) = codes "PeriodicColumn LengthNotPowerOfTwo"
periodic_name (LengthNotDividingHeight index long high) = codes "PeriodicColumn LengthNotDividingHeight"

abbrev pub periodic_numbers : PeriodicColumnShapeError → List ℕ
periodic_numbers (LengthNotPowerOfTwo index long) = index ∷ long ∷ []
periodic_numbers (LengthNotDividingHeight index long high) = index ∷ long ∷ high ∷ []

-- the refusals of a proof's shape
abbrev pub shape_name : InvalidProofShapeError → List ℕ
shape_name InstanceCountMismatch = codes "InstanceCountMismatch"
shape_name (DegreeBitsTooSmall air least got) = codes "DegreeBitsTooSmall"
shape_name (DegreeBitsTooLarge air most got) = codes "DegreeBitsTooLarge"
shape_name (QuotientDomainTooLarge air most got) = codes "QuotientDomainTooLarge"
shape_name (TraceNextMismatch air) = codes "TraceNextMismatch"
shape_name (UnexpectedTraceNext air) = codes "UnexpectedTraceNext"
shape_name (UnexpectedPreprocessedValues air) = codes "UnexpectedPreprocessedValues"
shape_name (UnexpectedPreprocessedNext air) = codes "UnexpectedPreprocessedNext"
shape_name (PublicValuesLengthMismatch expected got) = codes "PublicValuesLengthMismatch"
shape_name (TraceLocalWidthMismatch air expected got) = codes "TraceLocalWidthMismatch"
shape_name (QuotientChunksCountMismatch air expected got) = codes "QuotientChunksCountMismatch"
shape_name (QuotientChunkDimensionMismatch air) = codes "QuotientChunkDimensionMismatch"
shape_name (PreprocessedWidthMismatch air) = codes "PreprocessedWidthMismatch"
shape_name (PreprocessedMetadataMismatch air) = codes "PreprocessedMetadataMismatch"
shape_name (MissingPreprocessedValues air) = codes "MissingPreprocessedValues"
shape_name (QuotientDomainsCountMismatch air) = codes "QuotientDomainsCountMismatch"

abbrev pub shape_numbers : InvalidProofShapeError → List ℕ
shape_numbers InstanceCountMismatch = []
shape_numbers (DegreeBitsTooSmall air least got) = known air ++ least ∷ got ∷ []
shape_numbers (DegreeBitsTooLarge air most got) = known air ++ most ∷ got ∷ []
shape_numbers (QuotientDomainTooLarge air most got) = known air ++ most ∷ got ∷ []
shape_numbers (TraceNextMismatch air) = known air
shape_numbers (UnexpectedTraceNext air) = known air
shape_numbers (UnexpectedPreprocessedValues air) = known air
shape_numbers (UnexpectedPreprocessedNext air) = known air
shape_numbers (PublicValuesLengthMismatch expected got) = expected ∷ got ∷ []
shape_numbers (TraceLocalWidthMismatch air expected got) = air ∷ expected ∷ got ∷ []
shape_numbers (QuotientChunksCountMismatch air expected got) = air ∷ expected ∷ got ∷ []
shape_numbers (QuotientChunkDimensionMismatch air) = air ∷ []
shape_numbers (PreprocessedWidthMismatch air) = air ∷ []
shape_numbers (PreprocessedMetadataMismatch air) = air ∷ []
shape_numbers (MissingPreprocessedValues air) = air ∷ []
shape_numbers (QuotientDomainsCountMismatch air) = air ∷ []

-- the refusals of the tables' checks
abbrev pub verification_name : VerificationError PlainError → List ℕ
verification_name (InvalidProofShape e) = shape_name e
verification_name (InvalidOpeningArgument e) = plain_name e
verification_name OodPointInDomain = codes "OodPointInDomain"
verification_name (OodEvaluationMismatch index) = codes "OodEvaluationMismatch"
verification_name RandomizationError = codes "RandomizationError"
verification_name (PeriodicColumn e) = periodic_name e

abbrev pub verification_numbers : VerificationError PlainError → List ℕ
verification_numbers (InvalidProofShape e) = shape_numbers e
verification_numbers (InvalidOpeningArgument e) = plain_numbers e
verification_numbers OodPointInDomain = []
verification_numbers (OodEvaluationMismatch index) = known index
verification_numbers RandomizationError = []
verification_numbers (PeriodicColumn e) = periodic_numbers e

-- the refusals of the lookups' checks
abbrev pub lookup_name : LookupError → List ℕ
lookup_name (MultiplicityBound bus) = codes "MultiplicityBound"
lookup_name (PermutationWidthMismatch air expected) = codes "PermutationWidthMismatch"
lookup_name (PermutationLengthMismatch air) = codes "PermutationLengthMismatch"
lookup_name (TerminalPresenceMismatch air expected got) = codes "TerminalPresenceMismatch"
lookup_name CommitmentMismatch = codes "CommitmentMismatch"
lookup_name TerminalSum = codes "TerminalSum"

abbrev pub lookup_numbers : LookupError → List ℕ
lookup_numbers (MultiplicityBound bus) = bus ∷ []
lookup_numbers (PermutationWidthMismatch air expected) = air ∷ expected ∷ []
lookup_numbers (PermutationLengthMismatch air) = air ∷ []
lookup_numbers (TerminalPresenceMismatch air expected got) = air ∷ cond expected 1 0 ∷ cond got 1 0 ∷ []
lookup_numbers CommitmentMismatch = []
lookup_numbers TerminalSum = []

-- the refusals of grinding values
abbrev pub transcript_name : BatchTranscriptFailure → List ℕ
transcript_name (LookupPowWitness bits) = codes "LookupPowWitness"
transcript_name (MissingLookupPowWitness bits) = codes "MissingLookupPowWitness"
transcript_name UnexpectedLookupPowWitness = codes "UnexpectedLookupPowWitness"
transcript_name NonCanonicalLookupPowWitness = codes "NonCanonicalLookupPowWitness"
transcript_name (OodPowWitness bits) = codes "OodPowWitness"
transcript_name NonCanonicalOodPowWitness = codes "NonCanonicalOodPowWitness"

abbrev pub transcript_numbers : BatchTranscriptFailure → List ℕ
transcript_numbers (LookupPowWitness bits) = bits ∷ []
transcript_numbers (MissingLookupPowWitness bits) = bits ∷ []
transcript_numbers UnexpectedLookupPowWitness = []
transcript_numbers NonCanonicalLookupPowWitness = []
transcript_numbers (OodPowWitness bits) = bits ∷ []
transcript_numbers NonCanonicalOodPowWitness = []

-- a refusal of a batch proof; out of memory is none, and has no name
abbrev pub fault_name : BatchVerificationError PlainError → List ℕ
fault_name (Verification e) = verification_name e
fault_name (Lookup e) = lookup_name e
fault_name (Transcript e) = transcript_name e
fault_name OutOfMemory = []

abbrev pub fault_numbers : BatchVerificationError PlainError → List ℕ
fault_numbers (Verification e) = verification_numbers e
fault_numbers (Lookup e) = lookup_numbers e
fault_numbers (Transcript e) = transcript_numbers e
fault_numbers OutOfMemory = []

-- the line: `refused`, the name, the numbers
abbrev pub refused_text : (name : List ℕ) → List ℕ → List ℕ
refused_text name numbers = codes "refused " ++ name ++ spaced numbers ++ 10 ∷ []

unfoldable pub fault_text : BatchVerificationError PlainError → List ℕ
fault_text e = refused_text (fault_name e) (fault_numbers e)
