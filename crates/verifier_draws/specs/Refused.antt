-- A transcript's refusals as a verifier's.
use Rattle.batch_statement.specs.declared.error.BatchVerificationError.{BatchVerificationError}
use Rattle.batch_statement.specs.declared.error.BatchVerificationError.TheVariants.{Transcript, OutOfMemory}
use Rattle.batch_transcript.specs.declared.failure.TranscriptError.{TranscriptError}
use Rattle.batch_transcript.specs.declared.failure.TranscriptError.TheVariants.{WitnessNotFound, Failure, OutOfMemory as NoMemory}

-- a refused grinding value stays one; that none was found is no answer of a verifier's transcript
abbrev pub refusal_of : {R : Type 0} → TranscriptError → BatchVerificationError R
refusal_of WitnessNotFound = OutOfMemory
refusal_of (Failure e) = Transcript e
refusal_of NoMemory = OutOfMemory
