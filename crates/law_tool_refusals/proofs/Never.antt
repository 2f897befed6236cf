-- The line of a refusal that never comes is no answer of the program.
use Rattle.std.proofs.Common.{◌≡◌, ℕ, Bool, true, false, ◌&&◌, ◌||◌, List, [], ◌∷◌, None, Some, inl, inr, refl, sym, ◌∙◌, ap}
use Rattle.std.specs.Prelude.{codes, nat_eq}
use Rattle.std.proofs.lemmas.Bool.{false≢true}
use Rattle.p3_field.specs.declared.baby_bear.BabyBear.{BabyBear}
use Rattle.plain_pcs.specs.declared.error.PlainError.{PlainError}
use Rattle.plain_pcs.specs.declared.error.PlainError.TheVariants.{RoundShape, Dimensions, Degree, Value}
use Rattle.commit_core.specs.declared.periodic.PeriodicColumnShapeError.TheVariants.{LengthNotPowerOfTwo, LengthNotDividingHeight}
use Rattle.p3_uni_stark.specs.declared.error.InvalidProofShapeError.TheVariants.{InstanceCountMismatch, DegreeBitsTooSmall, DegreeBitsTooLarge, QuotientDomainTooLarge, TraceNextMismatch, UnexpectedTraceNext, UnexpectedPreprocessedValues, UnexpectedPreprocessedNext, PublicValuesLengthMismatch, TraceLocalWidthMismatch, QuotientChunksCountMismatch, QuotientChunkDimensionMismatch, PreprocessedWidthMismatch, PreprocessedMetadataMismatch, MissingPreprocessedValues, QuotientDomainsCountMismatch}
use Rattle.p3_uni_stark.specs.declared.error.VerificationError.TheVariants.{InvalidProofShape, InvalidOpeningArgument, OodPointInDomain, OodEvaluationMismatch, RandomizationError, PeriodicColumn}
use Rattle.p3_lookup.specs.declared.terminal.LookupError.TheVariants.{MultiplicityBound, PermutationWidthMismatch, PermutationLengthMismatch, TerminalPresenceMismatch, CommitmentMismatch, TerminalSum}
use Rattle.batch_transcript.specs.declared.failure.BatchTranscriptFailure.TheVariants.{LookupPowWitness, MissingLookupPowWitness, UnexpectedLookupPowWitness, NonCanonicalLookupPowWitness, OodPowWitness, NonCanonicalOodPowWitness}
use Rattle.batch_statement.specs.declared.error.BatchVerificationError.{BatchVerificationError}
use Rattle.batch_statement.specs.declared.error.BatchVerificationError.TheVariants.{Verification, Lookup, Transcript, OutOfMemory}
use Rattle.transcript_version.specs.declared.TranscriptVersion.{TranscriptVersion}
use Rattle.transcript_version.specs.declared.TranscriptVersion.TheVariants.{V2}
use Rattle.tool_verifier.specs.FileAnswer.{mismatch_text}
use Rattle.law_tool_valid.specs.Job.{JobTable}
use Rattle.tool_verifier.specs.Refusals.{fault_text, refused_text}
use Rattle.tool_verifier.specs.declared.status.Status.TheVariants.{Refused}
use Rattle.tool_demo.specs.Demo.{demo_job}
use Rattle.tool_demo.specs.DemoAnswer.{IsDemoAnswer}
use Rattle.tool_prover.specs.JobAnswer.{IsJobAnswer, IsRefusedText}
use Rattle.batch_tool.specs.Answer.{IsAnswer, IsCommandAnswer}
use Rattle.batch_tool.specs.declared.command.Command.{Command}
use Rattle.batch_tool.specs.declared.command.Command.TheVariants.{Prove, Verify, Balance, Demo}
use Rattle.law_tool_refusals.specs.Lines.{IsPossibleLine}
use Rattle.law_tool_refusals.specs.Possible.{MayCome}
use Rattle.law_tool_refusals.proofs.Files.{balance_may_come, line_may_come}

-- a text begins with another
abbrev begins : List ℕ → List ℕ → Bool
begins [] text = true
begins (x ∷ xs) [] = false
begins (x ∷ xs) (y ∷ ys) = nat_eq x y && begins xs ys

abbrev begins_some : List (List ℕ) → List ℕ → Bool
begins_some [] text = false
begins_some (front ∷ fronts) text = begins front text || begins_some fronts text

-- how the lines of those begin that never come; a line that names no table ends after the name
abbrev never : List (List ℕ)
never =
    codes "refused TraceNextMismatch\n"
    ∷ codes "refused UnexpectedTraceNext\n"
    ∷ codes "refused UnexpectedPreprocessedValues\n"
    ∷ codes "refused UnexpectedPreprocessedNext\n"
    ∷ codes "refused OodEvaluationMismatch\n"
    ∷ codes "refused DegreeBitsTooSmall"
    ∷ codes "refused DegreeBitsTooLarge"
    ∷ codes "refused QuotientDomainTooLarge"
    ∷ codes "refused PublicValuesLengthMismatch"
    ∷ codes "refused PreprocessedMetadataMismatch"
    ∷ codes "refused MissingPreprocessedValues"
    ∷ codes "refused QuotientDomainsCountMismatch"
    ∷ codes "refused PeriodicColumn"
    ∷ codes "refused MultiplicityBound"
    ∷ codes "refused PermutationLengthMismatch"
    ∷ codes "refused NonCanonicalLookupPowWitness"
    ∷ codes "refused NonCanonicalOodPowWitness"
    ∷ codes "refused \n"
    ∷ []

possible : (e : BatchVerificationError PlainError) → MayCome e → begins_some never (fault_text e) ≡ false
unfolding fault_text
possible (Verification (InvalidProofShape InstanceCountMismatch)) m = refl
possible (Verification (InvalidProofShape (TraceNextMismatch (Some i)))) m = refl
possible (Verification (InvalidProofShape (UnexpectedTraceNext (Some i)))) m = refl
possible (Verification (InvalidProofShape (UnexpectedPreprocessedValues (Some i)))) m = refl
possible (Verification (InvalidProofShape (UnexpectedPreprocessedNext (Some i)))) m = refl
possible (Verification (InvalidProofShape (TraceLocalWidthMismatch air expected got))) m = refl
possible (Verification (InvalidProofShape (QuotientChunksCountMismatch air expected got))) m = refl
possible (Verification (InvalidProofShape (QuotientChunkDimensionMismatch air))) m = refl
possible (Verification (InvalidProofShape (PreprocessedWidthMismatch air))) m = refl
possible (Verification (InvalidOpeningArgument (RoundShape round))) m = refl
possible (Verification (InvalidOpeningArgument (Dimensions round matrix))) m = refl
possible (Verification (InvalidOpeningArgument (Degree round matrix column))) m = refl
possible (Verification (InvalidOpeningArgument (Value round matrix at column))) m = refl
possible (Verification OodPointInDomain) m = refl
possible (Verification (OodEvaluationMismatch (Some i))) m = refl
possible (Verification RandomizationError) m = refl
possible (Lookup (PermutationWidthMismatch air expected)) m = refl
possible (Lookup (TerminalPresenceMismatch air expected got)) m = refl
possible (Lookup CommitmentMismatch) m = refl
possible (Lookup TerminalSum) m = refl
possible (Transcript (LookupPowWitness bits)) m = refl
possible (Transcript (MissingLookupPowWitness bits)) m = refl
possible (Transcript UnexpectedLookupPowWitness) m = refl
possible (Transcript (OodPowWitness bits)) m = refl
possible (Verification (InvalidProofShape (TraceNextMismatch None))) m = absurd m
possible (Verification (InvalidProofShape (UnexpectedTraceNext None))) m = absurd m
possible (Verification (InvalidProofShape (UnexpectedPreprocessedValues None))) m = absurd m
possible (Verification (InvalidProofShape (UnexpectedPreprocessedNext None))) m = absurd m
possible (Verification (InvalidProofShape (DegreeBitsTooSmall air least got))) m = absurd m
possible (Verification (InvalidProofShape (DegreeBitsTooLarge air most got))) m = absurd m
possible (Verification (InvalidProofShape (QuotientDomainTooLarge air most got))) m = absurd m
possible (Verification (InvalidProofShape (PublicValuesLengthMismatch expected got))) m = absurd m
possible (Verification (InvalidProofShape (PreprocessedMetadataMismatch air))) m = absurd m
possible (Verification (InvalidProofShape (MissingPreprocessedValues air))) m = absurd m
possible (Verification (InvalidProofShape (QuotientDomainsCountMismatch air))) m = absurd m
possible (Verification (OodEvaluationMismatch None)) m = absurd m
possible (Verification (PeriodicColumn (LengthNotPowerOfTwo index long))) m = absurd m
possible (Verification (PeriodicColumn (LengthNotDividingHeight index long high))) m = absurd m
possible (Lookup (MultiplicityBound bus)) m = absurd m
possible (Lookup (PermutationLengthMismatch air)) m = absurd m
possible (Transcript NonCanonicalLookupPowWitness) m = absurd m
possible (Transcript NonCanonicalOodPowWitness) m = absurd m
possible OutOfMemory m = absurd m

impossible : (e : BatchVerificationError PlainError) → (MayCome e → ⊥) → begins_some never (fault_text e) ≡ true
unfolding fault_text
impossible (Verification (InvalidProofShape (TraceNextMismatch None))) n = refl
impossible (Verification (InvalidProofShape (UnexpectedTraceNext None))) n = refl
impossible (Verification (InvalidProofShape (UnexpectedPreprocessedValues None))) n = refl
impossible (Verification (InvalidProofShape (UnexpectedPreprocessedNext None))) n = refl
impossible (Verification (InvalidProofShape (DegreeBitsTooSmall air least got))) n = refl
impossible (Verification (InvalidProofShape (DegreeBitsTooLarge air most got))) n = refl
impossible (Verification (InvalidProofShape (QuotientDomainTooLarge air most got))) n = refl
impossible (Verification (InvalidProofShape (PublicValuesLengthMismatch expected got))) n = refl
impossible (Verification (InvalidProofShape (PreprocessedMetadataMismatch air))) n = refl
impossible (Verification (InvalidProofShape (MissingPreprocessedValues air))) n = refl
impossible (Verification (InvalidProofShape (QuotientDomainsCountMismatch air))) n = refl
impossible (Verification (OodEvaluationMismatch None)) n = refl
impossible (Verification (PeriodicColumn (LengthNotPowerOfTwo index long))) n = refl
impossible (Verification (PeriodicColumn (LengthNotDividingHeight index long high))) n = refl
impossible (Lookup (MultiplicityBound bus)) n = refl
impossible (Lookup (PermutationLengthMismatch air)) n = refl
impossible (Transcript NonCanonicalLookupPowWitness) n = refl
impossible (Transcript NonCanonicalOodPowWitness) n = refl
impossible OutOfMemory n = refl
impossible (Verification (InvalidProofShape InstanceCountMismatch)) n = absurd (n tt)
impossible (Verification (InvalidProofShape (TraceNextMismatch (Some i)))) n = absurd (n tt)
impossible (Verification (InvalidProofShape (UnexpectedTraceNext (Some i)))) n = absurd (n tt)
impossible (Verification (InvalidProofShape (UnexpectedPreprocessedValues (Some i)))) n = absurd (n tt)
impossible (Verification (InvalidProofShape (UnexpectedPreprocessedNext (Some i)))) n = absurd (n tt)
impossible (Verification (InvalidProofShape (TraceLocalWidthMismatch air expected got))) n = absurd (n tt)
impossible (Verification (InvalidProofShape (QuotientChunksCountMismatch air expected got))) n = absurd (n tt)
impossible (Verification (InvalidProofShape (QuotientChunkDimensionMismatch air))) n = absurd (n tt)
impossible (Verification (InvalidProofShape (PreprocessedWidthMismatch air))) n = absurd (n tt)
impossible (Verification (InvalidOpeningArgument (RoundShape round))) n = absurd (n tt)
impossible (Verification (InvalidOpeningArgument (Dimensions round matrix))) n = absurd (n tt)
impossible (Verification (InvalidOpeningArgument (Degree round matrix column))) n = absurd (n tt)
impossible (Verification (InvalidOpeningArgument (Value round matrix at column))) n = absurd (n tt)
impossible (Verification OodPointInDomain) n = absurd (n tt)
impossible (Verification (OodEvaluationMismatch (Some i))) n = absurd (n tt)
impossible (Verification RandomizationError) n = absurd (n tt)
impossible (Lookup (PermutationWidthMismatch air expected)) n = absurd (n tt)
impossible (Lookup (TerminalPresenceMismatch air expected got)) n = absurd (n tt)
impossible (Lookup CommitmentMismatch) n = absurd (n tt)
impossible (Lookup TerminalSum) n = absurd (n tt)
impossible (Transcript (LookupPowWitness bits)) n = absurd (n tt)
impossible (Transcript (MissingLookupPowWitness bits)) n = absurd (n tt)
impossible (Transcript UnexpectedLookupPowWitness) n = absurd (n tt)
impossible (Transcript (OodPowWitness bits)) n = absurd (n tt)

mismatched : (i : ℕ) → begins_some never (mismatch_text i) ≡ false
mismatched i = refl

possible_line : (text : List ℕ) → IsPossibleLine text → begins_some never text ≡ false
possible_line text h = elim h [
  | inl m ↦ ap (begins_some never) m.1 ∙ mismatched m.0
  | inr f ↦ ap (begins_some never) f.2 ∙ possible f.0 f.1
]

-- and so are those of the refusals of `prove`
unbalanced_line : (value : ℕ) → begins_some never (refused_text (codes "Unbalanced") (value ∷ [])) ≡ false
unbalanced_line value = refl

zero_line : (table row : ℕ) → begins_some never (refused_text (codes "LookupDenominatorZero") (table ∷ row ∷ [])) ≡ false
zero_line table row = refl

prove_line : (version : TranscriptVersion) (job : List (JobTable BabyBear)) (text : List ℕ) → IsRefusedText version job text → begins_some never text ≡ false
prove_line version job text h = elim h [
  | inl unbalanced ↦ ap (begins_some never) unbalanced.2 ∙ unbalanced_line unbalanced.0.value
  | inr balanced ↦ elim balanced.1 [
    | inl lookup ↦ ap (begins_some never) lookup.1
    | inr rest ↦ elim rest [
      | inl zero ↦ ap (begins_some never) zero.3 ∙ zero_line zero.0 zero.1
      | inr later ↦ elim later [ inl ood ↦ ap (begins_some never) ood.1 | inr inside ↦ ap (begins_some never) inside.1 ]
    ]
  ]
]

-- of each command
command_line : (command : Command) (bytes text : List ℕ) → IsCommandAnswer command bytes Refused text → begins_some never text ≡ false
unfolding IsDemoAnswer IsJobAnswer
command_line (Prove version) bytes text a = prove_line version a.0 text a.3
command_line Verify bytes text a = possible_line text (line_may_come bytes text a)
command_line Balance bytes text a = possible_line text (balance_may_come bytes text a)
command_line (Demo number) bytes text a = prove_line V2 (demo_job number) text a

pub never_answered : (words : List (List ℕ)) (bytes : List ℕ) (e : BatchVerificationError PlainError) → (MayCome e → ⊥) → IsAnswer words bytes Refused (fault_text e) → ⊥
never_answered words bytes e n a = false≢true (sym (command_line a.0 bytes (fault_text e) a.2) ∙ impossible e n)
