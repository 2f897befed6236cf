-- A verifier's transcript decides the checks of both grinding values.
use Rattle.std.proofs.Common.{◌≡◌, ℕ, List, [], sym, subst}
use Rattle.p3_field.specs.Checks.{NoneFails, FirstFails}
use Rattle.p3_field.specs.Laws.Checks.{first_stops, first_after, none_append}
use Rattle.p3_field.specs.Ring.{Ring}
use Rattle.p3_challenger.specs.Script.{ChallengerOf}
use Rattle.batch_transcript.specs.BatchScript.{BatchShapeData, Given, draws, seeded, script_to_lookup, script_to_ood}
use Rattle.batch_transcript.specs.Grinding.{IsTaken, IsPairTaken, OodRefusal, PairRefusal, VerifierFails}
use Rattle.batch_transcript.specs.Running.{Running, Plays}
use Rattle.batch_transcript.specs.Laws.Runs.{tells-tests}
use Rattle.batch_transcript.specs.declared.failure.BatchTranscriptFailure.{BatchTranscriptFailure}
use Rattle.batch_transcript.specs.declared.failure.TranscriptError.{TranscriptError}
use Rattle.batch_transcript.specs.declared.failure.TranscriptError.TheVariants.{WitnessNotFound, Failure, OutOfMemory as NoMemory}
use Rattle.batch_statement.specs.declared.error.BatchVerificationError.{BatchVerificationError}
use Rattle.batch_statement.specs.declared.error.BatchVerificationError.TheVariants.{Transcript}
use Rattle.batch_statement.specs.Verdict.{IsRefusal}
use Rattle.verifier_draws.specs.Draws.{lookup_grinding, ood_grinding, grinding_by}
use Rattle.verifier_draws.specs.Refused.{refusal_of}
use Rattle.verifier_draws.proofs.Refusals.{refused_pair, taken_pair, refused_ood, taken_ood}

module _ {S F E M : Type 0} (R : Type 0) (c : ChallengerOf S F E M) (f : Ring F) (r : Ring E) (d : ℕ) (initial : S) (s : BatchShapeData) (g : Given F E M) where
  -- the lookups' value is refused
  pub lookup_refused : (x0 x3 : Running S) → x0.state ≡ seeded c f d s initial → x3.shape ≡ s → Plays c (script_to_lookup r d g) x0 x3 []
      → (error : TranscriptError) (e : BatchVerificationError R)
      → VerifierFails (PairRefusal c f x3.state x3.shape.num_lookup_instances x3.shape.lookup_pow_bits g.lookup_witness) error → e ≡ refusal_of error
      → IsRefusal (grinding_by f.zero s g.lookup_witness g.ood_witness (draws c f r d initial s g)) e
  lookup_refused x0 x3 h shape q3 (Failure x) e k q =
      let v = draws c f r d initial s g in
      let k3 : PairRefusal c f x3.state s.num_lookup_instances s.lookup_pow_bits g.lookup_witness x =
      subst (λ z. PairRefusal c f x3.state z.num_lookup_instances z.lookup_pow_bits g.lookup_witness x) shape k in
      subst (IsRefusal (grinding_by f.zero s g.lookup_witness g.ood_witness v)) (sym q)
      (first_stops (lookup_grinding f.zero s.num_lookup_instances s.lookup_pow_bits g.lookup_witness v.lookup_passed) (ood_grinding f.zero s.ood_pow_bits g.ood_witness v.ood_passed) (Transcript x)
      (refused_pair R c f x3.state s.num_lookup_instances s.lookup_pow_bits g.lookup_witness x v.lookup_passed ((tells-tests c f r d initial s g).lookup x0 x3 [] h q3) k3))
  lookup_refused x0 x3 h shape q3 WitnessNotFound e k q = absurd k
  lookup_refused x0 x3 h shape q3 NoMemory e k q = subst (IsRefusal (grinding_by f.zero s g.lookup_witness g.ood_witness (draws c f r d initial s g))) (sym q) tt

  -- it is taken, and the value before zeta refused
  pub ood_refused : (x0 x3 x6 : Running S) (drawn : List E) → x0.state ≡ seeded c f d s initial → x3.shape ≡ s → x6.shape ≡ s
      → Plays c (script_to_lookup r d g) x0 x3 [] → Plays c (script_to_ood r d s g) x0 x6 drawn
      → IsPairTaken c f x3.state x3.shape.num_lookup_instances x3.shape.lookup_pow_bits g.lookup_witness
      → (e : BatchTranscriptFailure) → OodRefusal c f x6.state x6.shape.ood_pow_bits g.ood_witness e
      → FirstFails (grinding_by {R = R} f.zero s g.lookup_witness g.ood_witness (draws c f r d initial s g)) (Transcript e)
  ood_refused x0 x3 x6 drawn h shape3 shape6 q3 q6 taken e k =
      let v = draws c f r d initial s g in
      let tests = tells-tests c f r d initial s g in
      let t3 : IsPairTaken c f x3.state s.num_lookup_instances s.lookup_pow_bits g.lookup_witness =
      subst (λ z. IsPairTaken c f x3.state z.num_lookup_instances z.lookup_pow_bits g.lookup_witness) shape3 taken in
      let k6 : OodRefusal c f x6.state s.ood_pow_bits g.ood_witness e = subst (λ z. OodRefusal c f x6.state z.ood_pow_bits g.ood_witness e) shape6 k in
      first_after (lookup_grinding f.zero s.num_lookup_instances s.lookup_pow_bits g.lookup_witness v.lookup_passed) (ood_grinding f.zero s.ood_pow_bits g.ood_witness v.ood_passed) (Transcript e)
      (taken_pair R c f x3.state s.num_lookup_instances s.lookup_pow_bits g.lookup_witness v.lookup_passed (tests.lookup x0 x3 [] h q3) t3)
      (refused_ood R c f x6.state s.ood_pow_bits g.ood_witness e v.ood_passed (tests.ood x0 x6 drawn h q6) k6)

  -- both are taken
  pub all_taken : (x0 x3 x6 : Running S) (drawn : List E) → x0.state ≡ seeded c f d s initial → x3.shape ≡ s → x6.shape ≡ s
      → Plays c (script_to_lookup r d g) x0 x3 [] → Plays c (script_to_ood r d s g) x0 x6 drawn
      → IsPairTaken c f x3.state x3.shape.num_lookup_instances x3.shape.lookup_pow_bits g.lookup_witness
      → IsTaken c f x6.state x6.shape.ood_pow_bits g.ood_witness
      → NoneFails (grinding_by {R = R} f.zero s g.lookup_witness g.ood_witness (draws c f r d initial s g))
  all_taken x0 x3 x6 drawn h shape3 shape6 q3 q6 taken k =
      let v = draws c f r d initial s g in
      let tests = tells-tests c f r d initial s g in
      let t3 : IsPairTaken c f x3.state s.num_lookup_instances s.lookup_pow_bits g.lookup_witness =
      subst (λ z. IsPairTaken c f x3.state z.num_lookup_instances z.lookup_pow_bits g.lookup_witness) shape3 taken in
      let k6 : IsTaken c f x6.state s.ood_pow_bits g.ood_witness = subst (λ z. IsTaken c f x6.state z.ood_pow_bits g.ood_witness) shape6 k in
      none_append (lookup_grinding f.zero s.num_lookup_instances s.lookup_pow_bits g.lookup_witness v.lookup_passed) (ood_grinding f.zero s.ood_pow_bits g.ood_witness v.ood_passed)
      (taken_pair R c f x3.state s.num_lookup_instances s.lookup_pow_bits g.lookup_witness v.lookup_passed (tests.lookup x0 x3 [] h q3) t3)
      (taken_ood R c f x6.state s.ood_pow_bits g.ood_witness v.ood_passed (tests.ood x0 x6 drawn h q6) k6)
