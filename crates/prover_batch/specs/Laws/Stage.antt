-- The facts of a prover's stages, over a batch: what was asked and answered is what the honest proof is made of.
use Rattle.std.proofs.Common.{◌≡◌, ℕ, List, [], ◌∷◌, ◌++◌, Option, None, Some, refl, sym, ap, subst}
use Rattle.std.specs.Prelude.{option_map}
use Rattle.p3_field.specs.Checks.{Check, NoneFails}
use Rattle.p3_field.specs.Laws.Checks.{none_alone}
use Rattle.commit_core.specs.Commitments.{Committed, IsCommitment}
use Rattle.p3_field.specs.Ring.{Ring}
use Rattle.p3_matrix.specs.Matrix.{Rows}
use Rattle.batch_config.specs.Setting.{Setting}
use Rattle.batch_statement.specs.Statement.{Statement}
use Rattle.batch_transcript.specs.Grinding.{IsGround, IsPairGround, LacksPairGround, NonePasses, ProverFails}
use Rattle.batch_transcript.specs.Running.{Running}
use Rattle.batch_transcript.specs.declared.failure.GrindStep.TheVariants.{Lookup, Ood}
use Rattle.batch_transcript.specs.declared.failure.TranscriptError.{TranscriptError}
use Rattle.batch_transcript.specs.declared.failure.TranscriptError.TheVariants.{WitnessNotFound as NotFound, Failure, OutOfMemory as NoMemory}
use Rattle.law_honest.specs.HonestProof.{AreCanonical, HaveFractions, IsLookupGround, IsOodGround, LacksLookupGround, LacksOodGround, Prover, committed_where, shape, state_at_ood, state_at_pair}
use Rattle.law_honest.specs.Laws.Ground.{lookup_event, ood_event}
use Rattle.prover_answer.specs.Batch.{Batch, CommitsToSome}
use Rattle.prover_answer.specs.Laws.Verdicts.{answer_past, refused_here}
use Rattle.prover_answer.specs.Proving.{lookup_part, ood_part}
use Rattle.prover_answer.specs.Verdict.{IsAnswerRefusal}
use Rattle.prover_quotients.specs.Laws.ProverData.{keeps_of}
use Rattle.prover_quotients.specs.Tables.{HasProverDataOfSome}
use Rattle.prover_answer.specs.declared.error.ProvingError.{ProvingError}
use Rattle.prover_answer.specs.declared.error.ProvingError.TheVariants.{OutOfMemory, WitnessNotFound}

-- the commitment to matrices is one function of them, where something is committed
pub commitment_is : {M C D : Type 0} (commits : List M → C × D → Type 0) (commitment_of : List M → C) → ((ms : List M) (x : C × D) → commits ms x → x.0 ≡ commitment_of ms)
    → (ms : List M) (o : Option (C × D)) → CommitsToSome commits ms o → option_map (λ x. x.0) o ≡ committed_where commitment_of ms
commitment_is commits commitment_of one [] None h = refl
commitment_is commits commitment_of one [] (Some x) h = absurd h
commitment_is commits commitment_of one (m ∷ ms) None h = absurd h
commitment_is commits commitment_of one (m ∷ ms) (Some x) h = ap Some (one (m ∷ ms) x h)

-- what is kept beside it
pub kept_as : {M C D : Type 0} (commits : List M → C × D → Type 0) (ms : List M) (o : Option (C × D)) (q : Option D) → option_map (λ x. x.1) o ≡ q → CommitsToSome commits ms o → HasProverDataOfSome commits ms q
kept_as commits ms o q e h = subst (HasProverDataOfSome commits ms) e (keeps_of commits ms o h)

-- so is what a backend gives where it commits
pub committed_part : {F D C P : Type 0} (r : Ring F) (points : D → ℕ) (point_at : D → ℕ → F) (commits : List (D × Rows F) → C → Type 0) (made : P → Type 0) (holds : P → C → List (Committed F) → Type 0) (commitment_of : List (D × Rows F) → C)
    → ((es : List (D × Rows F)) (x : C) → commits es x → x ≡ commitment_of es)
    → (ms : List (D × Rows F)) (o : Option (C × P)) → CommitsToSome (λ es w. IsCommitment r points point_at commits made holds es w) ms o → option_map (λ x. x.0) o ≡ committed_where commitment_of ms
committed_part r points point_at commits made holds commitment_of one ms o h =
    commitment_is (λ es w. IsCommitment r points point_at commits made holds es w) commitment_of (λ es w k. one es w.0 k.commitment_is) ms o h

pub kept_part : {F D C P : Type 0} (r : Ring F) (points : D → ℕ) (point_at : D → ℕ → F) (commits : List (D × Rows F) → C → Type 0) (made : P → Type 0) (holds : P → C → List (Committed F) → Type 0)
    (ms : List (D × Rows F)) (o : Option (C × P)) (q : Option P) → option_map (λ x. x.1) o ≡ q
    → CommitsToSome (λ es w. IsCommitment r points point_at commits made holds es w) ms o → HasProverDataOfSome (λ es w. IsCommitment r points point_at commits made holds es w) ms q
kept_part r points point_at commits made holds ms o q e h = kept_as (λ es w. IsCommitment r points point_at commits made holds es w) ms o q e h

module _ {S F E C : Type 0} (c : Setting S F E C) (p : Prover F E C) (s : Statement F C) (traces : List (Rows F)) (degree_bits : List ℕ) (K : AreCanonical c.field.ring c.order p.canonical) where
  abbrev b : Batch S F E C
  b = record { setting = c; prover = p; statement = s; traces = traces; degree_bits = degree_bits }

  -- the grinding value before the pair, in the state there
  pub pair_ground : (x : Running S) (w : Option F) → x.state ≡ state_at_pair c p s traces degree_bits → x.shape ≡ shape c p s traces degree_bits
      → IsPairGround c.challenger c.field.ring p.canonical x.state x.shape.num_lookup_instances x.shape.lookup_pow_bits w → IsLookupGround c p s traces degree_bits w
  pair_ground x w here same h =
      subst (λ (st : S). IsPairGround c.challenger c.field.ring p.canonical st (shape c p s traces degree_bits).num_lookup_instances c.lookup_bits w) here
      (subst (λ sh. IsPairGround c.challenger c.field.ring p.canonical x.state sh.num_lookup_instances sh.lookup_pow_bits w) same h)

  pair_lacks : (x : Running S) → x.state ≡ state_at_pair c p s traces degree_bits → x.shape ≡ shape c p s traces degree_bits
      → LacksPairGround c.challenger c.field.ring c.order x.state x.shape.num_lookup_instances x.shape.lookup_pow_bits → LacksLookupGround c p s traces degree_bits
  pair_lacks x here same h =
      subst (λ (st : S). LacksPairGround c.challenger c.field.ring c.order st (shape c p s traces degree_bits).num_lookup_instances c.lookup_bits) here
      (subst (λ sh. LacksPairGround c.challenger c.field.ring c.order x.state sh.num_lookup_instances sh.lookup_pow_bits) same h)

  -- where it is found, some number passes
  pub pair_passes : (R : Type 0) (x : Running S) (w : Option F) → x.state ≡ state_at_pair c p s traces degree_bits → x.shape ≡ shape c p s traces degree_bits
      → IsPairGround c.challenger c.field.ring p.canonical x.state x.shape.num_lookup_instances x.shape.lookup_pow_bits w → NoneFails (lookup_part b {R = R})
  pair_passes R x w here same h = none_alone _ (λ lacks. lookup_event c p s traces degree_bits K w lacks (pair_ground x w here same h))

  -- and a refusal to draw the pair is the prover's
  pub pair_refused : {R : Type 0} (rest : List (Check (ProvingError R))) (x : Running S) (error : TranscriptError) (e : ProvingError R) → x.state ≡ state_at_pair c p s traces degree_bits → x.shape ≡ shape c p s traces degree_bits
      → ProverFails (LacksPairGround c.challenger c.field.ring c.order x.state x.shape.num_lookup_instances x.shape.lookup_pow_bits) error
      → (error ≡ NotFound → e ≡ WitnessNotFound Lookup) → (error ≡ NoMemory → e ≡ OutOfMemory) → IsAnswerRefusal (lookup_part b {R = R} ++ rest) e
  pair_refused rest x NotFound e here same h found memory =
      let lacks = pair_lacks x here same h in
      subst (IsAnswerRefusal (lookup_part b ++ rest)) (sym (found refl)) (refused_here _ rest (WitnessNotFound Lookup) (refl, lacks))
  pair_refused rest x (Failure f) e here same h found memory = absurd h
  pair_refused rest x NoMemory e here same h found memory = subst (IsAnswerRefusal (lookup_part b ++ rest)) (sym (memory refl)) tt

  -- the same of the grinding before the point
  pub ood_ground : (x : Running S) (w : Option F) (z : F) → x.state ≡ state_at_ood c p s traces degree_bits w → x.shape ≡ shape c p s traces degree_bits
      → IsGround c.challenger c.field.ring p.canonical x.state x.shape.ood_pow_bits z → IsOodGround c p s traces degree_bits w z
  ood_ground x w z here same h =
      subst (λ (st : S). IsGround c.challenger c.field.ring p.canonical st c.ood_bits z) here (subst (λ sh. IsGround c.challenger c.field.ring p.canonical x.state sh.ood_pow_bits z) same h)

  pub ood_passes : (R : Type 0) (x : Running S) (w : Option F) (z : F) → x.state ≡ state_at_ood c p s traces degree_bits w → x.shape ≡ shape c p s traces degree_bits → IsLookupGround c p s traces degree_bits w
      → IsGround c.challenger c.field.ring p.canonical x.state x.shape.ood_pow_bits z → NoneFails (ood_part b {R = R})
  ood_passes R x w z here same g h = none_alone _ (λ lacks. ood_event c p s traces degree_bits K w z lacks g (ood_ground x w z here same h))

  pub ood_refused : (R : Type 0) (x : Running S) (w : Option F) → x.state ≡ state_at_ood c p s traces degree_bits w → x.shape ≡ shape c p s traces degree_bits
      → IsLookupGround c p s traces degree_bits w → HaveFractions c p s traces degree_bits w
      → NonePasses c.challenger c.field.ring c.order x.state x.shape.ood_pow_bits → IsAnswerRefusal (ood_part b {R = R}) (WitnessNotFound Ood)
  ood_refused R x w here same g fractions h =
      let none : NonePasses c.challenger c.field.ring c.order (state_at_ood c p s traces degree_bits w) c.ood_bits =
      subst (λ (st : S). NonePasses c.challenger c.field.ring c.order st c.ood_bits) here (subst (λ sh. NonePasses c.challenger c.field.ring c.order x.state sh.ood_pow_bits) same h) in
      let lacks : LacksOodGround c p s traces degree_bits = record { witness = w; is_ground = g; has_fractions = fractions; none = none } in
      refused_here _ [] (WitnessNotFound Ood) (refl, lacks)

  pub ood_refused_past : (R : Type 0) (xs : List (Check (ProvingError R))) (x : Running S) (w : Option F) → NoneFails xs → x.state ≡ state_at_ood c p s traces degree_bits w → x.shape ≡ shape c p s traces degree_bits
      → IsLookupGround c p s traces degree_bits w → HaveFractions c p s traces degree_bits w
      → NonePasses c.challenger c.field.ring c.order x.state x.shape.ood_pow_bits → IsAnswerRefusal (xs ++ ood_part b {R = R}) (WitnessNotFound Ood)
  ood_refused_past R xs x w none here same g fractions h = answer_past xs (ood_part b {R = R}) (WitnessNotFound Ood) none (ood_refused R x w here same g fractions h)
