-- What a run of the phases hands out is what is drawn along the statement and the proof.
use Rattle.std.proofs.Common.{◌≡◌, ℕ, Bool, List, length, map, ◌∙◌, ap, subst, Result, Ok, Err, IfOk}
use Rattle.p3_field.specs.Poly.{tabulate}
use Rattle.p3_field.specs.Ring.{Ring}
use Rattle.p3_challenger.specs.Script.{ChallengerOf}
use Rattle.p3_lookup.specs.Lookup.{LookupData}
use Rattle.transcript_version.specs.declared.TranscriptVersion.{TranscriptVersion}
use Rattle.batch_transcript.specs.BatchScript.{BatchShapeData, Given, draws}
use Rattle.batch_transcript.specs.Buses.{batch_layout}
use Rattle.batch_statement.specs.Proof.{ProofData}
use Rattle.batch_statement.specs.Statement.{Statement}
use Rattle.batch_statement.specs.declared.error.BatchVerificationError.{BatchVerificationError}
use Rattle.batch_statement.specs.Verdict.{IsVerdict}
use Rattle.verifier_draws.specs.declared.draws.Drawn.{Drawn}
use Rattle.verifier_draws.specs.Draws.{drawn, drawn_pair, given_of, grinding_by, grinding_checks, script_shape, table_challenges}
use Rattle.verifier_draws.proofs.Laid.{laid_out_by_table}

module _ {S F E M P : Type 0} (R : Type 0) (k : ChallengerOf S F E M) (f : Ring F) (e : Ring E) (dimension : ℕ) (initial : S) (version : TranscriptVersion) (zk : Bool) (lookup_bits ood_bits : ℕ) (s : Statement F M) (p : ProofData F E M P) where
  drawn_is : (shape : BatchShapeData) (v : Given F E M) → shape ≡ script_shape version zk lookup_bits ood_bits s → v ≡ given_of s p
      → draws k f e dimension initial shape v ≡ drawn k f e dimension initial version zk lookup_bits ood_bits s p
  unfolding drawn
  drawn_is shape v a b = λ i. draws k f e dimension initial (a i) (b i)

  checks_are : (shape : BatchShapeData) (v : Given F E M) → shape ≡ script_shape version zk lookup_bits ood_bits s → v ≡ given_of s p
      → grinding_by {R = R} f.zero shape v.lookup_witness v.ood_witness (draws k f e dimension initial shape v)
      ≡ grinding_checks k f e dimension initial version zk lookup_bits ood_bits s p
  unfolding grinding_checks drawn
  checks_are shape v a b = λ i. grinding_by f.zero (a i) (ap (λ w. w.lookup_witness) b i) (ap (λ w. w.ood_witness) b i) (draws k f e dimension initial (a i) (b i))

  -- the five facts, from what a run along a shape says
  pub record HandsOut (n : ℕ) (r : Result (Drawn E S) (BatchVerificationError R)) : Type 0 where
    pub verdict : IsVerdict (grinding_checks k f e dimension initial version zk lookup_bits ood_bits s p) r
    pub challenges : IfOk r (λ run. map (λ v. v.items) run.challenges.items ≡ tabulate n (table_challenges e (drawn k f e dimension initial version zk lookup_bits ood_bits s p) s))
    pub alpha : IfOk r (λ run. run.alpha ≡ (drawn k f e dimension initial version zk lookup_bits ood_bits s p).alpha)
    pub zeta : IfOk r (λ run. run.zeta ≡ (drawn k f e dimension initial version zk lookup_bits ood_bits s p).zeta)
    pub state : IfOk r (λ run. run.challenger ≡ (drawn k f e dimension initial version zk lookup_bits ood_bits s p).opening)

  pub handed_out : (shape : BatchShapeData) (v : Given F E M) (lookups : List (List (LookupData F))) (n : ℕ)
      → shape ≡ script_shape version zk lookup_bits ood_bits s → v ≡ given_of s p → lookups ≡ s.common.lookups → length s.common.lookups ≡ n
      → (r : Result (Drawn E S) (BatchVerificationError R))
      → (let d = draws k f e dimension initial shape v in
      IsVerdict (grinding_by f.zero shape v.lookup_witness v.ood_witness d) r
      × IfOk r (λ run. (run.alpha ≡ d.alpha) × (run.zeta ≡ d.zeta) × (run.challenger ≡ d.opening) × (map (λ v. v.items) run.challenges.items ≡ batch_layout e (drawn_pair shape.num_lookup_instances d) lookups)))
      → HandsOut n r
  handed_out shape v lookups n a b c l (Ok run) h =
      let t = drawn_is shape v a b in
      record {
        verdict = subst (λ cs. IsVerdict cs (Ok run)) (checks_are shape v a b) h.0;
        challenges =
            h.1.3
            ∙ (λ i. batch_layout e (drawn_pair (ap (λ x. x.num_lookup_instances) a i) (t i)) (c i))
            ∙ laid_out_by_table e (drawn_pair (script_shape version zk lookup_bits ood_bits s).num_lookup_instances (drawn k f e dimension initial version zk lookup_bits ood_bits s p)) s.common.lookups n l;
        alpha = h.1.0 ∙ ap (λ x. x.alpha) t;
        zeta = h.1.1 ∙ ap (λ x. x.zeta) t;
        state = h.1.2 ∙ ap (λ x. x.opening) t;
      }
  handed_out shape v lookups n a b c l (Err x) h =
      record {
        verdict = subst (λ cs. IsVerdict {T = Drawn E S} cs (Err x)) (checks_are shape v a b) h.0;
        challenges = tt;
        alpha = tt;
        zeta = tt;
        state = tt;
      }
