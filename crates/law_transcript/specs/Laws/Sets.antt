-- The committed tables, and the challenges that are unlucky for them, are the same of two proofs that agree before the challenge.
use Rattle.std.proofs.Common.{◌≡◌, ℕ, zero, suc, ◌<◌, List, [], ◌∷◌, length, get_or, Contains, refl, sym, ◌∙◌, ap, subst, inl, inr, arith}
use Rattle.p3_field.specs.Laws.Tabulate.{get_or-tabulate, length-tabulate}
use Rattle.p3_field.specs.Poly.{tabulate}
use Rattle.p3_lookup.specs.Messages.{Message}
use Rattle.plain_pcs.specs.Scheme.{PlainCommitmentData}
use Rattle.law_committed.specs.Batch.{DividedTable, IsUnluckyAlphaOfBatch, IsUnluckyZetaOfBatch}
use Rattle.law_committed.specs.Unlucky.{IsUnluckyAlpha}
use Rattle.law_committed.specs.Committed.{CommittedTable}
use Rattle.air_core.specs.Tree.{Tree}
use Rattle.batch_config.specs.Setting.{Setting}
use Rattle.batch_statement.specs.Proof.{ProofData}
use Rattle.batch_statement.specs.Statement.{Statement}
use Rattle.verifier_batch.specs.BatchChecks.{drawn_of, table_challenges_of}
use Rattle.std.specs.Prelude.{count_by}
use Rattle.batch_statement.specs.Words.{has_some}
use Rattle.batch_transcript.specs.BatchScript.{Draws}
use Rattle.batch_transcript.specs.Buses.{batch_layout}
use Rattle.verifier_draws.specs.Draws.{drawn_pair}
use Rattle.law_soundness.specs.CommittedBatch.{committed_at, committed_batch, committed_table_at, constraints_at}
use Rattle.law_balance.specs.Accepted.{messages_of_proof}
use Rattle.law_transcript.specs.Before.{AgreeBeforePair, AgreeBeforeAlpha, AgreeBeforeZeta, HaveOnePair}
use Rattle.law_transcript.specs.Laws.Draws.{same_draws, same_pair, to_alpha, to_alpha_is, to_pair, to_pair_is, to_zeta, to_zeta_is}

-- what is contained in a tabulated list is one of its items
contained_at : {X : Type 0} (n : ℕ) (t : ℕ → X) (x : X) → Contains (tabulate n t) x → (i : ℕ) × (i < n) × (t i ≡ x)
contained_at n t x (i, l, e) =
    let below : i < n = let k = length-tabulate n t in omega (arith, k, l) in (i, below, sym (get_or-tabulate n t i x below) ∙ e)

contains_at : {X : Type 0} (n : ℕ) (t : ℕ → X) (i : ℕ) → i < n → Contains (tabulate n t) (t i)
contains_at n t i l = (i, (let k = length-tabulate n t in omega (arith, k, l)), get_or-tabulate n t i (t i) l)

-- the pair that is drawn where so many tables have lookups
same_drawn : {S E : Type 0} (n : ℕ) (d e : Draws S E) → d.lookup_alpha ≡ e.lookup_alpha → d.lookup_beta ≡ e.lookup_beta → drawn_pair n d ≡ drawn_pair n e
same_drawn zero d e a b = refl
same_drawn (suc n) d e a b = λ j. a j ∷ b j ∷ []

module _ {S F E P : Type 0} (c : Setting S F E (PlainCommitmentData F)) (log_blowup : ℕ) (s : Statement F (PlainCommitmentData F)) (p q : ProofData F E (PlainCommitmentData F) P) where
  -- the challenges of a table's lookups
  same_challenges : AgreeBeforePair p q → (i : ℕ) → table_challenges_of c s p i ≡ table_challenges_of c s q i
  same_challenges a i =
      let one = same_pair c s p q a in
      ap (λ pair. get_or (batch_layout c.extension.ring pair s.common.lookups) i []) (same_drawn (count_by has_some s.common.lookups) (drawn_of c s p) (drawn_of c s q) one.alpha one.beta)

  pub same_tables : AgreeBeforeAlpha p q → (i : ℕ) → committed_table_at c log_blowup s p i ≡ committed_table_at c log_blowup s q i
  same_tables a i =
      let inside : committed_table_at c log_blowup s p i ≡ record (committed_table_at c log_blowup s (to_alpha p q) i) { challenges = table_challenges_of c s q i } =
      λ j. record (committed_table_at c log_blowup s p i) { challenges = same_challenges a.pair i j } in
      inside ∙ (λ j. record (committed_table_at c log_blowup s (to_alpha_is p q a j) i) { challenges = table_challenges_of c s q i })

  pub same_alphas_unlucky : AgreeBeforeAlpha p q → (alpha : E)
      → IsUnluckyAlphaOfBatch c.field c.extension (committed_batch c log_blowup s p) alpha → IsUnluckyAlphaOfBatch c.field c.extension (committed_batch c log_blowup s q) alpha
  same_alphas_unlucky a alpha (b, inside, unlucky) =
      let here = contained_at (length s.tables) (committed_at c log_blowup s p) b inside in
      let i = here.0 in
      let at_p : IsUnluckyAlpha c.field c.extension (committed_table_at c log_blowup s p i) (constraints_at c s i) alpha =
      subst (λ (d : DividedTable F E). IsUnluckyAlpha c.field c.extension d.table d.trees alpha) (sym here.2) unlucky in (
        committed_at c log_blowup s q i,
        contains_at (length s.tables) (committed_at c log_blowup s q) i here.1,
        subst (λ t. IsUnluckyAlpha c.field c.extension t (constraints_at c s i) alpha) (same_tables a i) at_p,
      )

  pub same_batch : AgreeBeforeZeta p q → committed_batch c log_blowup s p ≡ committed_batch c log_blowup s q
  unfolding Rattle.verifier_draws.specs.Draws.drawn
  same_batch a = ap (λ x. committed_batch c log_blowup s x) (to_zeta_is p q a)

  pub same_zetas_unlucky : AgreeBeforeZeta p q → (alpha zeta : E)
      → IsUnluckyZetaOfBatch c.field c.extension (committed_batch c log_blowup s p) alpha zeta → IsUnluckyZetaOfBatch c.field c.extension (committed_batch c log_blowup s q) alpha zeta
  same_zetas_unlucky a alpha zeta u = subst (λ b. IsUnluckyZetaOfBatch c.field c.extension b alpha zeta) (same_batch a) u

  -- what the tables send is committed to before the pair is drawn
  pub same_messages : AgreeBeforePair p q → messages_of_proof c log_blowup s p ≡ messages_of_proof c log_blowup s q
  same_messages a = ap (λ x. messages_of_proof c log_blowup s x) (to_pair_is p q a)
