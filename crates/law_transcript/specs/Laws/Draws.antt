-- A draw is the same of two proofs that agree before it.
use Rattle.std.proofs.Common.{◌≡◌, ℕ, zero, suc, true, List, [], ◌∷◌, get_or, refl, sym, ◌∙◌, ap}
use Rattle.p3_field.specs.Ring.{Ring}
use Rattle.p3_challenger.specs.Script.{Transcript}
use Rattle.batch_transcript.specs.BatchScript.{BatchShapeData, Draws, draws, draws_of, is_positive}
use Rattle.batch_transcript.specs.Running.{drawn_along}
use Rattle.batch_config.specs.Setting.{Setting}
use Rattle.batch_statement.specs.Proof.{ProofData}
use Rattle.batch_statement.specs.Statement.{Statement}
use Rattle.verifier_draws.specs.Draws.{drawn, given_of, script_shape}
use Rattle.verifier_batch.specs.BatchChecks.{drawn_of}
use Rattle.law_honest.specs.HonestProof.{first_drawn}
use Rattle.law_honest.specs.Laws.Staged.{ReadsDraws, alpha_of, at_ood, at_pair, at_permutation, pair_of, staged, zeta_of}
use Rattle.law_transcript.specs.Before.{AgreeBeforePair, AgreeBeforeAlpha, AgreeBeforeZeta, HaveOnePair}

-- the second proof with what the first plays before a draw
module _ {F E C P : Type 0} (p q : ProofData F E C P) where
  abbrev pub to_pair : ProofData F E C P
  to_pair = record q {
    degree_bits = p.degree_bits;
    commitments = record q.commitments { main = p.commitments.main };
    lookup_pow_witness = p.lookup_pow_witness;
  }

  pub to_pair_is : AgreeBeforePair p q → to_pair ≡ q
  to_pair_is a = λ j. record q {
    degree_bits = a.degree_bits j;
    commitments = record q.commitments { main = a.main j };
    lookup_pow_witness = a.lookup_witness j;
  }

  abbrev pub to_alpha : ProofData F E C P
  to_alpha = record to_pair {
    commitments = record q.commitments { main = p.commitments.main; permutation = p.commitments.permutation };
    lookup_terminals = p.lookup_terminals;
  }

  pub to_alpha_is : AgreeBeforeAlpha p q → to_alpha ≡ q
  to_alpha_is a = λ j. record q {
    degree_bits = a.pair.degree_bits j;
    commitments = record q.commitments { main = a.pair.main j; permutation = a.permutation j };
    lookup_pow_witness = a.pair.lookup_witness j;
    lookup_terminals = a.terminals j;
  }

  abbrev pub to_zeta : ProofData F E C P
  to_zeta = record q {
    degree_bits = p.degree_bits;
    commitments = p.commitments;
    lookup_pow_witness = p.lookup_pow_witness;
    lookup_terminals = p.lookup_terminals;
    ood_pow_witness = p.ood_pow_witness;
  }

  pub to_zeta_is : AgreeBeforeZeta p q → to_zeta ≡ q
  to_zeta_is a = λ j. record q {
    degree_bits = a.alpha.pair.degree_bits j;
    commitments = record { main = a.alpha.pair.main j; permutation = a.alpha.permutation j; quotient_chunks = a.quotient j; random = a.random j };
    lookup_pow_witness = a.alpha.pair.lookup_witness j;
    lookup_terminals = a.alpha.terminals j;
    ood_pow_witness = a.ood_witness j;
  }

-- what is read of a pair that is drawn, or of zeros
same_alphas : {S E : Type 0} (r : Ring E) (n : ℕ) (t u : Transcript S E)
    → (is_positive n ≡ true → (draws_of r n t).lookup_alpha ∷ (draws_of r n t).lookup_beta ∷ [] ≡ (draws_of r n u).lookup_alpha ∷ (draws_of r n u).lookup_beta ∷ [])
    → (draws_of r n t).lookup_alpha ≡ (draws_of r n u).lookup_alpha
same_alphas r zero t u h = refl
same_alphas r (suc n) t u h = ap (λ l. get_or l 0 r.zero) (h refl)

same_betas : {S E : Type 0} (r : Ring E) (n : ℕ) (t u : Transcript S E)
    → (is_positive n ≡ true → (draws_of r n t).lookup_alpha ∷ (draws_of r n t).lookup_beta ∷ [] ≡ (draws_of r n u).lookup_alpha ∷ (draws_of r n u).lookup_beta ∷ [])
    → (draws_of r n t).lookup_beta ≡ (draws_of r n u).lookup_beta
same_betas r zero t u h = refl
same_betas r (suc n) t u h = ap (λ l. get_or l 1 r.zero) (h refl)

abbrev shape_of : {S F E C : Type 0} → Setting S F E C → Statement F C → BatchShapeData
shape_of c s = script_shape c.version c.zk c.lookup_bits c.ood_bits s

module _ {S F E C P : Type 0} (c : Setting S F E C) (s : Statement F C) where
  -- the pair as the stage of its own steps draws it, alpha, and zeta
  abbrev pair_drawn : ProofData F E C P → List E
  pair_drawn p =
      drawn_along c.challenger (at_pair c.challenger c.field.ring c.extension.ring c.extension.dimension c.initial (shape_of c s) (given_of s p))
      (pair_of c.challenger c.field.ring c.extension.ring c.extension.dimension c.initial (shape_of c s) (given_of s p))

  abbrev alpha_drawn : ProofData F E C P → E
  alpha_drawn p =
      first_drawn c.challenger c.extension.ring.zero (at_permutation c.challenger c.field.ring c.extension.ring c.extension.dimension c.initial (shape_of c s) (given_of s p))
      (alpha_of c.challenger c.field.ring c.extension.ring c.extension.dimension c.initial (shape_of c s) (given_of s p))

  pair_is : (p : ProofData F E C P) → is_positive (shape_of c s).num_lookup_instances ≡ true → (drawn_of c s p).lookup_alpha ∷ (drawn_of c s p).lookup_beta ∷ [] ≡ pair_drawn p
  unfolding drawn
  pair_is p = (staged c.challenger c.field.ring c.extension.ring c.extension.dimension c.initial (shape_of c s) (given_of s p)).pair_is

  alpha_is : (p : ProofData F E C P) → (drawn_of c s p).alpha ≡ alpha_drawn p
  unfolding drawn
  alpha_is p = (staged c.challenger c.field.ring c.extension.ring c.extension.dimension c.initial (shape_of c s) (given_of s p)).alpha_is

  module _ (p q : ProofData F E C P) where
    one_pair : AgreeBeforePair p q → is_positive (shape_of c s).num_lookup_instances ≡ true
        → (drawn_of c s p).lookup_alpha ∷ (drawn_of c s p).lookup_beta ∷ [] ≡ (drawn_of c s q).lookup_alpha ∷ (drawn_of c s q).lookup_beta ∷ []
    one_pair a h = pair_is p h ∙ ap pair_drawn (to_pair_is p q a) ∙ sym (pair_is q h)

    pub same_pair : AgreeBeforePair p q → HaveOnePair c s p q
    unfolding drawn draws
    same_pair a = record {
      alpha = same_alphas c.extension.ring (shape_of c s).num_lookup_instances _ _ (one_pair a);
      beta = same_betas c.extension.ring (shape_of c s).num_lookup_instances _ _ (one_pair a);
    }

    pub same_alpha : AgreeBeforeAlpha p q → (drawn_of c s p).alpha ≡ (drawn_of c s q).alpha
    same_alpha a = alpha_is p ∙ ap alpha_drawn (to_alpha_is p q a) ∙ sym (alpha_is q)

    -- up to zeta nothing else is played
    pub same_draws : AgreeBeforeZeta p q → drawn_of c s p ≡ drawn_of c s q
    unfolding drawn
    same_draws a = ap (λ x. drawn_of c s x) (to_zeta_is p q a)
