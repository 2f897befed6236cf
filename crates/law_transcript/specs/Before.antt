-- What two proofs of one statement share as far as a draw, and what is then the same of them (not in Plonky3). A challenge that is drawn by hashing
-- stands for one that a verifier draws at random only where nothing that comes after it has a part in it, nor in what makes it unlucky.
use Rattle.std.specs.Prelude.{◌≡◌}
use Rattle.batch_config.specs.Setting.{Setting}
use Rattle.batch_statement.specs.Proof.{ProofData}
use Rattle.batch_statement.specs.Statement.{Statement}
use Rattle.verifier_batch.specs.BatchChecks.{drawn_of}

-- they agree in what is played before the lookups' pair: degree bits, the main commitment and the first grinding value
pub record AgreeBeforePair {F E C P : Type 0} (p q : ProofData F E C P) : Type 0 where
  pub degree_bits : p.degree_bits ≡ q.degree_bits
  pub main : p.commitments.main ≡ q.commitments.main
  pub lookup_witness : p.lookup_pow_witness ≡ q.lookup_pow_witness

-- and in what is played between the pair and alpha: the commitment to permutation columns, and the terminals
pub record AgreeBeforeAlpha {F E C P : Type 0} (p q : ProofData F E C P) : Type 0 where
  pub pair : AgreeBeforePair p q
  pub permutation : p.commitments.permutation ≡ q.commitments.permutation
  pub terminals : p.lookup_terminals ≡ q.lookup_terminals

-- and in what is played between alpha and zeta: the commitments to quotients and to what is random, and the second grinding value
pub record AgreeBeforeZeta {F E C P : Type 0} (p q : ProofData F E C P) : Type 0 where
  pub alpha : AgreeBeforeAlpha p q
  pub quotient : p.commitments.quotient_chunks ≡ q.commitments.quotient_chunks
  pub random : p.commitments.random ≡ q.commitments.random
  pub ood_witness : p.ood_pow_witness ≡ q.ood_pow_witness

-- of both the same pair is drawn
pub record HaveOnePair {S F E C P : Type 0} (c : Setting S F E C) (s : Statement F C) (p q : ProofData F E C P) : Type 0 where
  pub alpha : (drawn_of c s p).lookup_alpha ≡ (drawn_of c s q).lookup_alpha
  pub beta : (drawn_of c s p).lookup_beta ≡ (drawn_of c s q).lookup_beta
