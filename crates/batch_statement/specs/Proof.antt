-- A batch proof as plain data. After Plonky3's p3-batch-stark (BatchProof).
use Rattle.std.specs.Prelude.{ℕ, List, Option}
use Rattle.p3_uni_stark.specs.Opened.{OpenedData}
use Rattle.batch_statement.specs.declared.commitments.BatchCommitments.{BatchCommitments}

-- what is opened of one table: the values that a proof of that table alone opens, and those of the flattened permutation
-- columns at the drawn point and at the next
pub record OpenedWithLookups (E : Type 0) : Type 0 where
  pub base : OpenedData E
  pub permutation_local : List E
  pub permutation_next : List E

-- a proof with commitments C and an opening proof P
pub record ProofData (F E C P : Type 0) : Type 0 where
  pub commitments : BatchCommitments C
  pub instances : List (OpenedWithLookups E)
  pub opening_proof : P
  pub lookup_terminals : List (Option E)
  pub degree_bits : List ℕ
  pub lookup_pow_witness : Option F
  pub ood_pow_witness : F
