-- The text of a batch proof over the plain backend, part by part, and its limits (this project's own).
use Rattle.std.specs.Prelude.{ℕ, List, ◌++◌}
use Rattle.p3_field.specs.declared.baby_bear.BabyBear.{BabyBear}
use Rattle.p3_field.specs.declared.quartic.QuarticExtension.{QuarticExtension}
use Rattle.plain_pcs.specs.Scheme.{PlainCommitmentData}
use Rattle.plain_pcs.specs.declared.commitment.PlainProof.{PlainProof}
use Rattle.batch_statement.specs.Proof.{ProofData}
use Rattle.batch_statement.specs.declared.commitments.BatchCommitments.{BatchCommitments}
use Rattle.tool_lines.specs.Texts.{one_number, element_numbers, extension_numbers, list_numbers, option_numbers, Between, Unlimited, ListWithin, OptionWithin}
use Rattle.tool_proof_text.specs.Matrices.{matrix_numbers, MatrixWithin}
use Rattle.tool_proof_text.specs.Openings.{instance_numbers, InstanceWithin}

-- a commitment of the plain backend: at most 1024 matrices
abbrev pub commitment_numbers : PlainCommitmentData BabyBear → List ℕ
commitment_numbers c = list_numbers matrix_numbers c.matrices

abbrev pub CommitmentWithin : PlainCommitmentData BabyBear → Type 0
CommitmentWithin c = ListWithin 0 1024 MatrixWithin c.matrices

-- the commitments of a batch proof
abbrev pub commitments_numbers : BatchCommitments (PlainCommitmentData BabyBear) → List ℕ
commitments_numbers c =
    commitment_numbers c.main ++ option_numbers commitment_numbers c.permutation ++ commitment_numbers c.quotient_chunks
    ++ option_numbers commitment_numbers c.random

pub record CommitmentsWithin (c : BatchCommitments (PlainCommitmentData BabyBear)) : Type 0 where
  pub main : CommitmentWithin c.main
  pub permutation : OptionWithin CommitmentWithin c.permutation
  pub quotient_chunks : CommitmentWithin c.quotient_chunks
  pub random : OptionWithin CommitmentWithin c.random

-- a batch proof over the program's fields and the plain backend
abbrev pub ToolProofData : Type 0
ToolProofData = ProofData BabyBear QuarticExtension (PlainCommitmentData BabyBear) PlainProof

-- its parts in order: the opening proof, in which there is nothing, has no lines
unfoldable pub proof_numbers : ToolProofData → List ℕ
proof_numbers p =
    commitments_numbers p.commitments ++ list_numbers instance_numbers p.instances ++ list_numbers (option_numbers extension_numbers) p.lookup_terminals
    ++ list_numbers one_number p.degree_bits ++ option_numbers element_numbers p.lookup_pow_witness ++ element_numbers p.ood_pow_witness

-- at most 1024 tables, and degree bits of at most 255
pub record ProofWithin (p : ToolProofData) : Type 0 where
  pub commitments : CommitmentsWithin p.commitments
  pub instances : ListWithin 0 1024 InstanceWithin p.instances
  pub lookup_terminals : ListWithin 0 1024 (OptionWithin Unlimited) p.lookup_terminals
  pub degree_bits : ListWithin 0 1024 (Between 0 255) p.degree_bits
