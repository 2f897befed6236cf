-- The grammars of commitments.
use Rattle.std.specs.Prelude.{ℕ, List, Option, refl}
use Rattle.std.proofs.Common.{arith}
use Rattle.p3_field.specs.declared.baby_bear.BabyBear.{BabyBear}
use Rattle.plain_pcs.specs.Scheme.{PlainCommitmentData}
use Rattle.tool_lines.specs.Texts.{Grammar, list_numbers, option_numbers, ListWithin, OptionWithin}
use Rattle.tool_lines.specs.Laws.Grammars.{ThenWithin, pair_numbers, SameTexts, then-grammar, same-grammar, list-grammar, option-grammar}
use Rattle.tool_proof_text.specs.Matrices.{matrix_numbers, MatrixWithin}
use Rattle.tool_proof_text.specs.ProofText.{commitment_numbers, CommitmentWithin, commitments_numbers, CommitmentsWithin}
use Rattle.tool_proof_text.specs.Laws.Matrices.{matrix-grammar}
use Rattle.tool_proof_text.specs.Laws.Parts.{four-parts}

pub matrices-grammar : Grammar (ListWithin 0 1024 MatrixWithin) (list_numbers matrix_numbers)
matrices-grammar = list-grammar 0 1024 (omega arith) (omega arith) matrix-grammar

-- a commitment is seen as its matrices
unfoldable pub same-commitment : SameTexts (ListWithin 0 1024 MatrixWithin) (list_numbers matrix_numbers) CommitmentWithin commitment_numbers
same-commitment = record {
  to = λ ms. record { matrices = ms };
  to_fits = λ ms fits. fits;
  to_numbers = λ ms fits. refl;
  whole = λ c fits. (c.matrices, fits, refl);
}

pub commitment-grammar : Grammar CommitmentWithin commitment_numbers
commitment-grammar = same-grammar same-commitment matrices-grammar

pub some_commitment-grammar : Grammar (OptionWithin CommitmentWithin) (option_numbers commitment_numbers)
some_commitment-grammar = option-grammar commitment-grammar

-- the commitments of a proof, from each of them on
abbrev pub QuotientParts : Type 0
QuotientParts = PlainCommitmentData BabyBear × Option (PlainCommitmentData BabyBear)

abbrev pub QuotientPartsWithin : QuotientParts → Type 0
QuotientPartsWithin = ThenWithin CommitmentWithin (OptionWithin CommitmentWithin)

abbrev pub quotient_parts_numbers : QuotientParts → List ℕ
quotient_parts_numbers = pair_numbers commitment_numbers (option_numbers commitment_numbers)

pub quotient_parts-grammar : Grammar QuotientPartsWithin quotient_parts_numbers
quotient_parts-grammar = then-grammar commitment-grammar some_commitment-grammar

abbrev pub PermutationParts : Type 0
PermutationParts = Option (PlainCommitmentData BabyBear) × QuotientParts

abbrev pub PermutationPartsWithin : PermutationParts → Type 0
PermutationPartsWithin = ThenWithin (OptionWithin CommitmentWithin) QuotientPartsWithin

abbrev pub permutation_parts_numbers : PermutationParts → List ℕ
permutation_parts_numbers = pair_numbers (option_numbers commitment_numbers) quotient_parts_numbers

pub permutation_parts-grammar : Grammar PermutationPartsWithin permutation_parts_numbers
permutation_parts-grammar = then-grammar some_commitment-grammar quotient_parts-grammar

-- the commitments of a proof are seen as its four commitments
unfoldable pub same-commitments : SameTexts (ThenWithin CommitmentWithin PermutationPartsWithin) (pair_numbers commitment_numbers permutation_parts_numbers) CommitmentsWithin commitments_numbers
same-commitments = record {
  to = λ p. record { main = p.0; permutation = p.1.0; quotient_chunks = p.1.1.0; random = p.1.1.1 };
  to_fits = λ p fits. record { main = fits.0; permutation = fits.1.0; quotient_chunks = fits.1.1.0; random = fits.1.1.1 };
  to_numbers = λ p fits.
      four-parts (commitment_numbers p.0) (option_numbers commitment_numbers p.1.0) (commitment_numbers p.1.1.0) (option_numbers commitment_numbers p.1.1.1);
  whole = λ c fits. (
    (c.main, (c.permutation, (c.quotient_chunks, c.random))),
    (fits.main, (fits.permutation, (fits.quotient_chunks, fits.random))),
    refl,
  );
}

pub commitments-grammar : Grammar CommitmentsWithin commitments_numbers
commitments-grammar = same-grammar same-commitments (then-grammar commitment-grammar permutation_parts-grammar)
