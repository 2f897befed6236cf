-- The grammar of batch proofs.
use Rattle.std.specs.Prelude.{ℕ, List, Option, None, Some, refl}
use Rattle.std.proofs.Common.{arith}
use Rattle.p3_field.specs.declared.baby_bear.BabyBear.{BabyBear}
use Rattle.p3_field.specs.declared.quartic.QuarticExtension.{QuarticExtension}
use Rattle.plain_pcs.specs.Scheme.{PlainCommitmentData}
use Rattle.batch_statement.specs.Proof.{OpenedWithLookups}
use Rattle.batch_statement.specs.declared.commitments.BatchCommitments.{BatchCommitments}
use Rattle.tool_lines.specs.Texts.{Grammar, one_number, element_numbers, extension_numbers, list_numbers, option_numbers, Between, Unlimited, ListWithin, OptionWithin}
use Rattle.tool_lines.specs.Laws.Grammars.{ThenWithin, pair_numbers, SameTexts, then-grammar, same-grammar, number-grammar, list-grammar, option-grammar, element-grammar, extension-grammar}
use Rattle.tool_proof_text.specs.Openings.{instance_numbers, InstanceWithin}
use Rattle.tool_proof_text.specs.ProofText.{commitments_numbers, CommitmentsWithin, proof_numbers, ProofWithin}
use Rattle.tool_proof_text.specs.Laws.Commitments.{commitments-grammar}
use Rattle.tool_proof_text.specs.Laws.Openings.{instance-grammar}
use Rattle.tool_proof_text.specs.Laws.Parts.{six-parts}

pub instances-grammar : Grammar (ListWithin 0 1024 InstanceWithin) (list_numbers instance_numbers)
instances-grammar = list-grammar 0 1024 (omega arith) (omega arith) instance-grammar

pub terminals-grammar : Grammar (ListWithin 0 1024 (OptionWithin Unlimited)) (list_numbers (option_numbers extension_numbers))
terminals-grammar = list-grammar 0 1024 (omega arith) (omega arith) (option-grammar extension-grammar)

pub degree-grammar : Grammar (Between 0 255) one_number
degree-grammar = number-grammar 0 255 (omega arith) (omega arith)

pub degree_bits-grammar : Grammar (ListWithin 0 1024 (Between 0 255)) (list_numbers one_number)
degree_bits-grammar = list-grammar 0 1024 (omega arith) (omega arith) degree-grammar

pub some_element-grammar : Grammar (OptionWithin Unlimited) (option_numbers element_numbers)
some_element-grammar = option-grammar element-grammar

-- no value that may be absent is outside no limits
pub no-limits : {A : Type 0} (o : Option A) → OptionWithin Unlimited o
no-limits None = tt
no-limits (Some x) = tt

-- a proof, from each of its parts on
abbrev pub WitnessParts : Type 0
WitnessParts = Option BabyBear × BabyBear

abbrev pub WitnessPartsWithin : WitnessParts → Type 0
WitnessPartsWithin = ThenWithin (OptionWithin Unlimited) Unlimited

abbrev pub witness_parts_numbers : WitnessParts → List ℕ
witness_parts_numbers = pair_numbers (option_numbers element_numbers) element_numbers

pub witness_parts-grammar : Grammar WitnessPartsWithin witness_parts_numbers
witness_parts-grammar = then-grammar some_element-grammar element-grammar

abbrev pub DegreeParts : Type 0
DegreeParts = List ℕ × WitnessParts

abbrev pub DegreePartsWithin : DegreeParts → Type 0
DegreePartsWithin = ThenWithin (ListWithin 0 1024 (Between 0 255)) WitnessPartsWithin

abbrev pub degree_parts_numbers : DegreeParts → List ℕ
degree_parts_numbers = pair_numbers (list_numbers one_number) witness_parts_numbers

pub degree_parts-grammar : Grammar DegreePartsWithin degree_parts_numbers
degree_parts-grammar = then-grammar degree_bits-grammar witness_parts-grammar

abbrev pub TerminalParts : Type 0
TerminalParts = List (Option QuarticExtension) × DegreeParts

abbrev pub TerminalPartsWithin : TerminalParts → Type 0
TerminalPartsWithin = ThenWithin (ListWithin 0 1024 (OptionWithin Unlimited)) DegreePartsWithin

abbrev pub terminal_parts_numbers : TerminalParts → List ℕ
terminal_parts_numbers = pair_numbers (list_numbers (option_numbers extension_numbers)) degree_parts_numbers

pub terminal_parts-grammar : Grammar TerminalPartsWithin terminal_parts_numbers
terminal_parts-grammar = then-grammar terminals-grammar degree_parts-grammar

abbrev pub InstanceParts : Type 0
InstanceParts = List (OpenedWithLookups QuarticExtension) × TerminalParts

abbrev pub InstancePartsWithin : InstanceParts → Type 0
InstancePartsWithin = ThenWithin (ListWithin 0 1024 InstanceWithin) TerminalPartsWithin

abbrev pub instance_parts_numbers : InstanceParts → List ℕ
instance_parts_numbers = pair_numbers (list_numbers instance_numbers) terminal_parts_numbers

pub instance_parts-grammar : Grammar InstancePartsWithin instance_parts_numbers
instance_parts-grammar = then-grammar instances-grammar terminal_parts-grammar

abbrev pub ProofParts : Type 0
ProofParts = BatchCommitments (PlainCommitmentData BabyBear) × InstanceParts

abbrev pub ProofPartsWithin : ProofParts → Type 0
ProofPartsWithin = ThenWithin CommitmentsWithin InstancePartsWithin

abbrev pub proof_parts_numbers : ProofParts → List ℕ
proof_parts_numbers = pair_numbers commitments_numbers instance_parts_numbers

-- a proof is seen as its six parts that have lines
unfoldable pub same-proof : SameTexts ProofPartsWithin proof_parts_numbers ProofWithin proof_numbers
unfolding proof_numbers
same-proof = record {
  to = λ p. record {
    commitments = p.0;
    instances = p.1.0;
    opening_proof = record {};
    lookup_terminals = p.1.1.0;
    degree_bits = p.1.1.1.0;
    lookup_pow_witness = p.1.1.1.1.0;
    ood_pow_witness = p.1.1.1.1.1;
  };
  to_fits = λ p fits. record { commitments = fits.0; instances = fits.1.0; lookup_terminals = fits.1.1.0; degree_bits = fits.1.1.1.0 };
  to_numbers = λ p fits.
      six-parts (commitments_numbers p.0) (list_numbers instance_numbers p.1.0) (list_numbers (option_numbers extension_numbers) p.1.1.0) (list_numbers one_number p.1.1.1.0)
      (option_numbers element_numbers p.1.1.1.1.0) (element_numbers p.1.1.1.1.1);
  whole = λ p fits. (
    (p.commitments, (p.instances, (p.lookup_terminals, (p.degree_bits, (p.lookup_pow_witness, p.ood_pow_witness))))),
    (fits.commitments, (fits.instances, (fits.lookup_terminals, (fits.degree_bits, (no-limits p.lookup_pow_witness, tt))))),
    refl,
  );
}

pub proof-grammar : Grammar ProofWithin proof_numbers
proof-grammar = same-grammar same-proof (then-grammar commitments-grammar instance_parts-grammar)
