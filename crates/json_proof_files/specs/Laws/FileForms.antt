-- The forms of commitments and of proof files.
use Rattle.std.specs.Prelude.{ℕ, List, Option, None, Some, codes, refl}
use Rattle.p3_field.specs.declared.baby_bear.BabyBear.{BabyBear}
use Rattle.p3_field.specs.declared.quartic.QuarticExtension.{QuarticExtension}
use Rattle.plain_pcs.specs.Scheme.{PlainCommitmentData}
use Rattle.batch_statement.specs.Proof.{OpenedWithLookups}
use Rattle.batch_statement.specs.declared.commitments.BatchCommitments.{BatchCommitments}
use Rattle.tool_statement.specs.StatedTables.{TableWithin}
use Rattle.tool_statement.specs.declared.table.TableStatement.{TableStatement}
use Rattle.tool_lines.specs.Texts.{Between, Unlimited, ListWithin, OptionWithin}
use Rattle.tool_proof_text.specs.Matrices.{MatrixWithin}
use Rattle.tool_proof_text.specs.Openings.{InstanceWithin}
use Rattle.tool_proof_text.specs.ProofText.{CommitmentWithin, CommitmentsWithin}
use Rattle.tool_proof_files.specs.Files.{FileData, FileWithin}
use Rattle.serde_json.specs.Data.{Data}
use Rattle.json_forms.specs.Trees.{number_tree, list_tree, option_tree, element_tree, extension_tree}
use Rattle.json_forms.specs.Readings.{TreeForm}
use Rattle.json_forms.specs.Laws.Forms.{BothWithin, SameTrees, same-form, list-form, option-form, member-form, then-form, object-form, object_tree, then_members, member_of, number-form, element-form}
use Rattle.json_forms.specs.Laws.More.{extension-form}
use Rattle.json_proof_files.specs.MatrixTrees.{matrix_tree}
use Rattle.json_proof_files.specs.OpeningTrees.{instance_tree}
use Rattle.json_proof_files.specs.TableTrees.{table_tree}
use Rattle.json_proof_files.specs.FileTrees.{commitment_tree, commitments_tree, file_tree}
use Rattle.json_proof_files.specs.FileReadings.{commitment_reading, commitments_reading, file_reading}
use Rattle.json_proof_files.specs.Laws.MatrixForms.{matrix-form}
use Rattle.json_proof_files.specs.Laws.OpeningForms.{instance-form}
use Rattle.json_proof_files.specs.Laws.TableForms.{table-form}

-- a commitment is seen as its matrices
same-commitment-tree : SameTrees (ListWithin 0 1024 MatrixWithin) (list_tree matrix_tree) CommitmentWithin commitment_tree
same-commitment-tree = record { to = λ ms. record { matrices = ms }; to_fits = λ ms fits. fits; to_tree = λ ms fits. refl; whole = λ c fits. (c.matrices, fits, refl) }

pub commitment-form : TreeForm CommitmentWithin commitment_tree commitment_reading
unfolding same-commitment-tree
commitment-form = same-form same-commitment-tree (list-form 0 1024 matrix-form)

abbrev pub Commitment : Type 0
Commitment = PlainCommitmentData BabyBear

abbrev pub CommitmentParts : Type 0
CommitmentParts = Commitment × (Option Commitment × (Commitment × Option Commitment))

same-commitments-tree : SameTrees {A = CommitmentParts}
    (BothWithin CommitmentWithin (BothWithin (OptionWithin CommitmentWithin) (BothWithin CommitmentWithin (OptionWithin CommitmentWithin))))
    (object_tree (then_members (member_of (codes "main") commitment_tree) (then_members (member_of (codes "permutation") (option_tree commitment_tree))
    (then_members (member_of (codes "quotient_chunks") commitment_tree) (member_of (codes "random") (option_tree commitment_tree))))))
    CommitmentsWithin commitments_tree
same-commitments-tree = record {
  to = λ p. record { main = p.0; permutation = p.1.0; quotient_chunks = p.1.1.0; random = p.1.1.1 };
  to_fits = λ p fits. record { main = fits.0; permutation = fits.1.0; quotient_chunks = fits.1.1.0; random = fits.1.1.1 };
  to_tree = λ p fits. refl;
  whole = λ c fits. ((c.main, (c.permutation, (c.quotient_chunks, c.random))), (fits.main, (fits.permutation, (fits.quotient_chunks, fits.random))), refl);
}

pub commitments-form : TreeForm CommitmentsWithin commitments_tree commitments_reading
unfolding same-commitments-tree
commitments-form = same-form same-commitments-tree
    (object-form (then-form (member-form (codes "main") commitment-form) (then-form (member-form (codes "permutation") (option-form refl commitment-form))
    (then-form (member-form (codes "quotient_chunks") commitment-form) (member-form (codes "random") (option-form refl commitment-form))))))

-- a file is seen as its members
abbrev pub FileParts : Type 0
FileParts =
    BatchCommitments Commitment × (List ℕ × (Option BabyBear × (List (Option QuarticExtension) × (BabyBear × (List (OpenedWithLookups QuarticExtension)
    × (List TableStatement × ℕ))))))

abbrev pub FilePartsWithin : FileParts → Type 0
FilePartsWithin =
    BothWithin CommitmentsWithin (BothWithin (ListWithin 0 1024 (Between 0 255)) (BothWithin (OptionWithin Unlimited) (BothWithin (ListWithin 0 1024 (OptionWithin Unlimited))
    (BothWithin Unlimited (BothWithin (ListWithin 0 1024 InstanceWithin) (BothWithin (ListWithin 1 8 TableWithin) (Between 1 2)))))))

abbrev pub file_parts_tree : FileParts → Data
file_parts_tree =
    object_tree (then_members (member_of (codes "commitments") commitments_tree) (then_members (member_of (codes "degree_bits") (list_tree number_tree))
    (then_members (member_of (codes "lookup_pow_witness") (option_tree element_tree)) (then_members (member_of (codes "lookup_terminals") (list_tree (option_tree extension_tree)))
    (then_members (member_of (codes "ood_pow_witness") element_tree) (then_members (member_of (codes "opened_values") (list_tree instance_tree))
    (then_members (member_of (codes "tables") (list_tree table_tree)) (member_of (codes "version") number_tree))))))))

abbrev pub file_of : FileParts → FileData
file_of p = record {
  version = p.1.1.1.1.1.1.1;
  tables = p.1.1.1.1.1.1.0;
  proof = record {
    commitments = p.0;
    instances = p.1.1.1.1.1.0;
    opening_proof = record {};
    lookup_terminals = p.1.1.1.0;
    degree_bits = p.1.0;
    lookup_pow_witness = p.1.1.0;
    ood_pow_witness = p.1.1.1.1.0;
  };
}

same-file-tree : SameTrees FilePartsWithin file_parts_tree FileWithin file_tree
same-file-tree = record {
  to = file_of;
  to_fits = λ p fits. record {
    version = fits.1.1.1.1.1.1.1;
    tables = fits.1.1.1.1.1.1.0;
    proof = record { commitments = fits.0; instances = fits.1.1.1.1.1.0; lookup_terminals = fits.1.1.1.0; degree_bits = fits.1.0 };
  };
  to_tree = λ p fits. refl;
  whole = λ f fits. (
    (f.proof.commitments, (f.proof.degree_bits, (f.proof.lookup_pow_witness, (f.proof.lookup_terminals, (f.proof.ood_pow_witness, (f.proof.instances, (f.tables, f.version))))))),
    (
      fits.proof.commitments,
      (
        fits.proof.degree_bits,
        (
          any_fits f.proof.lookup_pow_witness,
          (
            fits.proof.lookup_terminals,
            (
              tt,
              (
                fits.proof.instances,
                (fits.tables, fits.version),
              ),
            ),
          ),
        ),
      ),
    ),
    refl,
  );
}
  where
    any_fits : (o : Option BabyBear) → OptionWithin Unlimited o
    any_fits None = tt
    any_fits (Some x) = tt

pub file-form : TreeForm FileWithin file_tree file_reading
unfolding same-file-tree
file-form = same-form same-file-tree
    (object-form (then-form (member-form (codes "commitments") commitments-form) (then-form (member-form (codes "degree_bits") (list-form 0 1024 (number-form 0 255)))
    (then-form (member-form (codes "lookup_pow_witness") (option-form refl element-form))
    (then-form (member-form (codes "lookup_terminals") (list-form 0 1024 (option-form refl extension-form)))
    (then-form (member-form (codes "ood_pow_witness") element-form) (then-form (member-form (codes "opened_values") (list-form 0 1024 instance-form))
    (then-form (member-form (codes "tables") (list-form 1 8 table-form)) (member-form (codes "version") (number-form 1 2))))))))))
