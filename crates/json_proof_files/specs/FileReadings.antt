-- Which proof file a tree is, where it is one's.
use Rattle.std.specs.Prelude.{codes, Option, option_map}
use Rattle.p3_field.specs.declared.baby_bear.BabyBear.{BabyBear}
use Rattle.plain_pcs.specs.Scheme.{PlainCommitmentData}
use Rattle.batch_statement.specs.declared.commitments.BatchCommitments.{BatchCommitments}
use Rattle.tool_proof_files.specs.Files.{FileData}
use Rattle.serde_json.specs.Data.{Data}
use Rattle.json_forms.specs.Readings.{number_reading, list_reading, option_reading, element_reading, extension_reading, member_reading, then_reading, object_reading}
use Rattle.json_proof_files.specs.MatrixTrees.{matrix_reading}
use Rattle.json_proof_files.specs.OpeningReadings.{instance_reading}
use Rattle.json_proof_files.specs.TableTrees.{table_reading}

abbrev pub commitment_reading : Data → Option (PlainCommitmentData BabyBear)
commitment_reading d = option_map (λ ms. record { matrices = ms }) (list_reading 0 1024 matrix_reading d)

abbrev pub commitments_reading : Data → Option (BatchCommitments (PlainCommitmentData BabyBear))
commitments_reading d =
    option_map (λ p. record { main = p.0; permutation = p.1.0; quotient_chunks = p.1.1.0; random = p.1.1.1 })
    (object_reading (then_reading (member_reading (codes "main") commitment_reading) (then_reading (member_reading (codes "permutation") (option_reading commitment_reading))
    (then_reading (member_reading (codes "quotient_chunks") commitment_reading) (member_reading (codes "random") (option_reading commitment_reading))))) d)

abbrev pub file_reading : Data → Option FileData
file_reading d =
    option_map (λ p. record {
      version = p.1.1.1.1.1.1.1;
      tables = p.1.1.1.1.1.1.0;
      proof = record {
        commitments = p.0;
        instances = p.1.1.1.1.1.0;
        opening_proof = record {};
        lookup_terminals = p.1.1.1.0;
        degree_bits = p.1.0;
        lookup_pow_witness = p.1.1.0;
        ood_pow_witness = p.1.1.1.1.0;
      };
    })
    (object_reading (then_reading (member_reading (codes "commitments") commitments_reading) (then_reading (member_reading (codes "degree_bits") (list_reading 0 1024 (number_reading 0 255)))
    (then_reading (member_reading (codes "lookup_pow_witness") (option_reading element_reading))
    (then_reading (member_reading (codes "lookup_terminals") (list_reading 0 1024 (option_reading extension_reading)))
    (then_reading (member_reading (codes "ood_pow_witness") element_reading) (then_reading (member_reading (codes "opened_values") (list_reading 0 1024 instance_reading))
    (then_reading (member_reading (codes "tables") (list_reading 1 8 table_reading)) (member_reading (codes "version") (number_reading 1 2))))))))) d)
