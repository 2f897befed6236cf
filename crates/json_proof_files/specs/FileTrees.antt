-- The tree of a proof file: objects, whose members stand in the order of their keys' bytes.
use Rattle.std.specs.Prelude.{codes}
use Rattle.p3_field.specs.declared.baby_bear.BabyBear.{BabyBear}
use Rattle.plain_pcs.specs.Scheme.{PlainCommitmentData}
use Rattle.batch_statement.specs.declared.commitments.BatchCommitments.{BatchCommitments}
use Rattle.tool_proof_files.specs.Files.{FileData}
use Rattle.serde_json.specs.Data.{Data, object, no_members, member}
use Rattle.json_forms.specs.Trees.{number_tree, list_tree, option_tree, element_tree, extension_tree}
use Rattle.json_proof_files.specs.MatrixTrees.{matrix_tree}
use Rattle.json_proof_files.specs.OpeningTrees.{instance_tree}
use Rattle.json_proof_files.specs.TableTrees.{table_tree}

abbrev pub commitment_tree : PlainCommitmentData BabyBear → Data
commitment_tree c = list_tree matrix_tree c.matrices

abbrev pub commitments_tree : BatchCommitments (PlainCommitmentData BabyBear) → Data
commitments_tree c =
    object (member (codes "main") (commitment_tree c.main) (member (codes "permutation") (option_tree commitment_tree c.permutation)
    (member (codes "quotient_chunks") (commitment_tree c.quotient_chunks) (member (codes "random") (option_tree commitment_tree c.random) no_members))))

abbrev pub file_tree : FileData → Data
file_tree f =
    object (member (codes "commitments") (commitments_tree f.proof.commitments) (member (codes "degree_bits") (list_tree number_tree f.proof.degree_bits)
    (member (codes "lookup_pow_witness") (option_tree element_tree f.proof.lookup_pow_witness)
    (member (codes "lookup_terminals") (list_tree (option_tree extension_tree) f.proof.lookup_terminals)
    (member (codes "ood_pow_witness") (element_tree f.proof.ood_pow_witness) (member (codes "opened_values") (list_tree instance_tree f.proof.instances)
    (member (codes "tables") (list_tree table_tree f.tables) (member (codes "version") (number_tree f.version) no_members))))))))
