-- The tree of a file has no floats, and nests to a depth of six.
use Rattle.std.specs.Prelude.{ℕ, suc, List, codes}
use Rattle.p3_field.specs.declared.baby_bear.BabyBear.{BabyBear}
use Rattle.p3_field.specs.declared.quartic.QuarticExtension.{QuarticExtension}
use Rattle.p3_matrix.specs.Matrix.{Rows, height}
use Rattle.p3_uni_stark.specs.Opened.{PreprocessedData}
use Rattle.plain_pcs.specs.Scheme.{PlainCommitmentData}
use Rattle.batch_statement.specs.Proof.{OpenedWithLookups}
use Rattle.batch_statement.specs.declared.commitments.BatchCommitments.{BatchCommitments}
use Rattle.tool_statement.specs.declared.table.TableStatement.{TableStatement}
use Rattle.tool_statement.specs.declared.table.TableStatement.TheVariants.{Swap, Wheel, Take, Give, Hash}
use Rattle.tool_proof_files.specs.Files.{FileData}
use Rattle.json_forms.specs.Trees.{number_tree, option_tree, element_tree, extension_tree}
use Rattle.json_forms.specs.Laws.Plain.{IsPlain, plain-number, plain-word, plain-list, plain-option, plain-element, plain-extension, plain-last, plain-member, plain-object}
use Rattle.json_proof_files.specs.MatrixTrees.{matrix_tree}
use Rattle.json_proof_files.specs.OpeningTrees.{values_tree, preprocessed_tree, instance_tree}
use Rattle.json_proof_files.specs.TableTrees.{plain_table_tree, table_tree}
use Rattle.json_proof_files.specs.FileTrees.{commitment_tree, commitments_tree, file_tree}

matrix-plain : (most : ℕ) (m : Rows BabyBear) → IsPlain (suc (suc most)) (matrix_tree m)
matrix-plain most m =
    plain-object (plain-member (codes "height") (plain-number _ (height m))
    (plain-member (codes "values") (plain-list element_tree most (plain-element most) m.values) (plain-member (codes "width") (plain-number _ m.width) (plain-last _))))

commitment-plain : (most : ℕ) (c : PlainCommitmentData BabyBear) → IsPlain (suc (suc (suc most))) (commitment_tree c)
commitment-plain most c = plain-list matrix_tree (suc (suc most)) (matrix-plain most) c.matrices

commitments-plain : (most : ℕ) (c : BatchCommitments (PlainCommitmentData BabyBear)) → IsPlain (suc (suc (suc (suc most)))) (commitments_tree c)
commitments-plain most c =
    let each = commitment-plain most in
    plain-object (plain-member (codes "main") (each c.main) (plain-member (codes "permutation") (plain-option commitment_tree _ each c.permutation)
    (plain-member (codes "quotient_chunks") (each c.quotient_chunks) (plain-member (codes "random") (plain-option commitment_tree _ each c.random) (plain-last _)))))

values-plain : (most : ℕ) (xs : List QuarticExtension) → IsPlain (suc (suc most)) (values_tree xs)
values-plain most xs = plain-list extension_tree (suc most) (plain-extension most) xs

preprocessed-plain : (most : ℕ) (p : PreprocessedData QuarticExtension) → IsPlain (suc (suc (suc most))) (preprocessed_tree p)
preprocessed-plain most p =
    plain-object (plain-member (codes "local") (values-plain most p.local) (plain-member (codes "next") (plain-option values_tree _ (values-plain most) p.next) (plain-last _)))

instance-plain : (most : ℕ) (i : OpenedWithLookups QuarticExtension) → IsPlain (suc (suc (suc (suc most)))) (instance_tree i)
instance-plain most i =
    let each = values-plain (suc most) in
    plain-object (plain-member (codes "permutation_local") (each i.permutation_local) (plain-member (codes "permutation_next") (each i.permutation_next)
    (plain-member (codes "preprocessed") (plain-option preprocessed_tree _ (preprocessed-plain most) i.base.preprocessed)
    (plain-member (codes "quotient_chunks") (plain-list values_tree (suc (suc most)) (values-plain most) i.base.quotient_chunks)
    (plain-member (codes "random") (plain-option values_tree _ each i.base.random) (plain-member (codes "trace_local") (each i.base.trace_local)
    (plain-member (codes "trace_next") (plain-option values_tree _ each i.base.trace_next) (plain-last _))))))))

plain-table-plain : (most : ℕ) (kind : List ℕ) (k : ℕ) → IsPlain (suc most) (plain_table_tree kind k)
plain-table-plain most kind k = plain-object (plain-member (codes "k") (plain-number _ k) (plain-member (codes "kind") (plain-word _ kind) (plain-last _)))

table-plain : (most : ℕ) (t : TableStatement) → IsPlain (suc most) (table_tree t)
table-plain most (Swap k a b x) =
    plain-object (plain-member (codes "a") (plain-element _ a) (plain-member (codes "b") (plain-element _ b) (plain-member (codes "k") (plain-number _ k)
    (plain-member (codes "kind") (plain-word _ (codes "swap")) (plain-member (codes "x") (plain-element _ x) (plain-last _))))))
table-plain most (Wheel k) = plain-table-plain most (codes "wheel") k
table-plain most (Take k) = plain-table-plain most (codes "take") k
table-plain most (Give k) = plain-table-plain most (codes "give") k
table-plain most (Hash k) = plain-table-plain most (codes "hash") k

pub file-plain : (f : FileData) → IsPlain 6 (file_tree f)
file-plain f =
    plain-object (plain-member (codes "commitments") (commitments-plain 1 f.proof.commitments)
    (plain-member (codes "degree_bits") (plain-list number_tree 4 (plain-number 4) f.proof.degree_bits)
    (plain-member (codes "lookup_pow_witness") (plain-option element_tree 5 (plain-element 5) f.proof.lookup_pow_witness)
    (plain-member (codes "lookup_terminals") (plain-list (option_tree extension_tree) 4 (plain-option extension_tree 4 (plain-extension 3)) f.proof.lookup_terminals)
    (plain-member (codes "ood_pow_witness") (plain-element 5 f.proof.ood_pow_witness)
    (plain-member (codes "opened_values") (plain-list instance_tree 4 (instance-plain 0) f.proof.instances)
    (plain-member (codes "tables") (plain-list table_tree 4 (table-plain 3) f.tables) (plain-member (codes "version") (plain-number 5 f.version) (plain-last 5)))))))))
