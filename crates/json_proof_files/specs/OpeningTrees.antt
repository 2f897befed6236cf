-- The trees of the values that are opened of one table.
use Rattle.std.specs.Prelude.{List, codes}
use Rattle.p3_field.specs.declared.quartic.QuarticExtension.{QuarticExtension}
use Rattle.p3_uni_stark.specs.Opened.{PreprocessedData}
use Rattle.batch_statement.specs.Proof.{OpenedWithLookups}
use Rattle.serde_json.specs.Data.{Data, object, no_members, member}
use Rattle.json_forms.specs.Trees.{list_tree, option_tree, extension_tree}

abbrev pub values_tree : List QuarticExtension → Data
values_tree xs = list_tree extension_tree xs

abbrev pub preprocessed_tree : PreprocessedData QuarticExtension → Data
preprocessed_tree p = object (member (codes "local") (values_tree p.local) (member (codes "next") (option_tree values_tree p.next) no_members))

abbrev pub instance_tree : OpenedWithLookups QuarticExtension → Data
instance_tree i =
    object (member (codes "permutation_local") (values_tree i.permutation_local) (member (codes "permutation_next") (values_tree i.permutation_next)
    (member (codes "preprocessed") (option_tree preprocessed_tree i.base.preprocessed) (member (codes "quotient_chunks") (list_tree values_tree i.base.quotient_chunks)
    (member (codes "random") (option_tree values_tree i.base.random) (member (codes "trace_local") (values_tree i.base.trace_local)
    (member (codes "trace_next") (option_tree values_tree i.base.trace_next) no_members)))))))
