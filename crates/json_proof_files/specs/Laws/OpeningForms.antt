-- The forms of the values that are opened of one table.
use Rattle.std.specs.Prelude.{List, Option, codes, refl}
use Rattle.p3_field.specs.declared.quartic.QuarticExtension.{QuarticExtension}
use Rattle.p3_uni_stark.specs.Opened.{PreprocessedData}
use Rattle.tool_proof_text.specs.Openings.{ValuesWithin, PreprocessedWithin, InstanceWithin}
use Rattle.tool_lines.specs.Texts.{ListWithin, OptionWithin}
use Rattle.serde_json.specs.Data.{Data}
use Rattle.json_forms.specs.Trees.{option_tree, list_tree}
use Rattle.json_forms.specs.Readings.{TreeForm}
use Rattle.json_forms.specs.Laws.Forms.{BothWithin, SameTrees, same-form, list-form, option-form, member-form, then-form, object-form, object_tree, then_members, member_of}
use Rattle.json_forms.specs.Laws.More.{extension-form}
use Rattle.json_proof_files.specs.OpeningTrees.{values_tree, preprocessed_tree, instance_tree}
use Rattle.json_proof_files.specs.OpeningReadings.{values_reading, preprocessed_reading, instance_reading}

pub values-form : TreeForm ValuesWithin values_tree values_reading
values-form = list-form 0 65536 extension-form

pub same-preprocessed-tree : SameTrees (BothWithin ValuesWithin (OptionWithin ValuesWithin))
    (object_tree (then_members (member_of (codes "local") values_tree) (member_of (codes "next") (option_tree values_tree)))) PreprocessedWithin preprocessed_tree
same-preprocessed-tree = record {
  to = λ p. record { local = p.0; next = p.1 };
  to_fits = λ p fits. record { local = fits.0; next = fits.1 };
  to_tree = λ p fits. refl;
  whole = λ v fits. ((v.local, v.next), (fits.local, fits.next), refl);
}

pub preprocessed-form : TreeForm PreprocessedWithin preprocessed_tree preprocessed_reading
unfolding same-preprocessed-tree
preprocessed-form = same-form same-preprocessed-tree (object-form (then-form (member-form (codes "local") values-form) (member-form (codes "next") (option-form refl values-form))))

-- the members of what is opened of a table, from each of them on
abbrev pub InstanceParts : Type 0
InstanceParts =
    List QuarticExtension × (List QuarticExtension × (Option (PreprocessedData QuarticExtension) × (List (List QuarticExtension) × (Option (List QuarticExtension)
    × (List QuarticExtension × Option (List QuarticExtension))))))

abbrev pub InstancePartsWithin : InstanceParts → Type 0
InstancePartsWithin =
    BothWithin ValuesWithin (BothWithin ValuesWithin (BothWithin (OptionWithin PreprocessedWithin) (BothWithin (ListWithin 0 1024 ValuesWithin)
    (BothWithin (OptionWithin ValuesWithin) (BothWithin ValuesWithin (OptionWithin ValuesWithin))))))

abbrev pub instance_parts_tree : InstanceParts → Data
instance_parts_tree =
    object_tree (then_members (member_of (codes "permutation_local") values_tree) (then_members (member_of (codes "permutation_next") values_tree)
    (then_members (member_of (codes "preprocessed") (option_tree preprocessed_tree)) (then_members (member_of (codes "quotient_chunks") (list_tree values_tree))
    (then_members (member_of (codes "random") (option_tree values_tree)) (then_members (member_of (codes "trace_local") values_tree)
    (member_of (codes "trace_next") (option_tree values_tree))))))))

pub same-instance-tree : SameTrees InstancePartsWithin instance_parts_tree InstanceWithin instance_tree
same-instance-tree = record {
  to = λ p. record {
    base = record { trace_local = p.1.1.1.1.1.0; trace_next = p.1.1.1.1.1.1; preprocessed = p.1.1.0; quotient_chunks = p.1.1.1.0; random = p.1.1.1.1.0 };
    permutation_local = p.0;
    permutation_next = p.1.0;
  };
  to_fits = λ p fits. record {
    base = record { trace_local = fits.1.1.1.1.1.0; trace_next = fits.1.1.1.1.1.1; preprocessed = fits.1.1.0; quotient_chunks = fits.1.1.1.0; random = fits.1.1.1.1.0 };
    permutation_local = fits.0;
    permutation_next = fits.1.0;
  };
  to_tree = λ p fits. refl;
  whole = λ i fits. (
    (i.permutation_local, (i.permutation_next, (i.base.preprocessed, (i.base.quotient_chunks, (i.base.random, (i.base.trace_local, i.base.trace_next)))))),
    (fits.permutation_local, (fits.permutation_next, (fits.base.preprocessed, (fits.base.quotient_chunks, (fits.base.random, (fits.base.trace_local, fits.base.trace_next)))))),
    refl,
  );
}

pub instance-form : TreeForm InstanceWithin instance_tree instance_reading
unfolding same-instance-tree
instance-form = same-form same-instance-tree
    (object-form (then-form (member-form (codes "permutation_local") values-form) (then-form (member-form (codes "permutation_next") values-form)
    (then-form (member-form (codes "preprocessed") (option-form refl preprocessed-form)) (then-form (member-form (codes "quotient_chunks") (list-form 0 1024 values-form))
    (then-form (member-form (codes "random") (option-form refl values-form)) (then-form (member-form (codes "trace_local") values-form)
    (member-form (codes "trace_next") (option-form refl values-form)))))))))
