-- Which values that are opened of one table a tree is.
use Rattle.std.specs.Prelude.{List, codes, Option, option_map}
use Rattle.p3_field.specs.declared.quartic.QuarticExtension.{QuarticExtension}
use Rattle.p3_uni_stark.specs.Opened.{PreprocessedData}
use Rattle.batch_statement.specs.Proof.{OpenedWithLookups}
use Rattle.serde_json.specs.Data.{Data}
use Rattle.json_forms.specs.Readings.{list_reading, option_reading, extension_reading, member_reading, then_reading, object_reading}

abbrev pub values_reading : Data → Option (List QuarticExtension)
values_reading = list_reading 0 65536 extension_reading

abbrev pub preprocessed_reading : Data → Option (PreprocessedData QuarticExtension)
preprocessed_reading d =
    option_map (λ p. record { local = p.0; next = p.1 })
    (object_reading (then_reading (member_reading (codes "local") values_reading) (member_reading (codes "next") (option_reading values_reading))) d)

abbrev pub instance_reading : Data → Option (OpenedWithLookups QuarticExtension)
instance_reading d =
    option_map (λ p. record {
      base = record { trace_local = p.1.1.1.1.1.0; trace_next = p.1.1.1.1.1.1; preprocessed = p.1.1.0; quotient_chunks = p.1.1.1.0; random = p.1.1.1.1.0 };
      permutation_local = p.0;
      permutation_next = p.1.0;
    })
    (object_reading (then_reading (member_reading (codes "permutation_local") values_reading) (then_reading (member_reading (codes "permutation_next") values_reading)
    (then_reading (member_reading (codes "preprocessed") (option_reading preprocessed_reading)) (then_reading (member_reading (codes "quotient_chunks") (list_reading 0 1024 values_reading))
    (then_reading (member_reading (codes "random") (option_reading values_reading)) (then_reading (member_reading (codes "trace_local") values_reading)
    (member_reading (codes "trace_next") (option_reading values_reading)))))))) d)
