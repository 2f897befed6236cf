-- The texts of the values that are opened of one table, and their limits (this project's own).
use Rattle.std.specs.Prelude.{ℕ, List, ◌++◌}
use Rattle.p3_field.specs.declared.quartic.QuarticExtension.{QuarticExtension}
use Rattle.p3_uni_stark.specs.Opened.{PreprocessedData, OpenedData}
use Rattle.batch_statement.specs.Proof.{OpenedWithLookups}
use Rattle.tool_lines.specs.Texts.{extension_numbers, list_numbers, option_numbers, Unlimited, ListWithin, OptionWithin}

-- a list of values: at most 65536
abbrev pub values_numbers : List QuarticExtension → List ℕ
values_numbers xs = list_numbers extension_numbers xs

abbrev pub ValuesWithin : List QuarticExtension → Type 0
ValuesWithin xs = ListWithin 0 65536 Unlimited xs

-- the preprocessed columns' values: those at the drawn point, and those at the next, which may be absent
abbrev pub preprocessed_numbers : PreprocessedData QuarticExtension → List ℕ
preprocessed_numbers p = values_numbers p.local ++ option_numbers values_numbers p.next

pub record PreprocessedWithin (p : PreprocessedData QuarticExtension) : Type 0 where
  pub local : ValuesWithin p.local
  pub next : OptionWithin ValuesWithin p.next

-- what a proof of the table alone opens: at most 1024 quotient chunks
abbrev pub opened_numbers : OpenedData QuarticExtension → List ℕ
opened_numbers o =
    values_numbers o.trace_local ++ option_numbers values_numbers o.trace_next ++ option_numbers preprocessed_numbers o.preprocessed
    ++ list_numbers values_numbers o.quotient_chunks ++ option_numbers values_numbers o.random

pub record OpenedWithin (o : OpenedData QuarticExtension) : Type 0 where
  pub trace_local : ValuesWithin o.trace_local
  pub trace_next : OptionWithin ValuesWithin o.trace_next
  pub preprocessed : OptionWithin PreprocessedWithin o.preprocessed
  pub quotient_chunks : ListWithin 0 1024 ValuesWithin o.quotient_chunks
  pub random : OptionWithin ValuesWithin o.random

-- the same with the permutation columns' values, at the drawn point and at the next
abbrev pub instance_numbers : OpenedWithLookups QuarticExtension → List ℕ
instance_numbers i = opened_numbers i.base ++ values_numbers i.permutation_local ++ values_numbers i.permutation_next

pub record InstanceWithin (i : OpenedWithLookups QuarticExtension) : Type 0 where
  pub base : OpenedWithin i.base
  pub permutation_local : ValuesWithin i.permutation_local
  pub permutation_next : ValuesWithin i.permutation_next
