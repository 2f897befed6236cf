-- The grammars of the values that are opened of one table.
use Rattle.std.specs.Prelude.{ℕ, List, Option, refl}
use Rattle.std.proofs.Common.{arith, append_assoc}
use Rattle.p3_field.specs.declared.quartic.QuarticExtension.{QuarticExtension}
use Rattle.p3_uni_stark.specs.Opened.{PreprocessedData}
use Rattle.tool_lines.specs.Texts.{Grammar, list_numbers, option_numbers, ListWithin, OptionWithin}
use Rattle.tool_lines.specs.Laws.Grammars.{ThenWithin, pair_numbers, SameTexts, then-grammar, same-grammar, list-grammar, option-grammar, extension-grammar}
use Rattle.tool_proof_text.specs.Openings.{values_numbers, ValuesWithin, preprocessed_numbers, PreprocessedWithin, opened_numbers, OpenedWithin, instance_numbers, InstanceWithin}
use Rattle.tool_proof_text.specs.Laws.Parts.{five-parts}

-- values, values that may be absent, and chunks
pub values-grammar : Grammar ValuesWithin values_numbers
values-grammar = list-grammar 0 65536 (omega arith) (omega arith) extension-grammar

pub some_values-grammar : Grammar (OptionWithin ValuesWithin) (option_numbers values_numbers)
some_values-grammar = option-grammar values-grammar

pub chunks-grammar : Grammar (ListWithin 0 1024 ValuesWithin) (list_numbers values_numbers)
chunks-grammar = list-grammar 0 1024 (omega arith) (omega arith) values-grammar

-- preprocessed values are seen as their two parts
unfoldable pub same-preprocessed : SameTexts (ThenWithin ValuesWithin (OptionWithin ValuesWithin)) (pair_numbers values_numbers (option_numbers values_numbers)) PreprocessedWithin preprocessed_numbers
same-preprocessed = record {
  to = λ p. record { local = p.0; next = p.1 };
  to_fits = λ p fits. record { local = fits.0; next = fits.1 };
  to_numbers = λ p fits. refl;
  whole = λ v fits. ((v.local, v.next), (fits.local, fits.next), refl);
}

pub preprocessed-grammar : Grammar PreprocessedWithin preprocessed_numbers
preprocessed-grammar = same-grammar same-preprocessed (then-grammar values-grammar some_values-grammar)

pub some_preprocessed-grammar : Grammar (OptionWithin PreprocessedWithin) (option_numbers preprocessed_numbers)
some_preprocessed-grammar = option-grammar preprocessed-grammar

-- what is opened of a table, from each of its parts on
abbrev pub ChunkParts : Type 0
ChunkParts = List (List QuarticExtension) × Option (List QuarticExtension)

abbrev pub ChunkPartsWithin : ChunkParts → Type 0
ChunkPartsWithin = ThenWithin (ListWithin 0 1024 ValuesWithin) (OptionWithin ValuesWithin)

abbrev pub chunk_parts_numbers : ChunkParts → List ℕ
chunk_parts_numbers = pair_numbers (list_numbers values_numbers) (option_numbers values_numbers)

pub chunk_parts-grammar : Grammar ChunkPartsWithin chunk_parts_numbers
chunk_parts-grammar = then-grammar chunks-grammar some_values-grammar

abbrev pub PreprocessedParts : Type 0
PreprocessedParts = Option (PreprocessedData QuarticExtension) × ChunkParts

abbrev pub PreprocessedPartsWithin : PreprocessedParts → Type 0
PreprocessedPartsWithin = ThenWithin (OptionWithin PreprocessedWithin) ChunkPartsWithin

abbrev pub preprocessed_parts_numbers : PreprocessedParts → List ℕ
preprocessed_parts_numbers = pair_numbers (option_numbers preprocessed_numbers) chunk_parts_numbers

pub preprocessed_parts-grammar : Grammar PreprocessedPartsWithin preprocessed_parts_numbers
preprocessed_parts-grammar = then-grammar some_preprocessed-grammar chunk_parts-grammar

abbrev pub NextParts : Type 0
NextParts = Option (List QuarticExtension) × PreprocessedParts

abbrev pub NextPartsWithin : NextParts → Type 0
NextPartsWithin = ThenWithin (OptionWithin ValuesWithin) PreprocessedPartsWithin

abbrev pub next_parts_numbers : NextParts → List ℕ
next_parts_numbers = pair_numbers (option_numbers values_numbers) preprocessed_parts_numbers

pub next_parts-grammar : Grammar NextPartsWithin next_parts_numbers
next_parts-grammar = then-grammar some_values-grammar preprocessed_parts-grammar

-- what is opened of a table is seen as its five parts
unfoldable pub same-opened : SameTexts (ThenWithin ValuesWithin NextPartsWithin) (pair_numbers values_numbers next_parts_numbers) OpenedWithin opened_numbers
same-opened = record {
  to = λ p. record { trace_local = p.0; trace_next = p.1.0; preprocessed = p.1.1.0; quotient_chunks = p.1.1.1.0; random = p.1.1.1.1 };
  to_fits = λ p fits. record {
    trace_local = fits.0;
    trace_next = fits.1.0;
    preprocessed = fits.1.1.0;
    quotient_chunks = fits.1.1.1.0;
    random = fits.1.1.1.1;
  };
  to_numbers = λ p fits.
      five-parts (values_numbers p.0) (option_numbers values_numbers p.1.0) (option_numbers preprocessed_numbers p.1.1.0) (list_numbers values_numbers p.1.1.1.0)
      (option_numbers values_numbers p.1.1.1.1);
  whole = λ o fits. (
    (o.trace_local, (o.trace_next, (o.preprocessed, (o.quotient_chunks, o.random)))),
    (fits.trace_local, (fits.trace_next, (fits.preprocessed, (fits.quotient_chunks, fits.random)))),
    refl,
  );
}

pub opened-grammar : Grammar OpenedWithin opened_numbers
opened-grammar = same-grammar same-opened (then-grammar values-grammar next_parts-grammar)

-- the permutation columns' values
abbrev pub PermutationWithin : List QuarticExtension × List QuarticExtension → Type 0
PermutationWithin = ThenWithin ValuesWithin ValuesWithin

abbrev pub permutation_numbers : List QuarticExtension × List QuarticExtension → List ℕ
permutation_numbers = pair_numbers values_numbers values_numbers

pub permutation-grammar : Grammar PermutationWithin permutation_numbers
permutation-grammar = then-grammar values-grammar values-grammar

-- what is opened of a table with lookups is seen as what is opened of the table alone, and the permutation columns' values
unfoldable pub same-instance : SameTexts (ThenWithin OpenedWithin PermutationWithin) (pair_numbers opened_numbers permutation_numbers) InstanceWithin instance_numbers
same-instance = record {
  to = λ p. record { base = p.0; permutation_local = p.1.0; permutation_next = p.1.1 };
  to_fits = λ p fits. record { base = fits.0; permutation_local = fits.1.0; permutation_next = fits.1.1 };
  to_numbers = λ p fits. append_assoc (opened_numbers p.0) (values_numbers p.1.0) (values_numbers p.1.1);
  whole = λ i fits. ((i.base, (i.permutation_local, i.permutation_next)), (fits.base, (fits.permutation_local, fits.permutation_next)), refl);
}

pub instance-grammar : Grammar InstanceWithin instance_numbers
instance-grammar = same-grammar same-instance (then-grammar opened-grammar permutation-grammar)
