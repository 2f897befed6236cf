-- What is printed of the row of one compression.
use Rattle.std.specs.Prelude.{◌≡◌, ℕ, List, ◌++◌}
use Rattle.blake3_compress.specs.Compress.{Input, compress}
use Rattle.blake3_compress.specs.Generated.{words_of}
use Rattle.blake3_compress.specs.TraceRow.{AreWords, trace_row}
use Rattle.p3_field.specs.BabyBear.{baby_bear_ring}
use Rattle.p3_field.specs.Poly.{tabulate}
use Rattle.p3_field.specs.declared.baby_bear.BabyBear.{BabyBear}
use Rattle.tool_hash_lines.specs.RowText.{row_line, words_line}

-- the 28 words that are compressed, and the 16 of the compression
unfoldable pub printed_compression_words : Input → List ℕ
printed_compression_words x = tabulate 28 x ++ words_of (compress x)

-- The law of a row that is one compression's: it is readable, and its line is that of these words.
abbrev pub PrintsCompressions : Type 0
PrintsCompressions = (row : ℕ) (cells : List BabyBear) (x : Input) → AreWords x → cells ≡ trace_row baby_bear_ring x → row_line row cells ≡ words_line (printed_compression_words x)
