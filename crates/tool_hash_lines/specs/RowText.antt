-- The line that is printed of a row of a hash table.
use Rattle.std.specs.Prelude.{ℕ, List, [], ◌∷◌, ◌++◌, map, codes, decimal, if◌then◌else◌}
use Rattle.std.specs.Int.{to_be_bytes, w32}
use Rattle.std.specs.List.{join_with_byte}
use Rattle.hex.specs.Hex.{encode_lower}
use Rattle.p3_field.specs.declared.baby_bear.BabyBear.{BabyBear}
use Rattle.tool_hash_lines.specs.RowWords.{is_readable, printed_words}

-- a word in 8 lower-case hexadecimal digits, the highest first: those of its four bytes, the highest first
unfoldable pub word_text : ℕ → List ℕ
word_text w = encode_lower (to_be_bytes w32 w)

-- words joined by single spaces, and an LF
unfoldable pub words_line : List ℕ → List ℕ
words_line words = join_with_byte 32 (map word_text words) ++ 10 ∷ []

-- the line of a row that has a cell among those of its words that is no bit
unfoldable pub unreadable_line : (row : ℕ) → List ℕ
unreadable_line row = codes "row " ++ decimal row ++ codes " unreadable\n"

-- the line of the row of this number with these cells
abbrev pub row_line : (row : ℕ) → List BabyBear → List ℕ
row_line row cells = if is_readable cells then words_line (printed_words cells) else unreadable_line row
