-- The text of a list of words.
use Rattle.std.proofs.Common.{◌≡◌, ℕ, List, [], ◌∷◌, ◌++◌, map, sym, ap}
use Rattle.std.specs.Prelude.{flat_map}
use Rattle.std.specs.List.{join_with_byte}
use Rattle.std.proofs.lemmas.List.{append-nil}
use Rattle.tool_hash_lines.specs.RowText.{word_text, words_line}

-- the first word, each other after a space, and an LF
joined_texts : (w : ℕ) (ws : List ℕ) → join_with_byte 32 (map word_text (w ∷ ws)) ≡ word_text w ++ flat_map (λ v. 32 ∷ word_text v) ws
joined_texts w [] = sym (append-nil (word_text w))
joined_texts w (v ∷ ws) = ap (λ t. word_text w ++ (32 ∷ t)) (joined_texts v ws)

pub words_line_is : (w : ℕ) (ws : List ℕ) → words_line (w ∷ ws) ≡ word_text w ++ flat_map (λ v. 32 ∷ word_text v) ws ++ 10 ∷ []
unfolding words_line
words_line_is w ws = ap (λ t. t ++ 10 ∷ []) (joined_texts w ws)
