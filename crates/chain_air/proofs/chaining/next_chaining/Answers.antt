use Rattle.std.proofs.Common.{◌≡◌, ℕ, List, [], ◌∷◌, get_or, ◌∙◌, ap}
use Rattle.air_core.specs.Joined.{joined}
use Rattle.blake3_compress.specs.Compress.{compress}
use Rattle.blake3_compress.specs.Generated.{input_of, words_of}
use Rattle.chain_air.specs.Generated.{block_words, eight_words}
use Rattle.chain_air.proofs.chaining.next_chaining.Goals as goal

abbrev first_eight : List ℕ → List ℕ
first_eight a = get_or a 0 0 ∷ get_or a 1 0 ∷ get_or a 2 0 ∷ get_or a 3 0 ∷ get_or a 4 0 ∷ get_or a 5 0 ∷ get_or a 6 0 ∷ get_or a 7 0 ∷ []

eight_of : (a words : List ℕ) → a ≡ words_of (compress (input_of words)) → first_eight a ≡ eight_words words
unfolding joined
eight_of a words e = λ j. first_eight (e j)

pub returns : goal.returns
returns c = eight_of c.compress-w.result (block_words c.args.blocks.now c.args.i c.args.chaining.now) (c.compress-w.ensures ∙ ap (λ (ws : List ℕ). words_of (compress (input_of ws))) c.row_words.ensures)
