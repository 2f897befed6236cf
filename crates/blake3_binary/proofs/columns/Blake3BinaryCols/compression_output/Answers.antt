use Rattle.std.proofs.Common.{◌≡◌, ℕ, ◌∙◌, [], ◌∷◌}
use Rattle.std.specs.Prelude.{bit_xor}
use Rattle.air_core.specs.Joined.{joined}
use Rattle.blake3_compress.specs.declared.words.FourWords.{FourWords}
use Rattle.blake3_compress.specs.Compress.{Input, chaining, output_of}
use Rattle.blake3_compress.specs.Generated.{quarter_of, words_of}
use Rattle.blake3_binary.specs.Output.{step_words, state_read, AreRead, AreCounted}
use Rattle.blake3_binary.specs.Laws.Output.{row_d1, row_b1, row_d2, row_b2, row_is_read, output_read}
use Rattle.blake3_binary.proofs.columns.Blake3BinaryCols.compression_output.Goals as goal

all_words : (x : Input) (d1 b1 d2 b2 : ℕ → ℕ) (p q s t : FourWords) (c0 c1 c2 c3 c4 c5 c6 c7 : ℕ)
    → quarter_of p ≡ step_words (d1 0) (b1 0) (d2 0) (b2 0) → quarter_of q ≡ step_words (d1 1) (b1 1) (d2 1) (b2 1)
    → quarter_of s ≡ step_words (d1 2) (b1 2) (d2 2) (b2 2) → quarter_of t ≡ step_words (d1 3) (b1 3) (d2 3) (b2 3)
    → c0 ≡ chaining x 0 → c1 ≡ chaining x 1 → c2 ≡ chaining x 2 → c3 ≡ chaining x 3 → c4 ≡ chaining x 4 → c5 ≡ chaining x 5 → c6 ≡ chaining x 6 → c7 ≡ chaining x 7
    → bit_xor p.a s.c ∷ bit_xor q.a t.c ∷ bit_xor s.a p.c ∷ bit_xor t.a q.c ∷ bit_xor t.b q.d ∷ bit_xor p.b s.d ∷ bit_xor q.b t.d ∷ bit_xor s.b p.d ∷ bit_xor s.c c0 ∷ bit_xor t.c c1 ∷ bit_xor p.c c2 ∷ bit_xor q.c c3 ∷ bit_xor q.d c4 ∷ bit_xor s.d c5 ∷ bit_xor t.d c6 ∷ bit_xor p.d c7 ∷ [] ≡ words_of (output_of x (state_read d1 b1 d2 b2))
unfolding joined
all_words x d1 b1 d2 b2 p q s t c0 c1 c2 c3 c4 c5 c6 c7 ep eq es et h0 h1 h2 h3 h4 h5 h6 h7 =
    λ j. bit_xor (ep j).a (es j).c ∷ bit_xor (eq j).a (et j).c ∷ bit_xor (es j).a (ep j).c ∷ bit_xor (et j).a (eq j).c ∷ bit_xor (et j).b (eq j).d ∷ bit_xor (ep j).b (es j).d ∷ bit_xor (eq j).b (et j).d ∷ bit_xor (es j).b (ep j).d ∷ bit_xor (es j).c (h0 j) ∷ bit_xor (et j).c (h1 j) ∷ bit_xor (ep j).c (h2 j) ∷ bit_xor (eq j).c (h3 j) ∷ bit_xor (eq j).d (h4 j) ∷ bit_xor (es j).d (h5 j) ∷ bit_xor (et j).d (h6 j) ∷ bit_xor (ep j).d (h7 j) ∷ []

pub returns : goal.returns
returns g c =
    let words = λ (x : Input) (d1 b1 d2 b2 : ℕ → ℕ) (h : AreRead g.F.RingCore.ring c.args.self.now.row.now x d1 b1 d2 b2).
    all_words x d1 b1 d2 b2 c.last_words-p.result c.last_words-q.result c.last_words-r.result c.last_words-s.result _ _ _ _ _ _ _ _
    (c.last_words-p.ensures.words x d1 b1 d2 b2 h) (c.last_words-q.ensures.words x d1 b1 d2 b2 h) (c.last_words-r.ensures.words x d1 b1 d2 b2 h) (c.last_words-s.ensures.words x d1 b1 d2 b2 h)
    (c.chaining_word.ensures.words x d1 b1 d2 b2 h) (c.chaining_word-2.ensures.words x d1 b1 d2 b2 h) (c.chaining_word-3.ensures.words x d1 b1 d2 b2 h) (c.chaining_word-4.ensures.words x d1 b1 d2 b2 h)
    (c.chaining_word-5.ensures.words x d1 b1 d2 b2 h) (c.chaining_word-6.ensures.words x d1 b1 d2 b2 h) (c.chaining_word-7.ensures.words x d1 b1 d2 b2 h) (c.chaining_word-8.ensures.words x d1 b1 d2 b2 h) in
    let counted = λ (x : Input) (d1 b1 d2 b2 : ℕ → ℕ) (h : AreCounted g.F.RingCore.ring c.args.self.now.row.now x d1 b1 d2 b2).
    all_words x d1 b1 d2 b2 c.last_words-p.result c.last_words-q.result c.last_words-r.result c.last_words-s.result _ _ _ _ _ _ _ _
    (c.last_words-p.ensures.counted x d1 b1 d2 b2 h) (c.last_words-q.ensures.counted x d1 b1 d2 b2 h) (c.last_words-r.ensures.counted x d1 b1 d2 b2 h) (c.last_words-s.ensures.counted x d1 b1 d2 b2 h)
    (c.chaining_word.ensures.counted x d1 b1 d2 b2 h) (c.chaining_word-2.ensures.counted x d1 b1 d2 b2 h) (c.chaining_word-3.ensures.counted x d1 b1 d2 b2 h) (c.chaining_word-4.ensures.counted x d1 b1 d2 b2 h)
    (c.chaining_word-5.ensures.counted x d1 b1 d2 b2 h) (c.chaining_word-6.ensures.counted x d1 b1 d2 b2 h) (c.chaining_word-7.ensures.counted x d1 b1 d2 b2 h) (c.chaining_word-8.ensures.counted x d1 b1 d2 b2 h) in
    record {
      words = words;
      counted = counted;
      compressed = λ x W e. words x (row_d1 x) (row_b1 x) (row_d2 x) (row_b2 x) (row_is_read x g.F.RingCore.ring c.args.self.now.row.now W e) ∙ output_read x W;
    }
