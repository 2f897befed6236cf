use Rattle.std.proofs.Common.{◌≡◌, ℕ, ◌∙◌, ap}
use Rattle.blake3_compress.specs.declared.words.FourWords.{FourWords}
use Rattle.blake3_compress.specs.Compress.{Quarter, half_quarter_round, half_a, half_b, half_c, half_d}
use Rattle.blake3_compress.specs.Generated.{quarter_of}
use Rattle.blake3_compress.proofs.words.made_words.Goals as goal

made : (s t m n : ℕ) (p : FourWords) (q r : Quarter) → p.a ≡ half_a q m → p.b ≡ half_b s t q m → p.c ≡ half_c s q m → p.d ≡ half_d s q m → q ≡ r → m ≡ n
    → quarter_of p ≡ half_quarter_round s t r n
made s t m n p q r a b c d e f =
    let first : quarter_of p ≡ half_quarter_round s t q m = λ j. record { a = a j; b = b j; c = c j; d = d j } in
    first ∙ (λ j. half_quarter_round s t (e j) (f j))

pub returns : goal.returns
returns c x v hb hs =
    made _ _ _ _ c.half_step.result _ _ c.half_step.ensures.a c.half_step.ensures.b c.half_step.ensures.c c.half_step.ensures.d
    (c.taken_words-words.ensures v hs) (hb c.scheduled_word.result c.scheduled_word.ensures.below ∙ ap x c.scheduled_word.ensures.word)
