use Rattle.std.proofs.Common.{◌≡◌, ℕ, [], ◌∷◌, ◌∙◌, ap, arith}
use Rattle.blake3_compress.specs.declared.words.FourWords.{FourWords}
use Rattle.blake3_compress.specs.Compress.{Quarter, word, half_quarter_round, words_taken, step_of_word}
use Rattle.blake3_compress.specs.TraceRow.{turn_of, d_turn, b_turn, message_of}
use Rattle.blake3_compress.specs.Generated.{quarter_of, IsState}
use Rattle.blake3_compress.proofs.words.after_half_round.Goals as goal

-- a list of four items
four : (a b c d a' b' c' d' : ℕ) → a ≡ a' → b ≡ b' → c ≡ c' → d ≡ d' → a ∷ b ∷ c ∷ d ∷ [] ≡ a' ∷ b' ∷ c' ∷ d' ∷ []
four a b c d a' b' c' d' e f g h = λ j. e j ∷ f j ∷ g j ∷ h j ∷ []

-- by columns
columns : (p q r s : FourWords) (f : ℕ → Quarter) (t : ℕ) → t ≡ 0 → quarter_of p ≡ f 0 → quarter_of q ≡ f 1 → quarter_of r ≡ f 2 → quarter_of s ≡ f 3
    → IsState (record {
      row0 = p.a ∷ q.a ∷ r.a ∷ s.a ∷ [];
      row1 = p.b ∷ q.b ∷ r.b ∷ s.b ∷ [];
      row2 = p.c ∷ q.c ∷ r.c ∷ s.c ∷ [];
      row3 = p.d ∷ q.d ∷ r.d ∷ s.d ∷ [];
    }) (λ row i. word (f (step_of_word t row i)) row)
columns p q r s f t z a b c d =
    record {
      rows0 = four p.a q.a r.a s.a _ _ _ _ (ap (λ v. word v 0) (a ∙ ap f (omega (arith, z)))) (ap (λ v. word v 0) (b ∙ ap f (omega (arith, z)))) (ap (λ v. word v 0) (c ∙ ap f (omega (arith, z)))) (ap (λ v. word v 0) (d ∙ ap f (omega (arith, z))));
      rows1 = four p.b q.b r.b s.b _ _ _ _ (ap (λ v. word v 1) (a ∙ ap f (omega (arith, z)))) (ap (λ v. word v 1) (b ∙ ap f (omega (arith, z)))) (ap (λ v. word v 1) (c ∙ ap f (omega (arith, z)))) (ap (λ v. word v 1) (d ∙ ap f (omega (arith, z))));
      rows2 = four p.c q.c r.c s.c _ _ _ _ (ap (λ v. word v 2) (a ∙ ap f (omega (arith, z)))) (ap (λ v. word v 2) (b ∙ ap f (omega (arith, z)))) (ap (λ v. word v 2) (c ∙ ap f (omega (arith, z)))) (ap (λ v. word v 2) (d ∙ ap f (omega (arith, z))));
      rows3 = four p.d q.d r.d s.d _ _ _ _ (ap (λ v. word v 3) (a ∙ ap f (omega (arith, z)))) (ap (λ v. word v 3) (b ∙ ap f (omega (arith, z)))) (ap (λ v. word v 3) (c ∙ ap f (omega (arith, z)))) (ap (λ v. word v 3) (d ∙ ap f (omega (arith, z))));
    }

-- by diagonals
diagonals : (p q r s : FourWords) (f : ℕ → Quarter) (t : ℕ) → t ≡ 1 → quarter_of p ≡ f 0 → quarter_of q ≡ f 1 → quarter_of r ≡ f 2 → quarter_of s ≡ f 3
    → IsState (record {
      row0 = p.a ∷ q.a ∷ r.a ∷ s.a ∷ [];
      row1 = s.b ∷ p.b ∷ q.b ∷ r.b ∷ [];
      row2 = r.c ∷ s.c ∷ p.c ∷ q.c ∷ [];
      row3 = q.d ∷ r.d ∷ s.d ∷ p.d ∷ [];
    }) (λ row i. word (f (step_of_word t row i)) row)
diagonals p q r s f t z a b c d =
    record {
      rows0 = four p.a q.a r.a s.a _ _ _ _ (ap (λ v. word v 0) (a ∙ ap f (omega (arith, z)))) (ap (λ v. word v 0) (b ∙ ap f (omega (arith, z)))) (ap (λ v. word v 0) (c ∙ ap f (omega (arith, z)))) (ap (λ v. word v 0) (d ∙ ap f (omega (arith, z))));
      rows1 = four s.b p.b q.b r.b _ _ _ _ (ap (λ v. word v 1) (d ∙ ap f (omega (arith, z)))) (ap (λ v. word v 1) (a ∙ ap f (omega (arith, z)))) (ap (λ v. word v 1) (b ∙ ap f (omega (arith, z)))) (ap (λ v. word v 1) (c ∙ ap f (omega (arith, z))));
      rows2 = four r.c s.c p.c q.c _ _ _ _ (ap (λ v. word v 2) (c ∙ ap f (omega (arith, z)))) (ap (λ v. word v 2) (d ∙ ap f (omega (arith, z)))) (ap (λ v. word v 2) (a ∙ ap f (omega (arith, z)))) (ap (λ v. word v 2) (b ∙ ap f (omega (arith, z))));
      rows3 = four q.d r.d s.d p.d _ _ _ _ (ap (λ v. word v 3) (b ∙ ap f (omega (arith, z)))) (ap (λ v. word v 3) (c ∙ ap f (omega (arith, z)))) (ap (λ v. word v 3) (d ∙ ap f (omega (arith, z)))) (ap (λ v. word v 3) (a ∙ ap f (omega (arith, z))));
    }

pub returns-then-n-eq0 : goal.returns-then-n-eq0
returns-then-n-eq0 c x v hb hs =
    let n = c.args.n in
    columns _ _ _ _ (λ g. half_quarter_round (d_turn n) (b_turn n) (words_taken (turn_of n) v g) (x (message_of n g))) (turn_of n) (omega arith)
    (c.made_words-p.ensures x v hb hs) (c.made_words-q.ensures x v hb hs) (c.made_words-r.ensures x v hb hs) (c.made_words-s.ensures x v hb hs)

pub returns : goal.returns
returns c x v hb hs =
    let n = c.args.n in
    diagonals _ _ _ _ (λ g. half_quarter_round (d_turn n) (b_turn n) (words_taken (turn_of n) v g) (x (message_of n g))) (turn_of n) (omega arith)
    (c.made_words-p.ensures x v hb hs) (c.made_words-q.ensures x v hb hs) (c.made_words-r.ensures x v hb hs) (c.made_words-s.ensures x v hb hs)
