-- Texts that are appended piece by piece.
use Rattle.std.proofs.Common.{◌≡◌, ℕ, suc, ◌+◌, ◌-◌, ◌<◌, ◌≤◌, List, [], ◌∷◌, ◌++◌, length, get_or, take, drop, sym, ◌∙◌, ap, arith, append_assoc}
use Rattle.std.specs.Prelude.{flat_map}
use Rattle.std.proofs.Math.Seq.{take-length}
use Rattle.std.proofs.lemmas.List.{take_all}
use Rattle.air_core.specs.Joined.{joined}
use Rattle.tool_hash_lines.specs.Laws.RowText.{words_line_is}
use Rattle.tool_hash_lines.specs.RowText.{word_text, words_line}

-- the first word, all others after spaces, and an LF
pub line_made : (ws : List ℕ) (old a b new : List ℕ) (i : ℕ) → 0 < length ws → a ≡ old ++ word_text (get_or ws 0 0)
    → b ≡ a ++ flat_map (λ v. 32 ∷ word_text v) (take i (take (length ws - 1) (drop 1 ws))) → length (take (length ws - 1) (drop 1 ws)) ≤ i → new ≡ b ++ 10 ∷ [] → new ≡ old ++ words_line ws
line_made [] old a b new i pos e f le g = absurd (omega (arith, pos))
line_made (w ∷ ws) old a b new i pos e f le g =
    let others = take (length (w ∷ ws) - 1) (drop 1 (w ∷ ws)) in
    let n : length (w ∷ ws) - 1 ≡ length ws = omega arith in
    let whole : others ≡ ws = ap (λ m. take m ws) n ∙ take-length ws in
    let rest : take i others ≡ ws = take_all i others le ∙ whole in
    let spaced : List ℕ → List ℕ = λ vs. flat_map (λ v. 32 ∷ word_text v) vs in
    let first : a ≡ old ++ word_text w = e in
    let body : b ≡ old ++ word_text w ++ spaced ws = f ∙ (ap (λ t. t ++ spaced (take i others)) first ∙ ap (λ vs. old ++ word_text w ++ spaced vs) rest) in
    g ∙ (ap (λ t. t ++ 10 ∷ []) body ∙ (ap (λ t. t ++ 10 ∷ []) (append_assoc old (word_text w) (spaced ws)) ∙ (append_assoc old (word_text w ++ spaced ws) (10 ∷ [])
    ∙ ap (λ t. old ++ t) (sym (words_line_is w ws)))))

-- one list more
pub one_more : {A : Type 0} (n : ℕ) (t : ℕ → List A) (old a b : List A) → a ≡ old ++ joined n t → b ≡ a ++ t n → b ≡ old ++ joined (n + 1) t
unfolding joined
one_more n t old a b e f =
    let s : suc n ≡ n + 1 = omega arith in
    f ∙ (ap (λ x. x ++ t n) e ∙ (append_assoc old (joined n t) (t n) ∙ ap (λ m. old ++ joined m t) s))
