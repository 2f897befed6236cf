-- Words, by their number.
use Rattle.std.proofs.Common.{◌≡◌, ◌<◌, ◌≤◌, List, [], ◌∷◌, length, get_or, sym, ap, arith, map, String, Global}
use Rattle.std.specs.Prelude.{string_bytes}

-- one word
pub one-word : (ws : List (String Global)) (w : String Global) → 1 ≤ length ws → length ws < 2 → w ≡ get_or ws 0 w → map string_bytes ws ≡ string_bytes w ∷ []
one-word [] w a b e = absurd (omega arith)
one-word (x ∷ []) w a b e = ap (λ (t : String Global). string_bytes t ∷ []) (sym e)
one-word (x ∷ y ∷ ws) w a b e = absurd (omega arith)

-- two words
pub two-words : (ws : List (String Global)) (v w : String Global) → 2 ≤ length ws → length ws < 3 → v ≡ get_or ws 0 v → w ≡ get_or ws 1 w
    → map string_bytes ws ≡ string_bytes v ∷ string_bytes w ∷ []
two-words [] v w a b e f = absurd (omega arith)
two-words (x ∷ []) v w a b e f = absurd (omega arith)
two-words (x ∷ y ∷ []) v w a b e f = λ i. string_bytes (sym e i) ∷ string_bytes (sym f i) ∷ []
two-words (x ∷ y ∷ z ∷ ws) v w a b e f = absurd (omega arith)
