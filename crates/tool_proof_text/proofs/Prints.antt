-- Parts that are printed one after the other.
use Rattle.std.proofs.Common.{◌≡◌, ℕ, List, ◌++◌}
use Rattle.tool_lines.specs.Texts.{line_text}
use Rattle.tool_lines.specs.Laws.Prints.{prints-part}

pub prints-three : (front a b c p q r : List ℕ) → a ≡ front ++ line_text p → b ≡ a ++ line_text q → c ≡ b ++ line_text r → c ≡ front ++ line_text (p ++ q ++ r)
prints-three front a b c p q r h1 h2 h3 = prints-part front b c (p ++ q) r (prints-part front a b p q h1 h2) h3

pub prints-four : (front a b c d p q r s : List ℕ) → a ≡ front ++ line_text p → b ≡ a ++ line_text q → c ≡ b ++ line_text r → d ≡ c ++ line_text s
    → d ≡ front ++ line_text (p ++ q ++ r ++ s)
prints-four front a b c d p q r s h1 h2 h3 h4 = prints-part front c d (p ++ q ++ r) s (prints-three front a b c p q r h1 h2 h3) h4

pub prints-five : (front a b c d e p q r s t : List ℕ) → a ≡ front ++ line_text p → b ≡ a ++ line_text q → c ≡ b ++ line_text r → d ≡ c ++ line_text s
    → e ≡ d ++ line_text t → e ≡ front ++ line_text (p ++ q ++ r ++ s ++ t)
prints-five front a b c d e p q r s t h1 h2 h3 h4 h5 = prints-part front d e (p ++ q ++ r ++ s) t (prints-four front a b c d p q r s h1 h2 h3 h4) h5

pub prints-six : (front a b c d e f p q r s t u : List ℕ) → a ≡ front ++ line_text p → b ≡ a ++ line_text q → c ≡ b ++ line_text r → d ≡ c ++ line_text s
    → e ≡ d ++ line_text t → f ≡ e ++ line_text u → f ≡ front ++ line_text (p ++ q ++ r ++ s ++ t ++ u)
prints-six front a b c d e f p q r s t u h1 h2 h3 h4 h5 h6 = prints-part front e f (p ++ q ++ r ++ s ++ t) u (prints-five front a b c d e p q r s t h1 h2 h3 h4 h5) h6
