-- How the printing of a part is a part of the printing of the whole.
use Rattle.std.proofs.Common.{◌≡◌, ℕ, ◌+◌, ◌<◌, List, [], ◌∷◌, ◌++◌, length, take, get_or, sym, ◌∙◌, ap, append_assoc, Option}
use Rattle.std.specs.Prelude.{map, option_map}
use Rattle.std.proofs.lemmas.List.{take_more, map-id}
use Rattle.std.proofs.lemmas.Iterator.Adapters.{option_map_id}
use Rattle.tool_lines.specs.Texts.{line_text}
use Rattle.tool_lines.specs.Laws.Lines.{line_text-append}

-- a part after what stands already
pub prints-part : (front old new v w : List ℕ) → old ≡ front ++ line_text v → new ≡ old ++ line_text w → new ≡ front ++ line_text (v ++ w)
prints-part front old new v w e f =
    f ∙ (ap (λ (l : List ℕ). l ++ line_text w) e ∙ (append_assoc front (line_text v) (line_text w) ∙ ap (λ (l : List ℕ). front ++ l) (sym (line_text-append v w))))

pub prints-seven : (front a b c d e f g p q r s t u v : List ℕ) → a ≡ front ++ line_text p → b ≡ a ++ line_text q → c ≡ b ++ line_text r → d ≡ c ++ line_text s
    → e ≡ d ++ line_text t → f ≡ e ++ line_text u → g ≡ f ++ line_text v → g ≡ front ++ line_text (p ++ q ++ r ++ s ++ t ++ u ++ v)
prints-seven front a b c d e f g p q r s t u v h1 h2 h3 h4 h5 h6 h7 =
    prints-part front f g (p ++ q ++ r ++ s ++ t ++ u) v
    (prints-part front e f (p ++ q ++ r ++ s ++ t) u
    (prints-part front d e (p ++ q ++ r ++ s) t (prints-part front c d (p ++ q ++ r) s (prints-part front b c (p ++ q) r (prints-part front a b p q h1 h2) h3) h4) h5) h6) h7

pub prints-nine : (front a b c d e f g i j p q r s t u v w x : List ℕ) → a ≡ front ++ line_text p → b ≡ a ++ line_text q → c ≡ b ++ line_text r → d ≡ c ++ line_text s
    → e ≡ d ++ line_text t → f ≡ e ++ line_text u → g ≡ f ++ line_text v → i ≡ g ++ line_text w → j ≡ i ++ line_text x
    → j ≡ front ++ line_text (p ++ q ++ r ++ s ++ t ++ u ++ v ++ w ++ x)
prints-nine front a b c d e f g i j p q r s t u v w x h1 h2 h3 h4 h5 h6 h7 h8 h9 =
    prints-part front i j (p ++ q ++ r ++ s ++ t ++ u ++ v ++ w) x
    (prints-part front g i (p ++ q ++ r ++ s ++ t ++ u ++ v) w (prints-seven front a b c d e f g p q r s t u v h1 h2 h3 h4 h5 h6 h7) h8) h9

-- one more number
pub prints-number : (xs : List ℕ) (i : ℕ) (front old new : List ℕ) → i < length xs → old ≡ front ++ line_text (take i xs) → new ≡ old ++ line_text (get_or xs i 0 ∷ [])
    → new ≡ front ++ line_text (take (i + 1) xs)
prints-number xs i front old new room e f = prints-part front old new (take i xs) (get_or xs i 0 ∷ []) e f ∙ ap (λ (l : List ℕ). front ++ line_text l) (sym (take_more xs i 0 room))

-- values that are their own data: a list of them, and one that may be absent
pub prints-items : {A : Type 0} (words : List A → List ℕ) (xs : List A) (old new : List ℕ) → new ≡ old ++ line_text (words (map (λ x. x) xs)) → new ≡ old ++ line_text (words xs)
prints-items words xs old new e = e ∙ ap (λ (l : List _). old ++ line_text (words l)) (map-id xs)

pub prints-option : {A : Type 0} (words : Option A → List ℕ) (o : Option A) (old new : List ℕ) → new ≡ old ++ line_text (words (option_map (λ x. x) o)) → new ≡ old ++ line_text (words o)
prints-option words o old new e = e ∙ ap (λ (l : Option _). old ++ line_text (words l)) (option_map_id o)
