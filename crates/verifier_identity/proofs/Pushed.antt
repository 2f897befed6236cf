-- One more item of a table of values.
use Rattle.std.proofs.Common.{◌≡◌, ℕ, ◌+◌, List, [], ◌∷◌, ◌++◌, ◌∙◌}
use Rattle.p3_field.specs.Poly.{tabulate}
use Rattle.p3_field.specs.Laws.Tabulate.{tabulate_push}

pub pushed : {A : Type 0} (n : ℕ) (t : ℕ → A) (old new : List A) (x : A) → old ≡ tabulate n t → x ≡ t n → new ≡ old ++ x ∷ [] → new ≡ tabulate (n + 1) t
pushed n t old new x is own added = added ∙ tabulate_push n t old x is own
