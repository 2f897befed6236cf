-- Parts one after the other, grouped to the right.
use Rattle.std.specs.Prelude.{◌≡◌, List, ◌++◌}
use Rattle.std.proofs.Common.{◌∙◌, append_assoc}

pub four-parts : {A : Type 0} (a b c d : List A) → a ++ b ++ c ++ d ≡ a ++ (b ++ (c ++ d))
four-parts a b c d = append_assoc (a ++ b) c d ∙ append_assoc a b (c ++ d)

pub five-parts : {A : Type 0} (a b c d e : List A) → a ++ b ++ c ++ d ++ e ≡ a ++ (b ++ (c ++ (d ++ e)))
five-parts a b c d e = append_assoc (a ++ b ++ c) d e ∙ four-parts a b c (d ++ e)

pub six-parts : {A : Type 0} (a b c d e f : List A) → a ++ b ++ c ++ d ++ e ++ f ≡ a ++ (b ++ (c ++ (d ++ (e ++ f))))
six-parts a b c d e f = append_assoc (a ++ b ++ c ++ d) e f ∙ five-parts a b c d (e ++ f)
