-- Texts that grow part by part.
use Rattle.std.proofs.Common.{◌≡◌, List, ◌++◌, append_assoc}

-- five parts after a text are one part
pub appends-five : {A : Type 0} (out h e l b f x1 x2 x3 x4 x5 : List A) → x1 ≡ out ++ h → x2 ≡ x1 ++ e → x3 ≡ x2 ++ l → x4 ≡ x3 ++ b → x5 ≡ x4 ++ f
    → x5 ≡ out ++ (h ++ e ++ l ++ b ++ f)
appends-five out h e l b f x1 x2 x3 x4 x5 p q r s t =
    cc (p, q, r, s, t, append_assoc out (h ++ e ++ l ++ b) f, append_assoc out (h ++ e ++ l) b, append_assoc out (h ++ e) l, append_assoc out h e)
