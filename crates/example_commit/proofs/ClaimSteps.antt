-- Claims that are put together step by step.
use Rattle.std.proofs.Common.{◌≡◌, ◌∙◌, List, subst, sym, ap}
use Rattle.commit_core.specs.Claims.{MatrixClaim}
use Rattle.example_commit.specs.Rounds.{HaveRoundShape, matrix_claims}

pub shape_along : {E D : Type 0} (ds cs : List D) (xs ws : List (List E)) (ys vs : List (List (List E))) → ds ≡ cs → xs ≡ ws → ys ≡ vs → HaveRoundShape ds xs ys → HaveRoundShape cs ws vs
shape_along ds cs xs ws ys vs a b e h = subst (λ l. HaveRoundShape cs ws l) e (subst (λ l. HaveRoundShape cs l ys) b (subst (λ l. HaveRoundShape l xs ys) a h))

pub claims_along : {E D : Type 0} (ms : List (MatrixClaim E D)) (ds cs : List D) (xs ws : List (List E)) (ys vs : List (List (List E))) → ds ≡ cs → xs ≡ ws → ys ≡ vs → ms ≡ matrix_claims cs ws vs → ms ≡ matrix_claims ds xs ys
claims_along ms ds cs xs ws ys vs a b e h = h ∙ sym (ap (λ l. matrix_claims l xs ys) a ∙ (ap (λ l. matrix_claims cs l ys) b ∙ ap (matrix_claims cs ws) e))
