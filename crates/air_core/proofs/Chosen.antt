-- What is chosen of a list.
use Rattle.std.proofs.Common.{◌≡◌, ℕ, zero, suc, ◌<◌, Bool, true, false, cond, List, [], ◌∷◌, length, map, filter, get_or, refl, ◌∙◌, arith}
use Rattle.air_core.specs.declared.node.Node.{Node}
use Rattle.air_core.specs.declared.recorded.Assertion.{Assertion}
use Rattle.air_core.specs.Recording.{asserted_at, asserted_in, trees_over}
use Rattle.air_core.specs.Symbolic.{tree_at}
use Rattle.air_core.specs.Laws.Places.{trees_over_is}

chosen_first : {X : Type 0} (b : Bool) (x : X) (xs : List X) → b ≡ true → cond b (x ∷ xs) xs ≡ [] → ⊥
chosen_first true x xs h e = cc
chosen_first false x xs h e = cc

chosen_rest : {X : Type 0} (b : Bool) (x : X) (xs : List X) → cond b (x ∷ xs) xs ≡ [] → xs ≡ []
chosen_rest true x xs e = absurd cc
chosen_rest false x xs e = e

-- where nothing is chosen, no item passes
pub none_chosen : {X : Type 0} (p : X → Bool) (xs : List X) (i : ℕ) (d : X) → filter p xs ≡ [] → i < length xs → p (get_or xs i d) ≡ true → ⊥
none_chosen p [] i d e l h = absurd (omega (arith, l))
none_chosen p (x ∷ xs) zero d e l h = chosen_first (p x) x (filter p xs) h e
none_chosen p (x ∷ xs) (suc i) d e l h = none_chosen p xs i d (chosen_rest (p x) x (filter p xs) e) (omega (arith, l)) h

mapped_none : {X Y : Type 0} (f : X → Y) (xs : List X) → map f xs ≡ [] → xs ≡ []
mapped_none f [] e = refl
mapped_none f (x ∷ xs) e = absurd cc

-- where no tree was asserted over the field, there is no such assertion
pub none_asserted : {F : Type 0} (ns : List (Node F)) (extension : Bool) (xs : List Assertion) → trees_over extension (asserted_at ns xs) ≡ [] → asserted_in extension xs ≡ []
none_asserted ns extension xs e = mapped_none (λ a. tree_at ns a.place) (asserted_in extension xs) (trees_over_is ns extension xs ∙ e)
