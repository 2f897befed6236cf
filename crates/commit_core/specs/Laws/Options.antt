-- What clauses on an option lead to.
use Rattle.std.proofs.Common.{Option, Some, None, rules}
use Rattle.std.specs.Prelude.{MatchOption, IsSome}

pub match_weaker : {X : Type 0} (o : Option X) (P P' : Type 0) (Q Q' : X → Type 0) → (P → P') → ((x : X) → Q x → Q' x) → MatchOption o P Q → MatchOption o P' Q'
match_weaker None P P' Q Q' f g m = f m
match_weaker (Some x) P P' Q Q' f g m = g x m

pub match_some : {X : Type 0} (o : Option X) (P : Type 0) (Q : X → Type 0) → (P → ⊥) → MatchOption o P Q → IsSome o
match_some None P Q n m = absurd (n m)
match_some (Some x) P Q n m = search rules
