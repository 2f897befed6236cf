-- What calls one after another append where the last of them fails, over any relation between states that goes along
-- as `appends` of builders does.
use Rattle.std.proofs.Common.{◌≡◌, ℕ, ◌+◌, min, List, [], ◌++◌, length, take, ◌∙◌, arith}
use Rattle.std.specs.Prelude.{Result, OnErr}
use Rattle.std.proofs.Math.Seq.{take-append-add}
use Rattle.std.proofs.lemmas.List.{take-append-le, take_min}
use Rattle.air_core.specs.Tree.{SomeFirst}
use Rattle.air_core.specs.Laws.Represent.{holds_on_err}

-- nothing was appended
pub none_first : {S A B : Type 0} (G : S → S → List A → List B → Type 0) (a b : S) (ts : List A) (is : List B) → G a b [] [] → SomeFirst (G a b) ts is
none_first G a b ts is p = record { trees = 0; interactions = 0; appended = p }

pub none_on_err : {S A B T E : Type 0} (G : S → S → List A → List B → Type 0) (a b : S) (ts : List A) (is : List B) (r : Result T E)
    → G a b [] [] → OnErr r (SomeFirst (G a b) ts is)
none_on_err G a b ts is r p = holds_on_err r (none_first G a b ts is p)

pub first_on_err : {S A B T E : Type 0} (G : S → S → List A → List B → Type 0) (a b : S) (ts : List A) (is : List B) (r : Result T E) (n m : ℕ)
    → G a b (take n ts) (take m is) → OnErr r (SomeFirst (G a b) ts is)
first_on_err G a b ts is r n m p = holds_on_err r (record { trees = n; interactions = m; appended = p })

front : {A : Type 0} (s t : List A) (n : ℕ) → take (min n (length s)) (s ++ t) ≡ take n s
front s t n = take-append-le (min n (length s)) s t (omega arith) ∙ take_min n s

-- some of the first, of more
pub some_of_more : {S A B : Type 0} (G : S → S → List A → List B → Type 0) (a b : S) (s t : List A) (i j : List B)
    → SomeFirst (G a b) s i → SomeFirst (G a b) (s ++ t) (i ++ j)
some_of_more G a b s t i j h = record {
  trees = min h.trees (length s);
  interactions = min h.interactions (length i);
  appended = rw (front s t h.trees, front i j h.interactions) h.appended;
}

-- all of a call's, and some of the first of the next one's
pub some_after : {S A B : Type 0} {G : S → S → List A → List B → Type 0}
    → ((a b c : S) (s t : List A) (i j : List B) → G a b s i → G b c t j → G a c (s ++ t) (i ++ j))
    → (a b c : S) (s t : List A) (i j : List B) → G a b s i → SomeFirst (G b c) t j → SomeFirst (G a c) (s ++ t) (i ++ j)
some_after along a b c s t i j g h = record {
  trees = length s + h.trees;
  interactions = length i + h.interactions;
  appended = rw (take-append-add s t h.trees, take-append-add i j h.interactions) (along a b c s (take h.trees t) i (take h.interactions j) g h.appended);
}
