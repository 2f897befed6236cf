-- Answers for lists of checks one after another, and for checks in turn.
use Rattle.std.proofs.Common.{◌≡◌, ℕ, ◌<◌, List, [], ◌∷◌, ◌++◌, Result, Ok, Err, sym, ◌∙◌, subst, inl, inr}
use Rattle.std.specs.Prelude.{IfErr}
use Rattle.std.specs.Result.{IsErrAnd}
use Rattle.p3_field.specs.Checks.{Check, check, NoneFails, FirstFails, in_turn}
use Rattle.p3_field.specs.Laws.Checks.{none_append, none_before, none_after, none_first, first_stops, first_after, first_parted, refused_in_turn}
use Rattle.batch_setup.specs.Verdict.{IsSetUp, IsSetupRefusal}
use Rattle.batch_setup.specs.declared.error.SetupError.{SetupError}
use Rattle.batch_setup.specs.declared.error.SetupError.TheVariants.{LengthMismatch, PreprocessedHeight, Pcs, LookupBudget, OutOfMemory}

-- what the exit of a `?` returns is the error of the call before it
pub exits : {T E : Type 0} (cs : List (Check (SetupError E))) (e : SetupError E) (r : Result T (SetupError E)) → IsErrAnd r (λ y. y ≡ e) → IsSetupRefusal cs e → IsSetUp cs r
exits cs e (Err y) p v = subst (IsSetupRefusal cs) (sym p) v
exits cs e (Ok t) p v = absurd p

-- such an error isn't out of memory where that of the call is another
pub no_memory : {T E : Type 0} (P : Type 0) (e : SetupError E) (r : Result T (SetupError E)) → IsErrAnd r (λ y. y ≡ e) → e ≡ LengthMismatch → IfErr r (λ y. y ≡ OutOfMemory → P)
no_memory P e (Err y) p v = λ m. absurd (let q : LengthMismatch ≡ OutOfMemory = sym v ∙ (sym p ∙ m) in cc)
no_memory P e (Ok t) p v = absurd p

-- and what holds anyway holds where memory ran out
pub whatever_memory : {T E P : Type 0} (r : Result T (SetupError E)) → P → IfErr r (λ y. y ≡ OutOfMemory → P)
whatever_memory (Err y) h = λ m. h
whatever_memory (Ok t) h = tt

-- what a list of checks is refused with comes of each list that is refused so
pub refusal_along : {E : Type 0} (xs ys : List (Check (SetupError E))) (e : SetupError E) → ((d : SetupError E) → FirstFails xs d → FirstFails ys d) → IsSetupRefusal xs e → IsSetupRefusal ys e
refusal_along xs ys LengthMismatch f v = f LengthMismatch v
refusal_along xs ys (PreprocessedHeight i) f v = f (PreprocessedHeight i) v
refusal_along xs ys (Pcs p s) f v = f (Pcs p s) v
refusal_along xs ys (LookupBudget i c b) f v = f (LookupBudget i c b) v
refusal_along xs ys OutOfMemory f v = tt

pub refused_before : {E : Type 0} (xs ys : List (Check (SetupError E))) (e : SetupError E) → IsSetupRefusal xs e → IsSetupRefusal (xs ++ ys) e
refused_before xs ys e v = refusal_along xs (xs ++ ys) e (λ d. first_stops xs ys d) v

pub refused_after : {E : Type 0} (xs ys : List (Check (SetupError E))) (e : SetupError E) → NoneFails xs → IsSetupRefusal ys e → IsSetupRefusal (xs ++ ys) e
refused_after xs ys e f v = refusal_along ys (xs ++ ys) e (λ d. first_after xs ys d f) v

-- the checks of n things in turn, of which some first don't fail and the next is refused
pub refusal_in_turn : {E : Type 0} (f : ℕ → List (Check (SetupError E))) (i n : ℕ) (e : SetupError E) → i < n → NoneFails (in_turn i f) → IsSetupRefusal (f i) e → IsSetupRefusal (in_turn n f) e
refusal_in_turn f i n e b h v = refusal_along (f i) (in_turn n f) e (λ d. refused_in_turn f i n d b h) v

-- a check of what holds exactly where something else does
pub first_same : {E : Type 0} (r : SetupError E) (P Q : Type 0) → (Q → P) → (d : SetupError E) → FirstFails (check r P ∷ []) d → FirstFails (check r Q ∷ []) d
unfolding FirstFails
first_same r P Q f d v = elim v [ inl t ↦ absurd t.1 | inr t ↦ inr ((λ q. t.0 (f q)), t.1) ]

pub refusal_same : {E : Type 0} (r : SetupError E) (P Q : Type 0) (e : SetupError E) → (Q → P) → IsSetupRefusal (check r P ∷ []) e → IsSetupRefusal (check r Q ∷ []) e
refusal_same r P Q e f v = refusal_along (check r P ∷ []) (check r Q ∷ []) e (first_same r P Q f) v

pub none_same : {E : Type 0} (r : SetupError E) (P Q : Type 0) → (P → Q) → NoneFails (check r P ∷ []) → NoneFails (check r Q ∷ [])
unfolding NoneFails
none_same r P Q f v = (f v.0, tt)

pub same_answer : {T E : Type 0} (r : SetupError E) (P Q : Type 0) (a : Result T (SetupError E)) → (P → Q) → (Q → P) → IsSetUp (check r P ∷ []) a → IsSetUp (check r Q ∷ []) a
same_answer r P Q (Ok t) f h v = none_same r P Q f v
same_answer r P Q (Err e) f h v = refusal_same r P Q e h v

pub none_here : {E : Type 0} (r : SetupError E) (P : Type 0) → P → NoneFails (check r P ∷ [])
unfolding NoneFails
none_here r P h = (h, tt)

-- where the first checks don't fail, the others decide
pub answer_after : {T E : Type 0} (xs ys : List (Check (SetupError E))) (r : Result T (SetupError E)) → NoneFails xs → IsSetUp ys r → IsSetUp (xs ++ ys) r
answer_after xs ys (Ok t) f v = none_append xs ys f v
answer_after xs ys (Err e) f v = refused_after xs ys e f v

-- the same, where the others are those of equal things
pub answer_along : {T E X : Type 0} (xs : List (Check (SetupError E))) (checks : X → List (Check (SetupError E))) (x y : X) (r : Result T (SetupError E)) → x ≡ y → NoneFails xs → IsSetUp (checks x) r → IsSetUp (xs ++ checks y) r
answer_along xs checks x y r e f v = subst (λ z. IsSetUp (xs ++ checks z) r) e (answer_after xs (checks x) r f v)

-- where the last checks never fail, they don't decide
pub answer_without : {T E : Type 0} (xs zs ys us : List (Check (SetupError E))) (r : Result T (SetupError E)) → ((d : SetupError E) → FirstFails xs d → FirstFails zs d) → (NoneFails xs → NoneFails zs) → NoneFails us
    → IsSetUp (xs ++ (ys ++ us)) r → IsSetUp (zs ++ ys) r
answer_without xs zs ys us (Ok t) f n none v = none_append zs ys (n (none_before xs (ys ++ us) v)) (none_before ys us (none_after xs (ys ++ us) v))
answer_without {E = E} xs zs ys us (Err e) f n none v = refusal_along (xs ++ (ys ++ us)) (zs ++ ys) e first v
  where
    first : (d : SetupError E) → FirstFails (xs ++ (ys ++ us)) d → FirstFails (zs ++ ys) d
    first d g = elim (first_parted xs (ys ++ us) d g) [
      | inl here ↦ first_stops zs ys d (f d here)
      | inr later ↦ elim (first_parted ys us d later.1) [
        | inl next ↦ first_after zs ys d (n later.0) next
        | inr last ↦ absurd (none_first us d none last.1)
      ]
    ]

-- where the first checks never fail, the others decide
pub answer_past : {T E : Type 0} (xs ys : List (Check (SetupError E))) (r : Result T (SetupError E)) → NoneFails xs → IsSetUp (xs ++ ys) r → IsSetUp ys r
answer_past xs ys (Ok t) none v = none_after xs ys v
answer_past {E = E} xs ys (Err e) none v = refusal_along (xs ++ ys) ys e later v
  where
    later : (d : SetupError E) → FirstFails (xs ++ ys) d → FirstFails ys d
    later d g = elim (first_parted xs ys d g) [
      | inl here ↦ absurd (none_first xs d none here)
      | inr after ↦ after.1
    ]
