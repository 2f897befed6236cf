-- Answers for lists of checks one after another, and for checks in turn.
use Rattle.std.proofs.Common.{inl, inr, ◌≡◌, ℕ, ◌<◌, List, ◌∷◌, [], ◌++◌, Result, Ok, Err, sym, subst}
use Rattle.std.specs.Result.{IsErrAnd}
use Rattle.p3_field.specs.Checks.{Check, NoneFails, FirstFails, in_turn}
use Rattle.p3_field.specs.Laws.Checks.{none_append, first_stops, first_after, refused_in_turn}
use Rattle.prover_answer.specs.Verdict.{FirstRefused, IsAnswerRefusal, IsProverAnswer, IsProverVerdict, IsProverRefusal}
use Rattle.prover_answer.specs.declared.error.ProvingError.{ProvingError}
use Rattle.prover_answer.specs.declared.error.ProvingError.TheVariants.{Pcs, MultiplicityBound, LookupDenominatorZero, WitnessNotFound, OutOfMemory}

-- what the exit of a `?` returns is the error of the call before it
pub exits : {T R : Type 0} (cs : List (Check (ProvingError R))) (e : ProvingError R) (r : Result T (ProvingError R)) → IsErrAnd r (λ y. y ≡ e) → IsProverRefusal cs e → IsProverVerdict cs r
exits cs e (Err y) p v = subst (IsProverRefusal cs) (sym p) v
exits cs e (Ok t) p v = absurd p

-- what a list of checks is refused with comes of each list that is refused so
pub refusal_along : {R : Type 0} (xs ys : List (Check (ProvingError R))) (e : ProvingError R) → ((d : ProvingError R) → FirstFails xs d → FirstFails ys d) → IsProverRefusal xs e → IsProverRefusal ys e
refusal_along xs ys (Pcs p s) f v = f (Pcs p s) v
refusal_along xs ys (MultiplicityBound b) f v = f (MultiplicityBound b) v
refusal_along xs ys (LookupDenominatorZero i r) f v = f (LookupDenominatorZero i r) v
refusal_along xs ys (WitnessNotFound s) f v = f (WitnessNotFound s) v
refusal_along xs ys OutOfMemory f v = tt

pub refused_before : {R : Type 0} (xs ys : List (Check (ProvingError R))) (e : ProvingError R) → IsProverRefusal xs e → IsProverRefusal (xs ++ ys) e
refused_before xs ys e v = refusal_along xs (xs ++ ys) e (λ d. first_stops xs ys d) v

pub refused_after : {R : Type 0} (xs ys : List (Check (ProvingError R))) (e : ProvingError R) → NoneFails xs → IsProverRefusal ys e → IsProverRefusal (xs ++ ys) e
refused_after xs ys e f v = refusal_along ys (xs ++ ys) e (λ d. first_after xs ys d f) v

-- the checks of n things in turn, of which some first don't fail and the next is refused
pub refusal_in_turn : {R : Type 0} (f : ℕ → List (Check (ProvingError R))) (i n : ℕ) (e : ProvingError R) → i < n → NoneFails (in_turn i f) → IsProverRefusal (f i) e → IsProverRefusal (in_turn n f) e
refusal_in_turn f i n e b h v = refusal_along (f i) (in_turn n f) e (λ d. refused_in_turn f i n d b h) v

-- where the first checks don't fail, the others decide
pub answer_after : {T R : Type 0} (xs ys : List (Check (ProvingError R))) (r : Result T (ProvingError R)) → NoneFails xs → IsProverVerdict ys r → IsProverVerdict (xs ++ ys) r
answer_after xs ys (Ok t) f v = none_append xs ys f v
answer_after xs ys (Err e) f v = refused_after xs ys e f v

-- The same of the answers of the whole work.
pub answer_exits : {T R : Type 0} (cs : List (Check (ProvingError R))) (e : ProvingError R) (r : Result T (ProvingError R)) → IsErrAnd r (λ y. y ≡ e) → IsAnswerRefusal cs e → IsProverAnswer cs r
answer_exits cs e (Err y) p v = subst (IsAnswerRefusal cs) (sym p) v
answer_exits cs e (Ok t) p v = absurd p

pub answer_along : {R : Type 0} (xs ys : List (Check (ProvingError R))) (e : ProvingError R) → ((d : ProvingError R) → FirstRefused xs d → FirstRefused ys d) → IsAnswerRefusal xs e → IsAnswerRefusal ys e
answer_along xs ys (Pcs p s) f v = f (Pcs p s) v
answer_along xs ys (MultiplicityBound b) f v = f (MultiplicityBound b) v
answer_along xs ys (LookupDenominatorZero i r) f v = f (LookupDenominatorZero i r) v
answer_along xs ys (WitnessNotFound s) f v = f (WitnessNotFound s) v
answer_along xs ys OutOfMemory f v = tt

refused_stops : {R : Type 0} (xs ys : List (Check R)) (e : R) → FirstRefused xs e → FirstRefused (xs ++ ys) e
unfolding FirstRefused
refused_stops [] ys e v = absurd v
refused_stops (c ∷ xs) ys e v = elim v [ inl later ↦ inl (later.0, refused_stops xs ys e later.1) | inr here ↦ inr here ]

refused_past : {R : Type 0} (xs ys : List (Check R)) (e : R) → NoneFails xs → FirstRefused ys e → FirstRefused (xs ++ ys) e
unfolding FirstRefused NoneFails
refused_past [] ys e f v = v
refused_past (c ∷ xs) ys e f v = inl (f.0, refused_past xs ys e f.1 v)

pub answer_before : {R : Type 0} (xs ys : List (Check (ProvingError R))) (e : ProvingError R) → IsAnswerRefusal xs e → IsAnswerRefusal (xs ++ ys) e
answer_before xs ys e v = answer_along xs (xs ++ ys) e (λ d. refused_stops xs ys d) v

pub answer_past : {R : Type 0} (xs ys : List (Check (ProvingError R))) (e : ProvingError R) → NoneFails xs → IsAnswerRefusal ys e → IsAnswerRefusal (xs ++ ys) e
answer_past xs ys e f v = answer_along ys (xs ++ ys) e (λ d. refused_past xs ys d f) v

-- a check's refusal alone
pub refused_here : {R : Type 0} (c : Check R) (cs : List (Check R)) (e : R) → c.refusal e → FirstRefused (c ∷ cs) e
unfolding FirstRefused
refused_here c cs e v = inr v

-- the refusal of the first check that fails is one
first_refused : {R : Type 0} (cs : List (Check R)) (e : R) → FirstFails cs e → FirstRefused cs e
unfolding FirstFails FirstRefused
first_refused [] e v = absurd v
first_refused (c ∷ cs) e v = elim v [ inl later ↦ inl (later.0, first_refused cs e later.1) | inr here ↦ inr here.1 ]

pub refusal_is : {R : Type 0} (cs : List (Check (ProvingError R))) (e : ProvingError R) → IsProverRefusal cs e → IsAnswerRefusal cs e
refusal_is cs (Pcs p s) v = first_refused cs (Pcs p s) v
refusal_is cs (MultiplicityBound b) v = first_refused cs (MultiplicityBound b) v
refusal_is cs (LookupDenominatorZero i r) v = first_refused cs (LookupDenominatorZero i r) v
refusal_is cs (WitnessNotFound s) v = first_refused cs (WitnessNotFound s) v
refusal_is cs OutOfMemory v = tt
