-- The first of several items that is refused, and the only cause.
use Rattle.std.proofs.Common.{◌≡◌, ℕ, zero, suc, ◌+◌, ◌<◌, inl, inr, List, [], ◌∷◌, ◌++◌, Some, length, get_or, refl, subst, sym, ◌∙◌, ap, arith, rules}
use Rattle.std.specs.Prelude.{◌⊎◌, slice_get, Result, Ok, Err, IsErrAnd, IfOk}
use Rattle.std.proofs.lemmas.Bool.{cases_lt}
use Rattle.std.proofs.lemmas.List.{length_push}
use Rattle.std.proofs.lemmas.Option.{slice_get_within, get_or_from_slice_get}
use Rattle.commit_core.specs.Periodic.{EachFrom}
use Rattle.commit_core.specs.Failure.{NoneOf, RefusedBy, IfRefused, FaultInTurn}
use Rattle.commit_core.specs.declared.failure.PcsFailure.{PcsFailure}
use Rattle.commit_core.specs.declared.failure.PcsFailure.TheVariants.{OutOfMemory, Refused}
use Rattle.example_commit.specs.Causes.{IsCause, IsCauseOfFirstRefused}
use Rattle.example_commit.proofs.Lists.{each_yielded, same_item}

pub cause_is : {E : Type 0} (faults : E → Type 0) (e : E) → ((f g : E) → faults f → faults g → f ≡ g) → faults e → IsCause faults e
cause_is faults e one h = record { is_cause = h; only = λ g k. one g e k h }

-- a refusal that is handed on
pub handed_on : {T E : Type 0} (V : Type 0) (P Q : E → Type 0) → ((e : E) → P e → Q e) → (r : Result T (PcsFailure E)) (f : PcsFailure E) → IsErrAnd r (λ x. x ≡ f) → RefusedBy {T = V} P (Err f) → RefusedBy Q r
handed_on V P Q leads (Ok w) f h k = absurd h
handed_on V P Q leads (Err OutOfMemory) f h k = search rules
handed_on V P Q leads (Err (Refused e)) f h k = leads e (subst (λ x. RefusedBy {T = V} P (Err x)) (sym h) k)

-- an answer that is refused for causes which lead to others
pub refused_as : {T E : Type 0} (P Q : E → Type 0) → ((e : E) → P e → Q e) → (NoneOf P → NoneOf Q) → (r : Result T (PcsFailure E)) → RefusedBy P r → RefusedBy Q r
refused_as P Q leads granted (Ok w) h = granted h
refused_as P Q leads granted (Err OutOfMemory) h = h
refused_as P Q leads granted (Err (Refused e)) h = leads e h

-- where it is one of several causes
pub handed_as_one : {T E : Type 0} (V : Type 0) (P Q : E → Type 0) → ((e : E) → P e → Q e) → (r : Result T (PcsFailure E)) (f : PcsFailure E) → IsErrAnd r (λ x. x ≡ f) → RefusedBy {T = V} P (Err f) → IfRefused r Q
handed_as_one V P Q leads (Ok w) f h k = absurd h
handed_as_one V P Q leads (Err OutOfMemory) f h k = search rules
handed_as_one V P Q leads (Err (Refused e)) f h k = leads e (subst (λ x. RefusedBy {T = V} P (Err x)) (sym h) k)

-- neither of two calls is refused
pub none_of_two : {E : Type 0} (P Q : E → Type 0) → NoneOf P → NoneOf Q → NoneOf (λ e. P e ⊎ (NoneOf P × Q e))
none_of_two P Q f g = λ e h. elim h [
  | inl a ↦ f e a
  | inr b ↦ g e b.1
]

-- two calls in turn, of which the first is not refused
pub refused_in_turn : {T U E : Type 0} (first : E → Type 0) (gives : U → Type 0) (second : U → E → Type 0) (u : U) → NoneOf first → gives u → (r : Result T (PcsFailure E)) → IfRefused r (second u) → IfRefused r (FaultInTurn first gives second)
refused_in_turn first gives second u none g (Ok w) h = h
refused_in_turn first gives second u none g (Err OutOfMemory) h = h
refused_in_turn first gives second u none g (Err (Refused e)) h = inr (none, (u, g, h))

pub leads_to : {T E : Type 0} (P Q : T → Type 0) → ((w : T) → P w → Q w) → (r : Result T E) → IfOk r P → IfOk r Q
leads_to P Q f (Ok w) h = f w h
leads_to P Q f (Err e) h = h

-- a list with one item more
before_end : {X : Type 0} (xs : List X) (y : X) (i : ℕ) (x : X) → slice_get xs i ≡ Some x → slice_get (xs ++ y ∷ []) i ≡ Some x
before_end [] y i x e = cc
before_end (v ∷ xs) y zero x e = e
before_end (v ∷ xs) y (suc i) x e = before_end xs y i x e

below_end : {X : Type 0} (xs : List X) (y : X) (i : ℕ) (x : X) → i < length xs → slice_get (xs ++ y ∷ []) i ≡ Some x → slice_get xs i ≡ Some x
below_end [] y i x h e = absurd (omega arith)
below_end (v ∷ xs) y zero x h e = e
below_end (v ∷ xs) y (suc i) x h e = below_end xs y i x (omega arith) e

at_end : {X : Type 0} (xs : List X) (y : X) → slice_get (xs ++ y ∷ []) (length xs) ≡ Some y
at_end [] y = refl
at_end (v ∷ xs) y = at_end xs y

pub each_pushed : {X Y : Type 0} (R : X → Y → Type 0) (xs : List X) (x : X) (ys zs : List Y) (y : Y) → EachFrom xs ys R → R x y → zs ≡ ys ++ y ∷ [] → EachFrom (xs ++ x ∷ []) zs R
each_pushed R xs x ys zs y E p e =
    let n : length (xs ++ x ∷ []) ≡ length xs + 1 = length_push xs x in
    let last : x ≡ get_or (xs ++ x ∷ []) (length xs) x = sym (get_or_from_slice_get (xs ++ x ∷ []) (length xs) x x (at_end xs x)) in
    each_yielded R (xs ++ x ∷ []) xs x ys zs y (omega arith) last
    (record { count = E.count; each = λ i w q v h. E.each i w q v (below_end xs x i v (omega (arith, slice_get_within ys i w q, E.count)) h) }) p e

module _ {X E : Type 0} (faults : X → E → Type 0) where
  -- the items so far are not refused
  abbrev pub NoneBefore : List X → ℕ → Type 0
  NoneBefore xs n = (j : ℕ) (x : X) → j < n → slice_get xs j ≡ Some x → NoneOf (faults x)

  pub one_granted : (xs : List X) (done : List X) (x : X) → length done < length xs → x ≡ get_or xs (length done) x → NoneBefore xs (length done) → NoneOf (faults x) → NoneBefore xs (length (done ++ x ∷ []))
  one_granted xs done x h at before here = λ j y l q. elim (cases_lt j (length done)) [
    | inl a ↦ before j y a q
    | inr a ↦
        let n : length (done ++ x ∷ []) ≡ length done + 1 = length_push done x in
        let place : j ≡ length done = omega arith in
        let same : y ≡ x = sym (get_or_from_slice_get xs j y x q) ∙ (ap (λ k. get_or xs k x) place ∙ sym at) in
        subst (λ v. NoneOf (faults v)) (sym same) here
  ]

  pub none_refused : (xs : List X) (n : ℕ) → n ≡ length xs → NoneBefore xs n → NoneOf (IsCauseOfFirstRefused faults xs)
  none_refused xs n m before = λ e r. before r.place r.item (omega (arith, m, slice_get_within xs r.place r.item r.is_item)) r.is_item e r.cause

  pub all_granted : (xs : List X) → NoneOf (IsCauseOfFirstRefused faults xs) → (n : ℕ) → NoneBefore xs n
  all_granted xs none zero = λ j x l q. absurd (omega arith)
  all_granted xs none (suc n) = λ j x l q e f.
      none e (record { place = j; item = x; is_item = q; cause = f; earlier = λ k y b r. all_granted xs none n k y (omega arith) r })

  pub refused_at : (xs : List X) (n : ℕ) (x : X) (e : E) → slice_get xs n ≡ Some x → NoneBefore xs n → faults x e → IsCauseOfFirstRefused faults xs e
  refused_at xs n x e q before f = record { place = n; item = x; is_item = q; cause = f; earlier = before }

  -- with one item more
  pub refused_earlier : (xs : List X) (y : X) (e : E) → IsCauseOfFirstRefused faults xs e → IsCauseOfFirstRefused faults (xs ++ y ∷ []) e
  refused_earlier xs y e r = record {
    place = r.place;
    item = r.item;
    is_item = before_end xs y r.place r.item r.is_item;
    cause = r.cause;
    earlier = λ j x l q. r.earlier j x l (below_end xs y j x (omega (arith, slice_get_within xs r.place r.item r.is_item)) q);
  }

  pub refused_last : (xs : List X) (y : X) (e : E) → NoneOf (IsCauseOfFirstRefused faults xs) → faults y e → IsCauseOfFirstRefused faults (xs ++ y ∷ []) e
  refused_last xs y e none f = record {
    place = length xs;
    item = y;
    is_item = at_end xs y;
    cause = f;
    earlier = λ j x l q. all_granted xs none (length xs) j x l (below_end xs y j x l q);
  }

  pub none_pushed : (xs : List X) (y : X) → NoneOf (IsCauseOfFirstRefused faults xs) → NoneOf (faults y) → NoneOf (IsCauseOfFirstRefused faults (xs ++ y ∷ []))
  none_pushed xs y none here = λ e r. elim (cases_lt r.place (length xs)) [
    | inl a ↦ all_granted xs none (length xs) r.place r.item a (below_end xs y r.place r.item a r.is_item) e r.cause
    | inr a ↦
        let n : length (xs ++ y ∷ []) ≡ length xs + 1 = length_push xs y in
        let place : r.place ≡ length xs = omega (arith, slice_get_within (xs ++ y ∷ []) r.place r.item r.is_item) in
        let last : slice_get (xs ++ y ∷ []) r.place ≡ Some y = ap (λ k. slice_get (xs ++ y ∷ []) k) place ∙ at_end xs y in
        here e (subst (λ v. faults v e) (same_item (xs ++ y ∷ []) r.place r.item y r.is_item last) r.cause)
  ]
