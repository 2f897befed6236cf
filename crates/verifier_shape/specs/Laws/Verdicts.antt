-- Answers for lists of checks one after another, and for checks in turn.
use Rattle.std.proofs.Common.{◌≡◌, ℕ, zero, suc, ◌+◌, ◌<◌, List, [], ◌∷◌, ◌++◌, Result, Ok, Err, IfErr, sym, subst, inl, inr, arith}
use Rattle.std.specs.Result.{IsErrAnd}
use Rattle.std.proofs.lemmas.Bool.{cases_lt}
use Rattle.p3_field.specs.Checks.{Check, NoneFails, FirstFails, in_turn}
use Rattle.p3_field.specs.Laws.Checks.{none_append, first_stops, first_after, refused_in_turn}
use Rattle.batch_statement.specs.Verdict.{IsDecided, IsVerdict, IsRefusal}
use Rattle.batch_statement.specs.declared.error.BatchVerificationError.{BatchVerificationError}
use Rattle.batch_statement.specs.declared.error.BatchVerificationError.TheVariants.{Verification, Lookup, Transcript, OutOfMemory}

-- what the exit of a `?` returns is the error of the call before it
pub exits_decided : {T R : Type 0} (cs : List (Check R)) (e : R) (r : Result T R) → IsErrAnd r (λ y. y ≡ e) → FirstFails cs e → IsDecided cs r
exits_decided cs e (Err y) p v = subst (FirstFails cs) (sym p) v
exits_decided cs e (Ok t) p v = absurd p

pub exits : {T R : Type 0} (cs : List (Check (BatchVerificationError R))) (e : BatchVerificationError R) (r : Result T (BatchVerificationError R))
    → IsErrAnd r (λ y. y ≡ e) → IsRefusal cs e → IsVerdict cs r
exits cs e (Err y) p v = subst (IsRefusal cs) (sym p) v
exits cs e (Ok t) p v = absurd p

-- what is known of that error
pub exits_if : {T R : Type 0} (P : R → Type 0) (e : R) (r : Result T R) → IsErrAnd r (λ y. y ≡ e) → P e → IfErr r P
exits_if P e (Err y) p h = subst P (sym p) h
exits_if P e (Ok t) p h = absurd p

-- what holds in any case is known of each error
pub err_if : {T R P : Type 0} (Q : R → Type 0) (r : Result T R) → P → IfErr r (λ e. Q e → P)
err_if Q (Err e) h = λ q. h
err_if Q (Ok t) h = tt

-- what is decided is refused, as where memory may run out
pub refused : {R : Type 0} (cs : List (Check (BatchVerificationError R))) (e : BatchVerificationError R) → FirstFails cs e → IsRefusal cs e
refused cs (Verification e) v = v
refused cs (Lookup e) v = v
refused cs (Transcript e) v = v
refused cs OutOfMemory v = tt

pub verdict : {T R : Type 0} (cs : List (Check (BatchVerificationError R))) (r : Result T (BatchVerificationError R)) → IsDecided cs r → IsVerdict cs r
verdict cs (Ok t) v = v
verdict cs (Err e) v = refused cs e v

-- where the first checks don't fail, the others decide
pub decided_after : {T R : Type 0} (xs ys : List (Check R)) (r : Result T R) → NoneFails xs → IsDecided ys r → IsDecided (xs ++ ys) r
decided_after xs ys (Ok t) f v = none_append xs ys f v
decided_after xs ys (Err e) f v = first_after xs ys e f v

pub refused_before : {R : Type 0} (xs ys : List (Check (BatchVerificationError R))) (e : BatchVerificationError R) → IsRefusal xs e → IsRefusal (xs ++ ys) e
refused_before xs ys (Verification e) v = first_stops xs ys (Verification e) v
refused_before xs ys (Lookup e) v = first_stops xs ys (Lookup e) v
refused_before xs ys (Transcript e) v = first_stops xs ys (Transcript e) v
refused_before xs ys OutOfMemory v = tt

pub refused_after : {R : Type 0} (xs ys : List (Check (BatchVerificationError R))) (e : BatchVerificationError R)
    → NoneFails xs → IsRefusal ys e → IsRefusal (xs ++ ys) e
refused_after xs ys (Verification e) f v = first_after xs ys (Verification e) f v
refused_after xs ys (Lookup e) f v = first_after xs ys (Lookup e) f v
refused_after xs ys (Transcript e) f v = first_after xs ys (Transcript e) f v
refused_after xs ys OutOfMemory f v = tt

pub verdict_after : {T R : Type 0} (xs ys : List (Check (BatchVerificationError R))) (r : Result T (BatchVerificationError R))
    → NoneFails xs → IsVerdict ys r → IsVerdict (xs ++ ys) r
verdict_after xs ys (Ok t) f v = none_append xs ys f v
verdict_after xs ys (Err e) f v = refused_after xs ys e f v

-- the checks of n things in turn, of which some first don't fail and the next is refused
pub refusal_in_turn : {R : Type 0} (f : ℕ → List (Check (BatchVerificationError R))) (i n : ℕ) (e : BatchVerificationError R)
    → i < n → NoneFails (in_turn i f) → IsRefusal (f i) e → IsRefusal (in_turn n f) e
refusal_in_turn f i n (Verification e) b h v = refused_in_turn f i n (Verification e) b h v
refusal_in_turn f i n (Lookup e) b h v = refused_in_turn f i n (Lookup e) b h v
refusal_in_turn f i n (Transcript e) b h v = refused_in_turn f i n (Transcript e) b h v
refusal_in_turn f i n OutOfMemory b h v = tt

-- checks that agree below n
pub turns_agree : {R : Type 0} (f g : ℕ → List (Check R)) (n : ℕ) → ((i : ℕ) → i < n → f i ≡ g i) → in_turn n f ≡ in_turn n g
unfolding in_turn
turns_agree f g zero h = λ i. []
turns_agree f g (suc n) h = let p = turns_agree f g n (λ i b. h i (omega arith)) in let q = h n (omega arith) in λ i. p i ++ q i

-- four lists of checks in a row
module _ {R : Type 0} (ws bs cs ds : List (Check R)) where
  pub first_of_four : (e : R) → FirstFails ws e → FirstFails (ws ++ bs ++ cs ++ ds) e
  first_of_four e v = first_stops (ws ++ bs ++ cs) ds e (first_stops (ws ++ bs) cs e (first_stops ws bs e v))

  pub second_of_four : (e : R) → NoneFails ws → FirstFails bs e → FirstFails (ws ++ bs ++ cs ++ ds) e
  second_of_four e f v = first_stops (ws ++ bs ++ cs) ds e (first_stops (ws ++ bs) cs e (first_after ws bs e f v))

  pub third_of_four : (e : R) → NoneFails ws → NoneFails bs → FirstFails cs e → FirstFails (ws ++ bs ++ cs ++ ds) e
  third_of_four e f g v = first_stops (ws ++ bs ++ cs) ds e (first_after (ws ++ bs) cs e (none_append ws bs f g) v)

  pub last_of_four : {T : Type 0} (r : Result T R) → NoneFails ws → NoneFails bs → NoneFails cs → IsDecided ds r → IsDecided (ws ++ bs ++ cs ++ ds) r
  last_of_four r f g h v = decided_after (ws ++ bs ++ cs) ds r (none_append (ws ++ bs) cs (none_append ws bs f g) h) v

-- five, where memory may run out
module _ {R : Type 0} (ws bs cs ds us : List (Check (BatchVerificationError R))) where
  pub first_of_five : (e : BatchVerificationError R) → IsRefusal ws e → IsRefusal (ws ++ bs ++ cs ++ ds ++ us) e
  first_of_five e v = refused_before (ws ++ bs ++ cs ++ ds) us e (refused_before (ws ++ bs ++ cs) ds e (refused_before (ws ++ bs) cs e (refused_before ws bs e v)))

  pub second_of_five : (e : BatchVerificationError R) → NoneFails ws → IsRefusal bs e → IsRefusal (ws ++ bs ++ cs ++ ds ++ us) e
  second_of_five e f v = refused_before (ws ++ bs ++ cs ++ ds) us e (refused_before (ws ++ bs ++ cs) ds e (refused_before (ws ++ bs) cs e (refused_after ws bs e f v)))

  pub third_of_five : (e : BatchVerificationError R) → NoneFails ws → NoneFails bs → IsRefusal cs e → IsRefusal (ws ++ bs ++ cs ++ ds ++ us) e
  third_of_five e f g v = refused_before (ws ++ bs ++ cs ++ ds) us e (refused_before (ws ++ bs ++ cs) ds e (refused_after (ws ++ bs) cs e (none_append ws bs f g) v))

  pub fourth_of_five : (e : BatchVerificationError R) → NoneFails ws → NoneFails bs → NoneFails cs → IsRefusal ds e → IsRefusal (ws ++ bs ++ cs ++ ds ++ us) e
  fourth_of_five e f g h v = refused_before (ws ++ bs ++ cs ++ ds) us e (refused_after (ws ++ bs ++ cs) ds e (none_append (ws ++ bs) cs (none_append ws bs f g) h) v)

  pub last_of_five : {T : Type 0} (r : Result T (BatchVerificationError R)) → NoneFails ws → NoneFails bs → NoneFails cs → NoneFails ds → IsVerdict us r
      → IsVerdict (ws ++ bs ++ cs ++ ds ++ us) r
  last_of_five r f g h k v = verdict_after (ws ++ bs ++ cs ++ ds) us r (none_append (ws ++ bs ++ cs) ds (none_append (ws ++ bs) cs (none_append ws bs f g) h) k) v
