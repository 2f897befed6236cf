-- No check of the call that makes the claims is refused as out of memory.
use Rattle.std.proofs.Common.{◌≡◌, ℕ, zero, suc, List, [], ◌∷◌, ◌++◌, Result, Ok, Err, length, sym, ◌∙◌, subst, inl, inr}
use Rattle.std.specs.Prelude.{IfErr}
use Rattle.std.specs.Result.{IsErrAnd}
use Rattle.p3_field.specs.Checks.{Check, check, FirstFails, NoneFails, in_turn}
use Rattle.p3_field.specs.Laws.Checks.{first_parted}
use Rattle.p3_uni_stark.specs.declared.error.VerificationError.{VerificationError}
use Rattle.p3_lookup.specs.declared.terminal.LookupError.{LookupError}
use Rattle.batch_statement.specs.declared.error.BatchVerificationError.{BatchVerificationError}
use Rattle.batch_statement.specs.declared.error.BatchVerificationError.TheVariants.{Verification, Lookup, OutOfMemory}
use Rattle.batch_statement.specs.Words.{is_there}
use Rattle.verifier_claims.specs.ClaimChecks.{bits_between, degree_bits_of, chunks_counted, counts_of, first_made, listed_of, made_by, matrices_of, matrix_fits, entries_in, next_opened_check, nexts_of, random_of, permutation_rows_of, rows_paired, sizes_fit, sizes_of}
use Rattle.verifier_claims.specs.Claims.{Claimed, matrix_tables}

-- an answer that is none of a list's refusals is none of longer lists' either
module _ {R : Type 0} (e : R) where
  not_of_none : FirstFails {R = R} [] e → ⊥
  unfolding FirstFails
  not_of_none v = v

  not_of_check : (r : R) (P : Type 0) (cs : List (Check R)) → (e ≡ r → ⊥) → (FirstFails cs e → ⊥) → FirstFails (check r P ∷ cs) e → ⊥
  unfolding FirstFails
  not_of_check r P cs n f v = elim v [ inl t ↦ f t.1 | inr t ↦ n t.1 ]

  not_of_both : (xs ys : List (Check R)) → (FirstFails xs e → ⊥) → (FirstFails ys e → ⊥) → FirstFails (xs ++ ys) e → ⊥
  not_of_both xs ys f g v = elim (first_parted xs ys e v) [ inl t ↦ f t | inr t ↦ g t.1 ]

  not_in_turn : (f : ℕ → List (Check R)) (n : ℕ) → ((i : ℕ) → FirstFails (f i) e → ⊥) → FirstFails (in_turn n f) e → ⊥
  unfolding in_turn
  not_in_turn f zero h v = not_of_none v
  not_in_turn f (suc n) h v = not_of_both (in_turn n f) (f n) (not_in_turn f n h) (h n) v

module _ {R : Type 0} where
  not_verification : (x : VerificationError R) → OutOfMemory ≡ Verification x → ⊥
  not_verification x p = cc

  not_lookup : (x : LookupError) → let r : BatchVerificationError R = Lookup x in OutOfMemory ≡ r → ⊥
  not_lookup x p = cc

  -- a list of one check, and one check before others
  alone : (x : VerificationError R) (P : Type 0) → FirstFails (check (Verification x) P ∷ []) OutOfMemory → ⊥
  alone x P = not_of_check OutOfMemory (Verification x) P [] (not_verification x) (not_of_none OutOfMemory)

  before : (x : VerificationError R) (P : Type 0) (cs : List (Check (BatchVerificationError R))) → (FirstFails cs OutOfMemory → ⊥) → FirstFails (check (Verification x) P ∷ cs) OutOfMemory → ⊥
  before x P cs f = not_of_check OutOfMemory (Verification x) P cs (not_verification x) f

module _ {F E C : Type 0} (R : Type 0) (q : Claimed F E C) (w : List ℕ) where
  not_first : (least most : ℕ) → FirstFails (first_made {R = R} least most q w) OutOfMemory → ⊥
  unfolding first_made
  not_first least most =
      let l = listed_of q {R = R} w in
      let b = degree_bits_of q {R = R} least most in
      let d = random_of q {R = R} in
      not_of_both OutOfMemory (l ++ b ++ d) (nexts_of q {R = R})
      (not_of_both OutOfMemory (l ++ b) d
      (not_of_both OutOfMemory l b (alone _ _) (not_in_turn OutOfMemory (bits_between {R = R} least most q.degree_bits) (length q.declarations) (λ i. before _ _ _ (alone _ _))))
      (alone _ _))
      (not_in_turn OutOfMemory (next_opened_check {R = R} q.declarations q.instances) (length q.declarations) (λ i. alone _ _))

  -- none of all checks
  pub not_made : (masks least most two : ℕ) → FirstFails (made_by {R = R} masks least most two q w) OutOfMemory → ⊥
  unfolding made_by
  not_made masks least most two =
      let a = first_made {R = R} least most q w in
      let s = sizes_of q {R = R} masks most two in
      let c = counts_of q {R = R} masks in
      let m = matrices_of q {R = R} w in
      not_of_both OutOfMemory (a ++ s ++ c ++ m) (permutation_rows_of q {R = R})
      (not_of_both OutOfMemory (a ++ s ++ c) m
      (not_of_both OutOfMemory (a ++ s) c
      (not_of_both OutOfMemory a s (not_first least most)
      (not_in_turn OutOfMemory (sizes_fit {R = R} masks most two q.degree_bits q.log_chunks) (length q.declarations) (λ i. before _ _ _ (before _ _ _ (alone _ _)))))
      (not_in_turn OutOfMemory (chunks_counted {R = R} masks q.log_chunks q.instances) (length q.declarations) (λ i. alone _ _)))
      (not_in_turn OutOfMemory (matrix_fits {R = R} q.declarations (matrix_tables q.preprocessed) (entries_in q.preprocessed) q.degree_bits w q.instances) (length (matrix_tables q.preprocessed))
      (λ i. before _ _ _ (before _ _ _ (before _ _ _ (alone _ _))))))
      (not_in_turn OutOfMemory (rows_paired {R = R} (is_there q.commitments.permutation) q.instances) (length q.declarations)
      (λ i. not_of_check OutOfMemory _ _ [] (not_lookup _) (not_of_none OutOfMemory)))

-- so memory runs out only where no check fails: at the exit of a refused check, and after all checks
pub refused_in_memory : {T R : Type 0} (cs : List (Check (BatchVerificationError R))) (e : BatchVerificationError R) (r : Result T (BatchVerificationError R))
    → (FirstFails cs OutOfMemory → ⊥) → IsErrAnd r (λ y. y ≡ e) → FirstFails cs e → IfErr r (λ y. y ≡ OutOfMemory → NoneFails cs)
refused_in_memory cs e (Err y) n p v = λ o. absurd (n (subst (FirstFails cs) (sym p ∙ o) v))
refused_in_memory cs e (Ok t) n p v = tt

pub after_all : {T R : Type 0} (cs : List (Check (BatchVerificationError R))) (r : Result T (BatchVerificationError R)) → NoneFails cs → IfErr r (λ y. y ≡ OutOfMemory → NoneFails cs)
after_all cs (Err y) h = λ o. h
after_all cs (Ok t) h = tt

-- what the exit of a `?` returns is the error of the call before it
pub exits_in_memory : {T R : Type 0} (cs : List (Check (BatchVerificationError R))) (e : BatchVerificationError R) (r : Result T (BatchVerificationError R))
    → IsErrAnd r (λ y. y ≡ e) → (e ≡ OutOfMemory → NoneFails cs) → IfErr r (λ y. y ≡ OutOfMemory → NoneFails cs)
exits_in_memory cs e (Err y) p h = λ o. h (sym p ∙ o)
exits_in_memory cs e (Ok t) p h = tt
