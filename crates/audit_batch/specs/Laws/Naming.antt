-- What is named of several lists of checks, and of the answer of a call that stops at the first check that fails.
use Rattle.std.proofs.Common.{◌≡◌, ℕ, ◌+◌, suc, add-one, Bool, true, false, List, [], ◌∷◌, ◌++◌, length, Result, Ok, Err, append_assoc, refl, sym, ◌∙◌, ap, subst, inl, inr, arith}
use Rattle.std.proofs.lemmas.List.{append-nil, length-append}
use Rattle.std.specs.Prelude.{IsTrue, ◌↔◌, cond, IfOk}
use Rattle.std.specs.Option.{unwrap_or}
use Rattle.p3_field.specs.Checks.{Check, NoneFails, FirstFails, check, in_turn}
use Rattle.p3_field.specs.Laws.Checks.{first_parted, none_after, none_first}
use Rattle.batch_statement.specs.Verdict.{IsDecided, IsRefusal, IsVerdict}
use Rattle.batch_statement.specs.declared.error.BatchVerificationError.{BatchVerificationError}
use Rattle.batch_statement.specs.declared.error.BatchVerificationError.TheVariants.{Verification, Lookup, Transcript, OutOfMemory}
use Rattle.audit_batch.specs.Asked.{Asked, always, only, in_order, of_each, AreNamed}
use Rattle.audit_batch.specs.Laws.Asked.{in_in_order, in_of_each, none_if_unnamed, turn_in_order, turn_of_each, unnamed_if_none}
use Rattle.audit_batch.specs.Named.{AreNamedAfter, HasMemory, errors_of, value_of}

module _ {R : Type 0} where
  -- of one list and then another
  pub named_append : (qs rs : List (Asked R)) (es fs : List R) → AreNamed qs es → AreNamed rs fs → AreNamed (qs ++ rs) (es ++ fs)
  unfolding AreNamed
  named_append [] rs es fs n m = subst (AreNamed rs) (ap (λ l. l ++ fs) (sym n)) m
  named_append (q ∷ qs) rs es fs n m = elim n [
    | inl t ↦ inl (t.0, named_append qs rs es fs t.1 m)
    | inr t ↦
        let rest = t.2.1 in
        let same = t.2.4 in
        inr (t.0, t.1, (t.2.0, rest ++ fs, t.2.2, named_append qs rs rest fs t.2.3 m, ap (λ l. l ++ fs) same))
  ]

  -- where the condition holds
  pub named_where : (P : Type 0) (qs : List (Asked R)) (es : List R) → P → AreNamed qs es → AreNamed (only P qs) es
  unfolding AreNamed only
  named_where P [] es p n = n
  named_where P (q ∷ qs) es p n = elim n [
    | inl t ↦ inl (λ h. t.0 h.1, named_where P qs es p t.1)
    | inr t ↦ inr ((p, t.0), t.1, (t.2.0, t.2.1, t.2.2, named_where P qs t.2.1 p t.2.3, t.2.4))
  ]

  -- and where it doesn't
  pub named_unasked : (P : Type 0) (qs : List (Asked R)) → (P → ⊥) → AreNamed (only P qs) []
  unfolding AreNamed only
  named_unasked P [] n = refl
  named_unasked P (q ∷ qs) n = inl (λ h. absurd (n h.0), named_unasked P qs n)

  -- a condition on two lists
  pub only_append : (P : Type 0) (qs rs : List (Asked R)) → only P (qs ++ rs) ≡ only P qs ++ only P rs
  unfolding only
  only_append P [] rs = refl
  only_append P (q ∷ qs) rs = ap (λ l. record { condition = P × q.condition; check = q.check } ∷ l) (only_append P qs rs)

  -- of n things
  pub named_none_of : (f : ℕ → List (Asked R)) → AreNamed (of_each 0 f) []
  unfolding AreNamed of_each
  named_none_of f = refl

  pub named_one_more : (f : ℕ → List (Asked R)) (i : ℕ) (es fs : List R) → AreNamed (of_each i f) es → AreNamed (f i) fs → AreNamed (of_each (suc i) f) (es ++ fs)
  unfolding of_each
  named_one_more f i es fs n m = named_append (of_each i f) (f i) es fs n m

  -- no check of these fails
  named_if_none : (cs : List (Check R)) → NoneFails cs → AreNamed (in_order cs) []
  unfolding AreNamed in_order NoneFails
  named_if_none [] h = refl
  named_if_none (c ∷ cs) h = inl (λ t. h.0, named_where c.holds (in_order cs) [] h.0 (named_if_none cs h.1))

  -- of these the first that fails is the only one that is named, where a later one is asked only if the earlier ones hold
  named_if_first : (cs : List (Check R)) (e : R) → FirstFails cs e → AreNamed (in_order cs) (e ∷ [])
  unfolding AreNamed in_order FirstFails
  named_if_first [] e f = absurd f
  named_if_first (c ∷ cs) e f = elim f [
    | inl t ↦ inl (λ h. t.0, named_where c.holds (in_order cs) (e ∷ []) t.0 (named_if_first cs e t.1))
    | inr t ↦ inr (tt, t.0, (e, [], t.1, named_unasked c.holds (in_order cs) t.0, refl))
  ]

  -- So a call that stops at the first check that fails decides checks in order.
  pub named_by_call : {T : Type 0} (cs : List (Check R)) (r : Result T R) → IsDecided cs r → AreNamed (in_order cs) (errors_of r)
  named_by_call cs (Ok x) v = named_if_none cs v
  named_by_call cs (Err e) v = named_if_first cs e v

  -- one check is in order
  pub named_alone : {T : Type 0} (c : Check R) (r : Result T R) → IsDecided (c ∷ []) r → AreNamed (always (c ∷ [])) (errors_of r)
  unfolding AreNamed always FirstFails NoneFails
  named_alone c (Ok x) v = inl (λ h. v.0, refl)
  named_alone c (Err e) v = elim v [
    | inl t ↦ absurd t.1
    | inr t ↦ inr (tt, t.0, (e, [], t.1, refl, refl))
  ]

  -- a call that decides some checks and then others decides the others, where none of the first fails
  pub decided_last : {T : Type 0} (xs ys : List (Check R)) (r : Result T R) → NoneFails xs → IsDecided (xs ++ ys) r → IsDecided ys r
  decided_last xs ys (Ok x) h v = none_after xs ys v
  decided_last xs ys (Err e) h v = elim (first_parted xs ys e v) [ inl t ↦ absurd (none_first xs e h t) | inr t ↦ t.1 ]

  -- Lists of refusals that grow. Nothing was asked.
  pub after_none : (a : List R) → AreNamedAfter a [] a
  unfolding AreNamed
  after_none a = ([], refl, sym (append-nil a))

  -- one list of checks and then another
  pub after_append : (qs rs : List (Asked R)) (a b c : List R) → AreNamedAfter a qs b → AreNamedAfter b rs c → AreNamedAfter a (qs ++ rs) c
  after_append qs rs a b c m n =
      (m.0 ++ n.0, named_append qs rs m.0 n.0 m.1 n.1, n.2 ∙ ap (λ l. l ++ n.0) m.2 ∙ append_assoc a m.0 n.0)

  -- checks that are asked where something holds, and those that aren't
  pub after_where : (P : Type 0) (qs : List (Asked R)) (a b : List R) → P → AreNamedAfter a qs b → AreNamedAfter a (only P qs) b
  after_where P qs a b p m = (m.0, named_where P qs m.0 p m.1, m.2)

  pub after_unasked : (P : Type 0) (qs : List (Asked R)) (a : List R) → (P → ⊥) → AreNamedAfter a (only P qs) a
  after_unasked P qs a n = ([], named_unasked P qs n, sym (append-nil a))

  -- those of one thing more
  pub after_none_of : (f : ℕ → List (Asked R)) (a : List R) → AreNamedAfter a (of_each 0 f) a
  unfolding of_each
  after_none_of f a = after_none a

  pub after_one_more : (f : ℕ → List (Asked R)) (i : ℕ) (a b c : List R) → AreNamedAfter a (of_each i f) b → AreNamedAfter b (f i) c → AreNamedAfter a (of_each (i + 1) f) c
  unfolding of_each
  after_one_more f i a b c m n = rw add-one (after_append (of_each i f) (f i) a b c m n)

  pub after_until : (f : ℕ → List (Asked R)) (i n : ℕ) (a b : List R) → i ≡ n → AreNamedAfter a (of_each i f) b → AreNamedAfter a (of_each n f) b
  after_until f i n a b e m = subst (λ k. AreNamedAfter a (of_each k f) b) e m

  -- a call's answer
  pub after_call : {T : Type 0} (cs : List (Check R)) (r : Result T R) (a b : List R) → IsDecided cs r → b ≡ a ++ errors_of r → AreNamedAfter a (in_order cs) b
  after_call cs r a b v e = (errors_of r, named_by_call cs r v, e)

  -- which is of one check
  pub after_one : {T : Type 0} (c : Check R) (r : Result T R) (a b : List R) → IsDecided (c ∷ []) r → b ≡ a ++ errors_of r → AreNamedAfter a (always (c ∷ [])) b
  after_one c r a b v e = (errors_of r, named_alone c r v, e)

  -- the first of several checks, and then the others
  pub after_then : (c : Check R) (cs : List (Check R)) (a b d : List R) → AreNamedAfter a (always (c ∷ [])) b → AreNamedAfter b (always cs) d → AreNamedAfter a (always (c ∷ cs)) d
  unfolding always
  after_then c cs a b d m n = after_append (always (c ∷ [])) (always cs) a b d m n

  -- a check that was tested
  tested : (e : R) (P : Type 0) (b : Bool) → (IsTrue b ↔ P) → AreNamed (always (check e P ∷ [])) (cond b [] (e ∷ []))
  unfolding AreNamed always
  tested e P true h = inl (λ t. h.0 refl, refl)
  tested e P false h = inr (tt, λ p. (let t = h.1 p in absurd cc), (e, [], refl, refl, refl))

  pub after_test : (e : R) (P : Type 0) (b : Bool) (a c : List R) → (IsTrue b ↔ P) → c ≡ a ++ cond b [] (e ∷ []) → AreNamedAfter a (always (check e P ∷ [])) c
  after_test e P b a c h s = (cond b [] (e ∷ []), tested e P b h, s)

  -- nothing was appended exactly where no check of these things fails
  empty_rest : (es : List R) (n : ℕ) → n + length es ≡ n → es ≡ []
  empty_rest [] n h = refl
  empty_rest (e ∷ es) n h = absurd (let l = h in omega (arith, l))

  pub none_if_no_longer : (n : ℕ) (f : ℕ → List (Check R)) (a b : List R) → AreNamedAfter a (of_each n (λ i. in_order (f i))) b → length b ≡ length a → NoneFails (in_turn n f)
  none_if_no_longer n f a b m l =
      let same : m.0 ≡ [] = empty_rest m.0 (length a) (sym (length-append a m.0) ∙ sym (ap length m.2) ∙ l) in
      subst NoneFails (in_of_each n (λ i. in_order (f i)) f (λ i. in_in_order (f i)))
      (none_if_unnamed (Unit {0}) (of_each n (λ i. in_order (f i))) (turn_of_each (Unit {0}) n (λ i. in_order (f i)) (λ i. turn_in_order (Unit {0}) (f i))) tt
      (subst (AreNamed (of_each n (λ i. in_order (f i)))) same m.1))

  pub no_longer_if_none : (n : ℕ) (f : ℕ → List (Check R)) (a b : List R) → AreNamedAfter a (of_each n (λ i. in_order (f i))) b → NoneFails (in_turn n f) → length b ≡ length a
  no_longer_if_none n f a b m h =
      let same : m.0 ≡ [] =
      unnamed_if_none (of_each n (λ i. in_order (f i))) m.0 (subst NoneFails (sym (in_of_each n (λ i. in_order (f i)) f (λ i. in_in_order (f i)))) h) m.1 in
      ap length m.2 ∙ ap (λ l. length (a ++ l)) same ∙ ap length (append-nil a)

-- a call that may run out of memory, and didn't
module _ {R : Type 0} where
  refused_first : (cs : List (Check (BatchVerificationError R))) (e : BatchVerificationError R) → IsRefusal cs e → (e ≡ OutOfMemory → ⊥) → FirstFails cs e
  refused_first cs (Verification e) v n = v
  refused_first cs (Lookup e) v n = v
  refused_first cs (Transcript e) v n = v
  refused_first cs OutOfMemory v n = absurd (n refl)

  pub decided_by_verdict : {T : Type 0} (cs : List (Check (BatchVerificationError R))) (r : Result T (BatchVerificationError R)) → IsVerdict cs r → HasMemory r → IsDecided cs r
  decided_by_verdict cs (Ok x) v m = v
  decided_by_verdict cs (Err e) v m = refused_first cs e v m

  -- a call that may run out of memory
  pub after_verdict : {T : Type 0} (cs : List (Check (BatchVerificationError R))) (r : Result T (BatchVerificationError R)) (a b : List (BatchVerificationError R))
      → IsVerdict cs r → HasMemory r → b ≡ a ++ errors_of r → AreNamedAfter a (in_order cs) b
  after_verdict cs r a b v m e = after_call cs r a b (decided_by_verdict cs r v m) e

  -- its value, where no check fails
  pub value_right : (cs : List (Check (BatchVerificationError R))) (r : Result ℕ (BatchVerificationError R)) (k : ℕ)
      → IsVerdict cs r → HasMemory r → IfOk r (λ n. n ≡ k) → NoneFails cs → unwrap_or (value_of r) 0 ≡ k
  value_right cs (Ok x) k v m h n = h
  value_right cs (Err e) k v m h n = absurd (none_first cs e n (refused_first cs e v m))
