-- A commitment to one matrix.
use Rattle.std.proofs.Common.{◌≡◌, ◌∙◌, ℕ, List, [], ◌∷◌, length, get_or, map, refl, sym, subst, ap, arith, rules}
use Rattle.std.specs.Prelude.{Result, Ok, Err, IsErrAnd}
use Rattle.std.proofs.lemmas.List.{length-map, get_or-map}
use Rattle.p3_field.specs.Ring.{Ring}
use Rattle.p3_field.specs.Poly.{eval_poly}
use Rattle.p3_matrix.specs.Matrix.{Rows}
use Rattle.commit_core.specs.Commitments.{Committed, IsCommitment, IsCommitted, AreCommitted, values_of}
use Rattle.commit_core.specs.Failure.{IfRefused}
use Rattle.commit_core.specs.Laws.OneItem.{single}
use Rattle.commit_core.specs.declared.failure.PcsFailure.{PcsFailure}
use Rattle.commit_core.specs.declared.failure.PcsFailure.TheVariants.{OutOfMemory, Refused}
use Rattle.example_commit.specs.Single.{AreValues}

module _ {F D C P : Type 0} (r : Ring F) (points : D → ℕ) (point_at : D → ℕ → F) (commits : List (D × Rows F) → C → Type 0) (made : P → Type 0) (holds : P → C → List (Committed F) → Type 0) where
  pub committed_one : (evaluations : List (D × Rows F)) (d : D) (m : Rows F) (w : C × P) → evaluations ≡ (d, m) ∷ [] → IsCommitment r points point_at commits made holds evaluations w
      → (c : Committed F) × (IsCommitted r (points d) (point_at d) m c × holds w.1 w.0 (c ∷ []))
  committed_one evaluations d m w e q =
      let (cs, are, h) = q.held in
      let Q : List (D × Rows F) → Type 0 = λ l. AreCommitted r points point_at l cs in
      let all = subst Q e are in
      let (c, one) = single cs all.count in
      let R : List (Committed F) → Type 0 = λ l. AreCommitted r points point_at ((d, m) ∷ []) l in
      let H : List (Committed F) → Type 0 = λ l. holds w.1 w.0 l in
      let of_one = subst R one all in
      (c, (of_one.each 0 c refl (d, m) refl, subst H one h))

pub values_of_committed : {F E : Type 0} (r : Ring F) (s : Ring E) (embed : F → E) (n : ℕ) (p : ℕ → F) (m : Rows F) (c : Committed F) (x : E) (ys : List E)
    → IsCommitted r n p m c → ys ≡ values_of s embed c x → AreValues r s embed p m x ys
values_of_committed {F = F} {E = E} r s embed n p m c x ys q e = record {
  count = ap length e ∙ (length-map c.polynomials f ∙ q.count);
  each = λ j h. record {
    interpolant = get_or c.polynomials j [];
    interpolates = q.each j h;
    value_is = ap (λ l. get_or l j s.zero) e ∙ get_or-map f c.polynomials j [] s.zero (omega (arith, q.count, h));
  };
}
  where
    f : List F → E
    f g = eval_poly s (map embed g) x

-- a refusal that is handed on, with what its cause leads to
pub open_refused : {T E : Type 0} (V : Type 0) (P Q : E → Type 0) → ((e : E) → P e → Q e) → (r : Result T (PcsFailure E)) (f : PcsFailure E) → IsErrAnd r (λ x. x ≡ f) → IfRefused {T = V} (Err f) P → IfRefused r Q
open_refused V P Q leads (Ok w) f h k = absurd h
open_refused V P Q leads (Err OutOfMemory) f h k = search rules
open_refused V P Q leads (Err (Refused e)) f h k = leads e (subst (λ x. IfRefused {T = V} (Err x) P) (sym h) k)
