-- When a quotient's parts can't be committed to: they have one size and one width, so where one is too large, the first is.
use Rattle.std.proofs.Common.{◌≡◌, ℕ, ◌+◌, ◌*◌, ◌^◌, ◌<◌, ◌≤◌, inl, inr, List, Some, sym, ◌∙◌, ap, arith}
use Rattle.std.specs.Prelude.{slice_get}
use Rattle.std.specs.Int.{IsPowerOfTwo}
use Rattle.std.proofs.Math.Nat.{mul_right_comm, mul-le-mul_right, le_of_mul-le-mul_right, pow-le-pow_right}
use Rattle.std.proofs.lemmas.Nat.{pow-add, pow_pos}
use Rattle.std.proofs.lemmas.Bool.{cases_lt}
use Rattle.p3_field.specs.Ring.{RingLaws}
use Rattle.p3_field.specs.Field.{FieldLaws, TwoAdicLaws}
use Rattle.p3_field.specs.Domain.{CosetData}
use Rattle.p3_matrix.specs.Matrix.{Rows, height}
use Rattle.p3_matrix.specs.Laws.Powers.{power_le_cancel}
use Rattle.commit_core.specs.Space.{IsPart}
use Rattle.commit_core.specs.Commitments.{AreParts, AreExtensions}
use Rattle.commit_core.specs.Failure.{NoneOf, FaultInTurn, NoneInTurn}
use Rattle.p3_matrix.specs.Laws.Cells.{width_positive}
use Rattle.commit_rows.specs.Laws.FlatBatches.{product_cancel}
use Rattle.plain_pcs.specs.Scheme.{Scheme}
use Rattle.plain_pcs.specs.Extension.{IsCommittable, Extends}
use Rattle.p3_field.specs.Checks.{IsFirstWithout}
use Rattle.plain_pcs.specs.Refusals.{CommitFault, ExtensionsFault, HasSubgroupHeight, QuotientFault}
use Rattle.plain_pcs.specs.Laws.Listed.{item_at, lacking, earlier_has, first_lacking}
use Rattle.plain_pcs.specs.Laws.Extensions.{extended_height}
use Rattle.plain_pcs.specs.declared.error.PlainProverError.{PlainProverError}
use Rattle.plain_pcs.specs.declared.error.PlainProverError.TheVariants.{Commit, Open}

-- the extensions of n parts of a domain are together as large as the extension of the whole
together : (k b d n : ℕ) → 2 ^ k * n ≡ 2 ^ d → 2 ^ (k + b) * n ≡ 2 ^ (d + b)
together k b d n e =
    ap (λ x. x * n) (pow-add 2 k b) ∙ (swapped (2 ^ k) (2 ^ b) n ∙ (ap (λ x. x * 2 ^ b) e ∙ sym (pow-add 2 d b)))
  where
    swapped : (x y z : ℕ) → x * y * z ≡ x * z * y
    swapped x y z = mul_right_comm x y z

module _ {F : Type 0} (s : Scheme F) (d : CosetData F) (m : Rows F) (n : ℕ) (parts : List (CosetData F × Rows F)) (power : IsPowerOfTwo n) (rows : height m ≡ 2 ^ d.log_size) (A : AreParts (IsPart s.field.ring s.field.root d n) m n parts) where
  positive : 0 < n
  positive = omega (arith, power.1, pow_pos power.0)

  part_committable : (i : ℕ) (x : CosetData F × Rows F) → slice_get parts i ≡ Some x → 2 ^ (d.log_size + s.log_blowup) ≤ 2 ^ s.most * n → IsCommittable s x.0 x.1
  part_committable i x q le =
      let (P, S) = A.each i x q in
      let k = x.0.log_size in
      let all : 2 ^ (k + s.log_blowup) * n ≡ 2 ^ (d.log_size + s.log_blowup) = together k s.log_blowup d.log_size n P.size_is in
      let one : 2 ^ (k + s.log_blowup) ≤ 2 ^ s.most = le_of_mul-le-mul_right {k = n} (omega (arith, all)) positive in
      record {
        has_columns = let w : 0 < m.width = width_positive m (d.log_size, rows) in omega (arith, w, S.width_is);
        height_is = product_cancel (height x.1) (2 ^ k) n positive (S.height_is ∙ (rows ∙ sym P.size_is));
        fits = power_le_cancel (k + s.log_blowup) s.most one;
      }

  part_fits : (i : ℕ) (x : CosetData F × Rows F) → slice_get parts i ≡ Some x → IsCommittable s x.0 x.1 → 2 ^ (d.log_size + s.log_blowup) ≤ 2 ^ s.most * n
  part_fits i x q C =
      let (P, S) = A.each i x q in
      let k = x.0.log_size in
      let all : 2 ^ (k + s.log_blowup) * n ≡ 2 ^ (d.log_size + s.log_blowup) = together k s.log_blowup d.log_size n P.size_is in
      let one : 2 ^ (k + s.log_blowup) ≤ 2 ^ s.most = pow-le-pow_right (omega arith) C.fits in
      let more : 2 ^ (k + s.log_blowup) * n ≤ 2 ^ s.most * n = mul-le-mul_right n one in
      omega (arith, all, more)

  first_part : (x : CosetData F × Rows F) × (slice_get parts 0 ≡ Some x)
  first_part = item_at parts 0 (omega (arith, A.count, positive))

  too_large : (i : ℕ) → IsFirstWithout (λ e. IsCommittable s e.0 e.1) parts i → 2 ^ s.most * n < 2 ^ (d.log_size + s.log_blowup)
  too_large i L = elim (cases_lt (2 ^ s.most * n) (2 ^ (d.log_size + s.log_blowup))) [
    | inl h ↦ h
    | inr h ↦ let (x, q, lacks) = lacking (λ e. IsCommittable s e.0 e.1) parts i L in absurd (lacks (part_committable i x q h))
  ]

  -- the first of equal parts that can't be committed to is the first part
  first_named : (i : ℕ) → IsFirstWithout (λ e. IsCommittable s e.0 e.1) parts i → i ≡ 0
  first_named i L = elim (cases_lt 0 i) [
    | inl h ↦
        let (x, q) = first_part in
        let (y, r, lacks) = lacking (λ e. IsCommittable s e.0 e.1) parts i L in
        absurd (lacks (part_committable i y r (part_fits 0 x q (earlier_has (λ e. IsCommittable s e.0 e.1) parts i 0 x L h q))))
    | inr h ↦ omega arith
  ]

  module _ (L : RingLaws s.field.ring) (W : FieldLaws s.field.ring s.field.inv) (T : TwoAdicLaws s.field.ring s.most s.field.root) where
    pub refused_by_parts : (e : PlainProverError) → FaultInTurn (CommitFault s parts) (AreExtensions (Extends s) parts) (ExtensionsFault s) e → QuotientFault s d n e
    refused_by_parts (Commit i) (inl f) = (first_named i f, too_large i f)
    refused_by_parts (Commit i) (inr f) =
        let (ls, E, g) = f.1 in
        let (l, q, lacks) = lacking (HasSubgroupHeight s.most) ls i g in
        absurd (lacks (extended_height s L W T parts ls E i l q))
    refused_by_parts (Open i) (inl f) = f
    refused_by_parts (Open i) (inr f) = let (ls, E, g) = f.1 in g

  pub granted_by_parts : NoneInTurn (CommitFault s parts) (AreExtensions (Extends s) parts) (ExtensionsFault s) → NoneOf (QuotientFault s d n)
  granted_by_parts N (Commit i) h =
      let (x, q) = first_part in
      N.0 (Commit 0)
      (first_lacking (λ e. IsCommittable s e.0 e.1) parts 0 x q (λ C. let low = part_fits 0 x q C in omega (arith, low, h.1)) (λ j y lt a. absurd (omega arith)))
  granted_by_parts N (Open i) h = h
