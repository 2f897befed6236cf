-- The weights of a period's values in the value of a periodic column's polynomial.
use Rattle.std.proofs.Common.{◌≡◌, ◌≢◌, ℕ, ◌+◌, ◌^◌, ◌≤◌, inl, inr, List, Option, None, Some, length, get_or, subst, sym, ◌∙◌, ap, arith}
use Rattle.std.proofs.lemmas.Bool.{cases_eq}
use Rattle.p3_field.specs.Ring.{Ring, RingLaws, pow, of_nat}
use Rattle.p3_field.specs.Field.{FieldLaws, RingHom, TwoAdicLaws}
use Rattle.p3_field.specs.Poly.{tabulate, total}
use Rattle.p3_field.specs.Domain.{CosetData, point}
use Rattle.p3_field.specs.Laws.Sums.{total_same}
use Rattle.p3_field.specs.Laws.Tabulate.{length-tabulate, get_or-tabulate}
use Rattle.p3_matrix.specs.Interpolation.{IsInterpolatedAt, weight_at}
use Rattle.p3_matrix.specs.Laws.Interpolants.{interpolated_by_weights}
use Rattle.commit_core.specs.Periodic.{IsPeriodicAt}
use Rattle.commit_core.specs.Weights.{AreWeights, AreKnown}
use Rattle.commit_core.specs.Laws.Repeated.{periodic_on_coset}

module _ {A B : Type 0} (r : Ring A) (L : RingLaws r) (s : Ring B) (M : RingLaws s) (f : A → B) (H : RingHom r s f) (inv : A → A) (W : FieldLaws r inv) (top : ℕ) (root : ℕ → A) (T : TwoAdicLaws r top root) where
  -- those of the period's coset at a power of the point
  pub weights_are : (d e : CosetData A) (a period : ℕ) (x z : B) (ws : List B) → d.log_size ≤ top → e.log_size + a ≡ d.log_size → e.shift ≡ pow r d.shift (2 ^ a) → period ≡ 2 ^ e.log_size → (e.shift ≡ r.zero → ⊥)
      → z ≡ pow s x (2 ^ a) → ws ≡ tabulate (2 ^ e.log_size) (weight_at s (2 ^ e.log_size) (f (inv (of_nat r (2 ^ e.log_size)))) (f (inv (root e.log_size))) (s.mul (f (inv e.shift)) z))
      → AreWeights r s f (2 ^ d.log_size) (point r root d) x period ws
  weights_are d e a period x z ws fits sum shift size nz power is =
      let n = 2 ^ e.log_size in
      let V : ℕ → B = weight_at s n (f (inv (of_nat r n))) (f (inv (root e.log_size))) (s.mul (f (inv e.shift)) z) in
      record {
        count = ap length is ∙ (length-tabulate n V ∙ sym size);
        value = λ column long.
            let t : ℕ → B = λ i. s.mul (f (get_or column i r.zero)) (get_or ws i s.zero) in
            let u : ℕ → B = λ i. s.mul (f (get_or column i r.zero)) (V i) in
            let y = total s period t in
            let same : y ≡ total s n u = ap (λ l. total s l t) size ∙ total_same s M n t u (λ i b. ap (s.mul (f (get_or column i r.zero))) (ap (λ l. get_or l i s.zero) is ∙ get_or-tabulate n V i s.zero b)) in
            let at : IsInterpolatedAt r s f (point r root e) column z y = interpolated_by_weights r L s M f H inv W top root T e.log_size e.shift column z y (omega arith) nz (long ∙ size) same in
            periodic_on_coset r L s M f H top root T d e a column x y fits sum shift (long ∙ size) (subst (λ (w : B). IsInterpolatedAt r s f (point r root e) column w y) power at);
      }

-- nothing is known yet
pub none_known : {A B V : Type 0} (r : Ring A) (s : Ring B) (f : A → B) (n : ℕ) (p : ℕ → A) (x : B) (known : ℕ → Option V) (items : V → List B) → ((i : ℕ) → known i ≡ None) → AreKnown r s f n p x known items
none_known r s f n p x known items none = record { each = λ i v q. absurd (let e : None ≡ Some v = sym (none i) ∙ q in cc) }

-- the weights of one more period
pub more_known : {A B V : Type 0} (r : Ring A) (s : Ring B) (f : A → B) (n : ℕ) (p : ℕ → A) (x : B) (before after : ℕ → Option V) (items : V → List B) (period : ℕ) (made : V) → AreKnown r s f n p x before items
    → AreWeights r s f n p x period (items made) → after period ≡ Some made → ((i : ℕ) → i ≢ period → after i ≡ before i) → AreKnown r s f n p x after items
more_known {B = B} {V = V} r s f n p x before after items period made K W here others = record {
  each = λ i v q. elim (cases_eq i period) [
    | inl e ↦
        let found : Some made ≡ Some v = sym here ∙ (ap after (sym e) ∙ q) in
        let same : made ≡ v = cc in
        subst (λ (j : ℕ). AreWeights r s f n p x j (items v)) (sym e) (subst (λ (w : V). AreWeights r s f n p x period (items w)) same W)
    | inr d ↦ K.each i v (sym (others i d) ∙ q)
  ];
}

-- the value of a column
pub value_is : {A B : Type 0} (r : Ring A) (s : Ring B) (f : A → B) (n : ℕ) (p : ℕ → A) (x : B) (period : ℕ) (ws us : List B) (column : List A) (y : B) → AreWeights r s f n p x period ws → period ≡ length column → us ≡ ws
    → y ≡ total s (length column) (λ i. s.mul (f (get_or column i r.zero)) (get_or us i s.zero)) → IsPeriodicAt r s f n p x column y
value_is {B = B} r s f n p x period ws us column y W size same is =
    let e : y ≡ total s period (λ i. s.mul (f (get_or column i r.zero)) (get_or ws i s.zero)) =
    is ∙ (ap (λ l. total s (length column) (λ i. s.mul (f (get_or column i r.zero)) (get_or l i s.zero))) same ∙ ap (λ l. total s l (λ i. s.mul (f (get_or column i r.zero)) (get_or ws i s.zero))) (sym size)) in
    subst (λ (z : B). IsPeriodicAt r s f n p x column z) (sym e) (W.value column (sym size))
