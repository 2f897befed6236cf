-- Two cosets meet exactly where the ratio of their shifts lies in the larger subgroup.
use Rattle.std.proofs.Common.{◌≡◌, ℕ, ◌-◌, ◌*◌, ◌^◌, ◌<◌, ◌≤◌, ◌⊎◌, inl, inr, sym, ◌∙◌, ap, arith}
use Rattle.std.specs.Prelude.{max}
use Rattle.std.proofs.lemmas.Nat.{pow_pos}
use Rattle.std.proofs.lemmas.Bool.{cases_lt}
use Rattle.p3_field.specs.Ring.{Ring, RingLaws, pow}
use Rattle.p3_field.specs.Field.{FieldLaws, TwoAdicLaws}
use Rattle.p3_field.specs.Domain.{CosetData, coset_point, point}
use Rattle.p3_field.specs.Laws.Algebra.{one_mul}
use Rattle.p3_field.specs.Laws.Order.{one_pow, pow_times}
use Rattle.p3_field.specs.Laws.Roots.{field_no_zero_divisors}
use Rattle.p3_field.specs.Laws.Coset.{two_adic_order, pow_mul}
use Rattle.p3_field.specs.Laws.Binomials.{coset_only}
use Rattle.p3_field.specs.Laws.Tabulate.{first_coset_point}
use Rattle.commit_core.specs.Space.{AreDisjoint}
use Rattle.commit_core.specs.Laws.Cosets.{opposite, in_larger, larger}

module _ {A : Type 0} (r : Ring A) (L : RingLaws r) (inv : A → A) (W : FieldLaws r inv) (top : ℕ) (root : ℕ → A) (T : TwoAdicLaws r top root) where
  -- a point to the size of a larger subgroup
  point_power : (d : CosetData A) (M : ℕ) (i : ℕ) → d.log_size ≤ M → M ≤ top → pow r (point r root d i) (2 ^ M) ≡ pow r d.shift (2 ^ M)
  point_power d M i h t =
      let n = 2 ^ M in
      let w = root M in
      let a = 2 ^ (M - d.log_size) * i in
      let O = two_adic_order r L top root T M t in
      let power : pow r (root d.log_size) i ≡ pow r w a = in_larger r L inv W top root T d.log_size M i h t in
      let c : a * n ≡ n * a = omega arith in
      let full : pow r (pow r w a) n ≡ r.one = sym (pow_times r L w a n) ∙ (ap (pow r w) c ∙ (pow_times r L w n a ∙ (ap (λ z. pow r z a) O.full ∙ one_pow r L a))) in
      pow_mul r L d.shift (pow r (root d.log_size) i) n ∙ (ap (r.mul (pow r d.shift n)) (ap (λ z. pow r z n) power ∙ full) ∙ L.mul_one (pow r d.shift n))

  -- the ratio's power is one exactly where the shifts' powers are equal
  ratio_one : (s t : A) (n : ℕ) → (t ≡ r.zero → ⊥) → pow r s n ≡ pow r t n → pow r (r.mul s (inv t)) n ≡ r.one
  ratio_one s t n nz e =
      pow_mul r L s (inv t) n ∙ (ap (λ z. r.mul z (pow r (inv t) n)) e ∙ (sym (pow_mul r L t (inv t) n) ∙ (ap (λ z. pow r z n) (W.mul_inv t nz) ∙ one_pow r L n)))

  one_ratio : (s t : A) (n : ℕ) → (t ≡ r.zero → ⊥) → pow r (r.mul s (inv t)) n ≡ r.one → pow r s n ≡ pow r t n
  one_ratio s t n nz e =
      let u = r.mul s (inv t) in
      let back : r.mul u t ≡ s = cc (L.mul_assoc s (inv t) t, L.mul_comm (inv t) t, W.mul_inv t nz, L.mul_one s) in
      ap (λ z. pow r z n) (sym back) ∙ (pow_mul r L u t n ∙ (ap (λ z. r.mul z (pow r t n)) e ∙ one_mul r L (pow r t n)))

  pub disjoint_by_ratio : (d e : CosetData A) → (e.shift ≡ r.zero → ⊥) → d.log_size ≤ top → e.log_size ≤ top
      → (pow r (r.mul d.shift (inv e.shift)) (2 ^ max d.log_size e.log_size) ≡ r.one → ⊥) → AreDisjoint (2 ^ d.log_size) (point r root d) (2 ^ e.log_size) (point r root e)
  disjoint_by_ratio d e nz h k apart = λ i j a b same.
      let M = max d.log_size e.log_size in
      let fits : M ≤ top = omega arith in
      apart (ratio_one d.shift e.shift (2 ^ M) nz
      (sym (point_power d M i (larger r L inv W top root T d.log_size e.log_size).0 fits) ∙ (ap (λ z. pow r z (2 ^ M)) same ∙ point_power e M j (larger r L inv W top root T d.log_size e.log_size).1 fits)))

  pub meet_by_ratio : ((x y : A) → (x ≡ y) ⊎ (x ≡ y → ⊥)) → (d e : CosetData A) → (e.shift ≡ r.zero → ⊥) → d.log_size ≤ top → e.log_size ≤ top
      → AreDisjoint (2 ^ d.log_size) (point r root d) (2 ^ e.log_size) (point r root e) → pow r (r.mul d.shift (inv e.shift)) (2 ^ max d.log_size e.log_size) ≡ r.one → ⊥
  meet_by_ratio dec d e nz h k apart one =
      let M = max d.log_size e.log_size in
      let fits : M ≤ top = omega arith in
      let n = 2 ^ M in
      let (i, below, at) = coset_only r L (field_no_zero_divisors r L inv W) dec W.one_differs n e.shift (root M) d.shift (pow_pos M) (two_adic_order r L top root T M fits) nz (one_ratio d.shift e.shift n nz one) in
      elim (cases_lt e.log_size d.log_size) [
        | inl b ↦ in_first i b at
        | inr b ↦ in_second i b below at
      ]
    where
      in_first : (i : ℕ) → e.log_size < d.log_size → d.shift ≡ coset_point r e.shift (root (max d.log_size e.log_size)) i → ⊥
      in_first i b at =
          let l = d.log_size in
          let most : max l e.log_size ≡ l = omega arith in
          let x = root l in
          let P = pow r x i in
          let shift : d.shift ≡ r.mul e.shift P = at ∙ ap (λ m. coset_point r e.shift (root m) i) most in
          let (j, inside, unit) = opposite r L top root T (2 ^ l) x i (pow_pos l) (two_adic_order r L top root T l h) in
          let J = pow r x j in
          apart j 0 inside (pow_pos e.log_size)
          (cc (shift, L.mul_assoc e.shift P J, unit, L.mul_one e.shift, first_coset_point r L e.shift (root e.log_size)))

      in_second : (i : ℕ) → d.log_size ≤ e.log_size → i < 2 ^ max d.log_size e.log_size → d.shift ≡ coset_point r e.shift (root (max d.log_size e.log_size)) i → ⊥
      in_second i b below at =
          let most : max d.log_size e.log_size ≡ e.log_size = omega arith in
          let inside : i < 2 ^ e.log_size = omega (arith, ap (λ m. 2 ^ m) most) in
          apart 0 i (pow_pos d.log_size) inside
          (first_coset_point r L d.shift (root d.log_size) ∙ (at ∙ ap (λ m. coset_point r e.shift (root m) i) most))
