-- Cosets as polynomial spaces.
use Rattle.std.proofs.Common.{◌≡◌, ℕ, zero, suc, ◌+◌, ◌-◌, ◌*◌, ◌/◌, ◌%◌, ◌^◌, ◌<◌, ◌≤◌, ◌↔◌, inl, inr, sym, ◌∙◌, ap, arith}
use Rattle.std.specs.Prelude.{max}
use Rattle.std.proofs.Math.Nat.{pow-suc, mul-div_cancel_left}
use Rattle.std.proofs.lemmas.Nat.{pow_pos, pow-add, mod_below}
use Rattle.std.proofs.lemmas.Bool.{cases_lt}
use Rattle.p3_field.specs.Ring.{Ring, RingLaws, pow}
use Rattle.p3_field.specs.Field.{FieldLaws, TwoAdicLaws}
use Rattle.p3_field.specs.Domain.{CosetData, point}
use Rattle.p3_field.specs.Laws.Algebra.{one_mul, zero_mul, pow_add, pow_square, pow_one}
use Rattle.p3_field.specs.Laws.Order.{one_pow, pow_times}
use Rattle.p3_field.specs.Laws.Roots.{field_no_zero_divisors}
use Rattle.p3_field.specs.Laws.Coset.{HasOrder, two_adic_order, mul_cancel}
use Rattle.p3_field.specs.Laws.Subcosets.{row_of_coset}
use Rattle.p3_field.specs.Laws.Tabulate.{first_coset_point, next_coset_point}
use Rattle.p3_matrix.specs.Laws.Powers.{power_le_cancel}
use Rattle.commit_core.specs.Space.{AreDisjoint, IsOffered, IsGeneratorOutside, IsPart}

pub point_after : {A : Type 0} (r : Ring A) (L : RingLaws r) (root : ℕ → A) (d : CosetData A) (i : ℕ) → point r root d (i + 1) ≡ r.mul (point r root d i) (root d.log_size)
point_after r L root d i = sym (next_coset_point r L d.shift (root d.log_size) i)

power_quotient : (a b c : ℕ) → 2 ^ a * c ≡ 2 ^ b → (a ≤ b) × (c ≡ 2 ^ (b - a))
power_quotient a b zero e = absurd (let p : 0 < 2 ^ b = pow_pos b in omega arith)
power_quotient a b (suc c) e =
    let low : 2 ^ a ≤ 2 ^ b = omega arith in
    let h : a ≤ b = power_le_cancel a b low in
    let sum : a + (b - a) ≡ b = omega arith in
    let split : 2 ^ a * 2 ^ (b - a) ≡ 2 ^ b = sym (pow-add 2 a (b - a)) ∙ ap (λ k. 2 ^ k) sum in
    (h, sym (mul-div_cancel_left (suc c) (pow_pos a)) ∙ (ap (λ k. k / 2 ^ a) (e ∙ sym split) ∙ mul-div_cancel_left (2 ^ (b - a)) (pow_pos a)))

module _ {A : Type 0} (r : Ring A) (L : RingLaws r) (top : ℕ) (root : ℕ → A) (T : TwoAdicLaws r top root) where
  -- a power of a generator is the generator of the smaller subgroup
  pub root_power : (k a : ℕ) → k + a ≤ top → pow r (root (k + a)) (2 ^ a) ≡ root k
  root_power k zero h = let e : k + zero ≡ k = omega arith in pow_one r L (root (k + zero)) ∙ ap root e
  root_power k (suc a) h =
      let s : 2 ^ suc a ≡ 2 ^ a + 2 ^ a = rw pow-suc (omega arith) in
      let e : k + suc a ≡ (k + a) + 1 = omega arith in
      let x = root (k + suc a) in
      let square : r.mul x x ≡ root (k + a) = ap (λ n. r.mul (root n) (root n)) e ∙ T.gen_square (k + a) (omega arith) in
      ap (pow r x) s ∙ (sym (pow_square r L x (2 ^ a)) ∙ (ap (λ y. pow r y (2 ^ a)) square ∙ root_power k a (omega arith)))

  pub points_of_part : (d e : CosetData A) (c i j : ℕ) → d.log_size ≤ top → IsPart r root d c i e → point r root e j ≡ point r root d (i + c * j)
  points_of_part d e c i j h p =
      let (less, count) = power_quotient e.log_size d.log_size c p.size_is in
      let a = d.log_size - e.log_size in
      let sum : e.log_size + a ≡ d.log_size = omega arith in
      let smaller : root e.log_size ≡ pow r (root d.log_size) c =
      sym (root_power e.log_size a (omega arith)) ∙ (ap (λ k. pow r (root k) (2 ^ a)) sum ∙ ap (pow r (root d.log_size)) (sym count)) in
      cc (p.shift_is, smaller, row_of_coset r L d.shift (root d.log_size) c i j)

  -- the powers of an element of order n: any power is one of the first n, and has an inverse among them
  pub reduced : (n : ℕ) (h : A) (i : ℕ) → 0 < n → HasOrder r n h → pow r h i ≡ pow r h (i % n)
  reduced n h i pos O =
      let q = i / n in
      let e : n * q + i % n ≡ i = omega arith in
      let full : pow r h (n * q) ≡ r.one = pow_times r L h n q ∙ (ap (λ z. pow r z q) O.full ∙ one_pow r L q) in
      ap (pow r h) (sym e) ∙ (pow_add r L h (n * q) (i % n) ∙ (ap (λ z. r.mul z (pow r h (i % n))) full ∙ one_mul r L (pow r h (i % n))))

  pub opposite : (n : ℕ) (h : A) (i : ℕ) → 0 < n → HasOrder r n h → (j : ℕ) × (j < n) × (r.mul (pow r h i) (pow r h j) ≡ r.one)
  opposite n h i pos O =
      let k = i % n in
      let j = (n - k) % n in
      let low : k < n = omega arith in
      let back : k + (n - k) ≡ n = omega arith in
      let product : r.mul (pow r h k) (pow r h (n - k)) ≡ r.one = sym (pow_add r L h k (n - k)) ∙ (ap (pow r h) back ∙ O.full) in
      (j, omega arith, cc (reduced n h i pos O, reduced n h (n - k) pos O, product))

module _ {A : Type 0} (r : Ring A) (L : RingLaws r) (inv : A → A) (W : FieldLaws r inv) (top : ℕ) (root : ℕ → A) (T : TwoAdicLaws r top root) where
  -- the powers of a smaller subgroup's generator are powers of a larger one's
  pub in_larger : (k l : ℕ) (i : ℕ) → k ≤ l → l ≤ top → pow r (root k) i ≡ pow r (root l) (2 ^ (l - k) * i)
  in_larger k l i h t =
      let a = l - k in
      let sum : k + a ≡ l = omega arith in
      ap (λ z. pow r z i) (sym (root_power r L top root T k a (omega arith)) ∙ ap (λ n. pow r (root n) (2 ^ a)) sum)
      ∙ sym (pow_times r L (root l) (2 ^ a) i)

  pub larger : (k l : ℕ) → (k ≤ max k l) × (l ≤ max k l)
  larger k l = (omega arith, omega arith)

  -- an offered coset is disjoint exactly where the generator lies outside of the larger subgroup
  pub disjoint_where_outside : (generator : A) (d e : CosetData A) (m : ℕ) → (d.shift ≡ r.zero → ⊥) → d.log_size ≤ top → e.log_size ≤ top → IsOffered r generator d m e
      → AreDisjoint (2 ^ d.log_size) (point r root d) (2 ^ e.log_size) (point r root e) ↔ IsGeneratorOutside r root generator d e
  disjoint_where_outside generator d e m nz h k o =
      (λ apart i same. inside apart i same, λ outside i j a b same. meeting outside i j same)
    where
      fits : max d.log_size e.log_size ≤ top
      fits = omega arith

      order : HasOrder r (2 ^ max d.log_size e.log_size) (root (max d.log_size e.log_size))
      order = two_adic_order r L top root T (max d.log_size e.log_size) fits

      meeting : IsGeneratorOutside r root generator d e → (i j : ℕ) → point r root d i ≡ point r root e j → ⊥
      meeting outside i j same =
          let M = max d.log_size e.log_size in
          let x = root M in
          let a = 2 ^ (M - d.log_size) * i in let b = 2 ^ (M - e.log_size) * j in
          let left : pow r (root d.log_size) i ≡ pow r x a = in_larger d.log_size M i (larger d.log_size e.log_size).0 fits in
          let right : pow r (root e.log_size) j ≡ pow r x b = in_larger e.log_size M j (larger d.log_size e.log_size).1 fits in
          let (c, below, unit) = opposite r L top root T (2 ^ M) x b (pow_pos M) order in
          let P = pow r x a in let Q = pow r x b in let C = pow r x c in
          let cancelled : P ≡ r.mul generator Q =
          mul_cancel r L (field_no_zero_divisors r L inv W) d.shift P (r.mul generator Q) nz
          (cc (left, right, same, o.shift_is, L.mul_assoc d.shift generator Q)) in
          outside (a + c) (cc (pow_add r L x a c, cancelled, L.mul_assoc generator Q C, unit, L.mul_one generator))

      inside : AreDisjoint (2 ^ d.log_size) (point r root d) (2 ^ e.log_size) (point r root e) → (i : ℕ) → pow r (root (max d.log_size e.log_size)) i ≡ generator → ⊥
      inside apart i same = elim (cases_lt e.log_size d.log_size) [
        | inl b ↦ in_first apart i b same
        | inr b ↦ in_second apart i b same
      ]
        where
          in_first : AreDisjoint (2 ^ d.log_size) (point r root d) (2 ^ e.log_size) (point r root e) → (i : ℕ) → e.log_size < d.log_size → pow r (root (max d.log_size e.log_size)) i ≡ generator → ⊥
          in_first apart i b same =
              let k = d.log_size in
              let most : max k e.log_size ≡ k = omega arith in
              let x = root k in
              let n = 2 ^ k in
              let power : pow r x i ≡ generator = ap (λ j. pow r (root j) i) (sym most) ∙ same in
              let below : i % n < n = mod_below i n (pow_pos k) in
              let again : pow r x i ≡ pow r x (i % n) = reduced r L top root T n x i (pow_pos k) (two_adic_order r L top root T k h) in
              apart (i % n) 0 below (pow_pos e.log_size)
              (cc (ap (r.mul d.shift) (sym again ∙ power), first_coset_point r L e.shift (root e.log_size), o.shift_is))

          in_second : AreDisjoint (2 ^ d.log_size) (point r root d) (2 ^ e.log_size) (point r root e) → (i : ℕ) → d.log_size ≤ e.log_size → pow r (root (max d.log_size e.log_size)) i ≡ generator → ⊥
          in_second apart i b same =
              let l = e.log_size in
              let most : max d.log_size l ≡ l = omega arith in
              let x = root l in
              let power : pow r x i ≡ generator = ap (λ j. pow r (root j) i) (sym most) ∙ same in
              let (j, below, unit) = opposite r L top root T (2 ^ l) x i (pow_pos l) (two_adic_order r L top root T l k) in
              let J = pow r x j in
              apart 0 j (pow_pos d.log_size) below
              (cc (first_coset_point r L d.shift (root d.log_size), o.shift_is, L.mul_assoc d.shift generator J, power, unit, L.mul_one d.shift))

  pub point_not_zero : (d : CosetData A) (i : ℕ) → (d.shift ≡ r.zero → ⊥) → d.log_size ≤ top → point r root d i ≡ r.zero → ⊥
  point_not_zero d i nz h e =
      let x = root d.log_size in
      let n = 2 ^ d.log_size in
      let (j, below, unit) = opposite r L top root T n x i (pow_pos d.log_size) (two_adic_order r L top root T d.log_size h) in
      let power : pow r x i ≡ r.zero = field_no_zero_divisors r L inv W d.shift (pow r x i) nz e in
      W.one_differs (sym unit ∙ (ap (λ z. r.mul z (pow r x j)) power ∙ zero_mul r L (pow r x j)))
