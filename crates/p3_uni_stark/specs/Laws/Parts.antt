-- The quotient of a domain that is split in parts: no two parts have a point in common, and at each point of a part the quotient's value is
-- that part's chunk.
use Rattle.std.proofs.Common.{◌≡◌, ℕ, zero, suc, ◌+◌, ◌*◌, ◌/◌, ◌^◌, ◌<◌, ◌≤◌, ◌⊎◌, List, [], length, get_or, sym, ◌∙◌, ap, arith}
use Rattle.std.proofs.Math.Nat.{mul-div_cancel}
use Rattle.std.proofs.lemmas.Option.{slice_get-get_or}
use Rattle.p3_field.specs.Ring.{RingLaws}
use Rattle.p3_field.specs.Field.{TwoAdic, Extension, combine, FieldLaws, RingHom, TwoAdicLaws}
use Rattle.p3_field.specs.Domain.{CosetData, point}
use Rattle.p3_field.specs.Laws.Interpolants.{points_apart}
use Rattle.p3_matrix.specs.Laws.Powers.{power_cancel, power_le_cancel}
use Rattle.commit_core.specs.Space.{IsPart, EachOf}
use Rattle.commit_core.specs.Laws.Cosets.{points_of_part, point_not_zero}
use Rattle.commit_core.specs.Laws.Parts.{parts_apart}
use Rattle.p3_uni_stark.specs.Recombine.{domain_at, AllDisjoint, recombined}
use Rattle.p3_uni_stark.specs.Laws.Weights.{recombined_at_own}

-- a part is no larger than the whole
at_most : (n c m : ℕ) → n * c ≡ m → 0 < c → n ≤ m
at_most n zero m e pos = absurd (omega (arith, pos))
at_most n (suc c) m e pos = omega (arith, e)

module _ {F : Type 0} (f : TwoAdic F) (L : RingLaws f.ring) (W : FieldLaws f.ring f.inv) (top : ℕ) (T : TwoAdicLaws f.ring top f.root)
    (whole : CosetData F) (shift : whole.shift ≡ f.ring.zero → ⊥) (fits : whole.log_size ≤ top) (c : ℕ) (parts : List (CosetData F)) (S : EachOf c parts (IsPart f.ring f.root whole c)) where
  part_at : (i : ℕ) → i < length parts → IsPart f.ring f.root whole c i (domain_at f.ring parts i)
  part_at i h = S.each i (domain_at f.ring parts i) (slice_get-get_or parts i (record { shift = f.ring.one; log_size = 0 }) h)

  pub parts_all_disjoint : AllDisjoint f parts
  parts_all_disjoint i h j k differ =
      let a = domain_at f.ring parts i in
      let b = domain_at f.ring parts j in
      let one = part_at i h in
      let other = part_at j k in
      parts_apart (point f.ring f.root whole) (point f.ring f.root a) (point f.ring f.root b) (2 ^ whole.log_size) (2 ^ a.log_size) (2 ^ b.log_size) c i j
      (points_apart f.ring L f.inv W top f.root T whole fits shift) one.size_is other.size_is (omega (arith, h, S.count)) (omega (arith, k, S.count)) differ
      (λ l. points_of_part f.ring L top f.root T whole a c i l fits one) (λ l. points_of_part f.ring L top f.root T whole b c j l fits other)

  -- a part's size, as a quotient
  size_at : (i : ℕ) → i < length parts → 2 ^ (domain_at f.ring parts i).log_size ≡ 2 ^ whole.log_size / c
  size_at i h =
      let pos : 0 < c = omega (arith, h, S.count) in
      sym (mul-div_cancel (2 ^ (domain_at f.ring parts i).log_size) pos) ∙ ap (λ n. n / c) (part_at i h).size_is

  module _ {E : Type 0} (e : Extension F E) (M : RingLaws e.ring) (H : RingHom f.ring e.ring e.embed) (dec : (x y : F) → (x ≡ y) ⊎ (x ≡ y → ⊥)) where
    pub recombined_on_part : (chunks : List (List E)) (i k : ℕ) → i < c → recombined f e parts chunks (e.embed (point f.ring f.root whole (i + c * k))) ≡ combine e.ring e.basis 0 (get_or chunks i [])
    recombined_on_part chunks i k h =
        let d = domain_at f.ring parts i in
        let within : i < length parts = omega (arith, h, S.count) in
        let part = part_at i within in
        let pos : 0 < c = omega (arith, h) in
        let small : d.log_size ≤ whole.log_size = power_le_cancel d.log_size whole.log_size (at_most (2 ^ d.log_size) c (2 ^ whole.log_size) part.size_is pos) in
        let low : d.log_size ≤ top = omega (arith, small, fits) in
        ap (λ x. recombined f e parts chunks (e.embed x)) (sym (points_of_part f.ring L top f.root T whole d c i k fits part))
        ∙ recombined_at_own f L W top T e M H dec parts chunks i k within parts_all_disjoint
        (λ j l z. point_not_zero f.ring L f.inv W top f.root T whole j shift fits (sym (part_at j l).shift_is ∙ z))
        low
        (λ j l. power_cancel (domain_at f.ring parts j).log_size d.log_size (size_at j l ∙ sym (size_at i within)))
