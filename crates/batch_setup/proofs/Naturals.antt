-- Subgroups as cosets.
use Rattle.std.proofs.Common.{◌≡◌, ℕ, ◌^◌, sym, ◌∙◌}
use Rattle.p3_field.specs.Ring.{Ring, RingLaws, pow}
use Rattle.p3_field.specs.Domain.{CosetData, point}
use Rattle.p3_field.specs.Laws.Tabulate.{first_coset_point}
use Rattle.p3_matrix.specs.Laws.Powers.{power_cancel}
use Rattle.batch_setup.specs.Preprocessed.{natural}

-- a coset of size 2^k whose first point is one
pub subgroup_of : {F : Type 0} (r : Ring F) (L : RingLaws r) (root : ℕ → F) (d : CosetData F) (k : ℕ) → 2 ^ d.log_size ≡ 2 ^ k → point r root d 0 ≡ pow r (root k) 0 → d ≡ natural r.one k
unfolding pow
subgroup_of r L root d k e f =
    let s : d.shift ≡ r.one = sym (first_coset_point r L d.shift (root d.log_size)) ∙ f in
    let n = power_cancel d.log_size k e in
    λ i. record { shift = s i; log_size = n i }
