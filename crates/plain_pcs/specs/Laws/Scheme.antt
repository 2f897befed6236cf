-- What the traits ask of the scheme's numbers, and how many matrices prover data holds polynomials of.
use Rattle.std.proofs.Common.{◌≡◌, ℕ, ◌-◌, ◌≤◌, IsTrue, false, List, length, arith, ◌∙◌, sym, ap, subst, ◌^◌}
use Rattle.std.specs.Prelude.{Result, Ok, Err, IfOk}
use Rattle.std.proofs.lemmas.Slice.Zip.{length-zip}
use Rattle.std.proofs.Math.Nat.{min-eq_left}
use Rattle.p3_field.specs.Ring.{Ring, RingLaws, pow}
use Rattle.p3_field.specs.Domain.{CosetData, point}
use Rattle.p3_matrix.specs.Matrix.{Rows}
use Rattle.p3_matrix.specs.Laws.Powers.{power_le_cancel}
use Rattle.commit_core.specs.Commitments.{Committed, IsSubgroup}
use Rattle.plain_pcs.specs.Scheme.{Scheme, PlainCommitmentData}
use Rattle.plain_pcs.specs.Holding.{AreHolding}

pub none_below_zero : (n : ℕ) → 0 ≤ n
none_below_zero n = omega arith

pub not_hidden : {A : Type 0} → IsTrue false → A
not_hidden h = absurd cc

pub difference_fits : (m n : ℕ) → m - n ≤ m
difference_fits m n = omega arith

-- it holds polynomials of each of its matrices
pub held_count : {F : Type 0} {s : Scheme F} {kept : List (CosetData F × Rows F)} {c : PlainCommitmentData F} {cs : List (Committed F)} → AreHolding s kept c cs → length cs ≡ length kept
held_count {F} {s} {kept} {c} {cs} h =
    h.each.count ∙ (length-zip kept c.matrices ∙ min-eq_left (let e : length kept ≡ length c.matrices = h.count in omega arith))

-- the subgroup of size 2^k, as a domain
pub is_subgroup : {F : Type 0} (r : Ring F) (L : RingLaws r) (root : ℕ → F) (n k : ℕ) (d : CosetData F) → n ≡ 2 ^ k → d ≡ record { shift = r.one; log_size = k }
    → IsSubgroup r root n (2 ^ d.log_size) (point r root d)
is_subgroup {F} r L root n k d e q =
    let P : CosetData F → Type 0 = λ d. IsSubgroup r root n (2 ^ d.log_size) (point r root d) in
    subst P (sym q) (record {
      size_is = sym e;
      point_is = λ j i f.
          let low : k ≤ j = power_le_cancel k j (let g : 2 ^ k ≡ 2 ^ j = sym e ∙ f in omega (arith, g)) in
          let high : j ≤ k = power_le_cancel j k (let g : 2 ^ k ≡ 2 ^ j = sym e ∙ f in omega (arith, g)) in
          let same : k ≡ j = omega (arith, low, high) in
          L.mul_comm r.one (pow r (root k) i) ∙ (L.mul_one (pow r (root k) i) ∙ ap (λ t. pow r (root t) i) same);
    })

-- what follows from what holds of an answer, holds of it
pub if_ok_more : {T E : Type 0} (P Q : T → Type 0) (r : Result T E) → ((x : T) → P x → Q x) → IfOk r P → IfOk r Q
if_ok_more P Q (Ok x) f h = f x h
if_ok_more P Q (Err e) f h = h
