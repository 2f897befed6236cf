-- Prover data that holds polynomials is a matrix of values for each.
use Rattle.std.proofs.Common.{◌≡◌, ℕ, ◌+◌, ◌-◌, ◌*◌, ◌^◌, ◌≤◌, ◌<◌, zero, suc, List, length, sym, ◌∙◌, ap, arith}
use Rattle.std.specs.Prelude.{All}
use Rattle.std.proofs.lemmas.Nat.{pow_pos, pow-add}
use Rattle.std.proofs.lemmas.Option.{slice_get_within}
use Rattle.p3_field.specs.Domain.{CosetData}
use Rattle.p3_matrix.specs.Matrix.{Rows}
use Rattle.commit_core.specs.Claims.{Request}
use Rattle.commit_core.specs.Commitments.{Committed, OpenedCommitment, AreOpenedCommitments, HavePoints}
use Rattle.commit_core.specs.Periodic.{EachFrom}
use Rattle.plain_pcs.specs.Scheme.{Scheme, PlainCommitmentData}
use Rattle.plain_pcs.specs.Laws.Scheme.{held_count}
use Rattle.plain_pcs.specs.Holding.{IsHolding, AreHolding}
use Rattle.plain_pcs.specs.Opening.{HaveMatrixValues, EachHasValues}
use Rattle.plain_pcs.specs.Laws.Listed.{item_at, item_has, zip_item}

-- a power of two is at most another with a greater exponent
pub power_within : (k n : ℕ) → k ≤ n → 2 ^ k ≤ 2 ^ n
power_within k n h =
    let e : k + (n - k) ≡ n = omega arith in
    times (2 ^ k) (2 ^ (n - k)) (2 ^ n) (pow_pos (n - k)) (ap (λ i. 2 ^ i) (sym e) ∙ pow-add 2 k (n - k))
  where
    times : (u v w : ℕ) → 0 < v → w ≡ u * v → u ≤ w
    times u zero w q p = absurd (omega arith)
    times u (suc v) w q p = omega (arith, p)

module _ {F : Type 0} (s : Scheme F) where
  -- held polynomials have the values of the matrix that holds them
  pub holding_values : (e : CosetData F × Rows F) (l : Rows F) (c : Committed F) → IsHolding s e l c
      → HaveMatrixValues s.field.ring s.field.root (2 ^ (e.0.log_size - s.log_blowup)) e.0 e.1 c.polynomials
  holding_values e l c I = record {
    count = I.count;
    short = λ k f h.
        let long = I.lengths k f h in
        let size : 2 ^ I.log_size ≡ 2 ^ (e.0.log_size - s.log_blowup) = let n : I.log_size ≡ e.0.log_size - s.log_blowup = omega (arith, I.larger) in ap (λ k. 2 ^ k) n in
        omega (arith, long, I.size_is, size);
    values_are = I.values_are;
  }

  module _ (evaluated : List (CosetData F × Rows F)) (commitment : PlainCommitmentData F) (cs : List (Committed F)) (A : AreHolding s evaluated commitment cs) where
    -- as many polynomials' matrices as matrices of values
    pub holding_count : length cs ≡ length evaluated
    holding_count = held_count A

    pub holding_each_values : EachHasValues s.field.ring s.field.root s.log_blowup evaluated cs
    holding_each_values = record {
      count = holding_count;
      each = λ i c a e b.
          let inside : i < length evaluated = slice_get_within evaluated i e b in
          let (l, q) = item_at commitment.matrices i (omega (arith, A.count)) in
          holding_values e l c (A.each.each i c a (e, l) (zip_item evaluated commitment.matrices i e l b q));
    }

  module _ {E : Type 0} (requests : List (Request (List (CosetData F × Rows F)) E)) (held : List (OpenedCommitment (PlainCommitmentData F) F)) (A : AreOpenedCommitments (AreHolding s) requests held) where
    pub held_values : EachFrom requests held (λ q h. EachHasValues s.field.ring s.field.root s.log_blowup q.prover_data h.matrices)
    held_values = record {
      count = A.count;
      each = λ i h a q b. holding_each_values q.prover_data h.commitment h.matrices (A.each i h a q b);
    }

    -- one list of points per matrix of values is one per matrix of polynomials
    pub held_lists : All (λ q. length q.points ≡ length q.prover_data) requests → HavePoints held requests
    held_lists lists = record {
      count = sym A.count;
      each = λ i q a h b.
          item_has (λ (w : Request (List (CosetData F × Rows F)) E). length w.points ≡ length w.prover_data) requests i q lists a
          ∙ sym (holding_count q.prover_data h.commitment h.matrices (A.each i h b q a));
    }
