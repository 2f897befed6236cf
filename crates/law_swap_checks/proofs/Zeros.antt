-- There are proofs with the shape of an honest one.
use Rattle.std.proofs.Common.{ℕ, ◌+◌, ◌*◌, ◌^◌, [], ◌∷◌, replicate, refl}
use Rattle.std.proofs.lemmas.List.{length-replicate}
use Rattle.p3_field.specs.BabyBear.{baby_bear_ring}
use Rattle.p3_field.specs.Quartic.{quartic_ring}
use Rattle.p3_field.specs.declared.baby_bear.BabyBear.{BabyBear}
use Rattle.p3_matrix.specs.Matrix.{Rows}
use Rattle.plain_pcs.specs.declared.commitment.PlainProof.{PlainProof}
use Rattle.law_swap_checks.specs.SwapShape.{SwapProof, HasWidthAndHeight, IsSwapShape}
use Rattle.law_swap_checks.proofs.Parts.{proof_of}

-- a matrix of zeros
abbrev zeros : (columns rows : ℕ) → Rows BabyBear
zeros columns rows = record { values = replicate (columns * rows) baby_bear_ring.zero; width = columns }

zeros_shape : (columns rows : ℕ) → HasWidthAndHeight columns rows (zeros columns rows)
zeros_shape columns rows = record { width = refl; values = length-replicate (columns * rows) baby_bear_ring.zero }

-- one of which all values are zero
abbrev none_but_zeros : ℕ → SwapProof
none_but_zeros k =
    let z = quartic_ring.zero in
    let opening : PlainProof = record {} in
    proof_of k (zeros 2 (2 ^ (k + 1))) (zeros 4 (2 ^ (k + 1))) (z ∷ z ∷ []) (z ∷ z ∷ []) (z ∷ z ∷ z ∷ z ∷ []) opening baby_bear_ring.zero

pub shape_met : (k : ℕ) → (p : SwapProof) × IsSwapShape k p
shape_met k = (
  none_but_zeros k,
  record {
    main = zeros_shape 2 (2 ^ (k + 1));
    permutation = refl;
    quotient_chunks = zeros_shape 4 (2 ^ (k + 1));
    random = refl;
    instances = record { trace_local = refl; trace_next = refl; preprocessed = refl; quotient_chunks = refl; random = refl; permutation_local = refl; permutation_next = refl };
    lookup_terminals = refl;
    degree_bits = refl;
    lookup_pow_witness = refl;
  },
)
