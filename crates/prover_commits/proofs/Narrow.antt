-- Flattened matrices with a row.
use Rattle.std.proofs.Common.{◌≡◌, ℕ, zero, suc, ◌*◌, ◌/◌, ◌<◌, ◌≤◌, List, length, arith}
use Rattle.std.specs.List.{flat_map}
use Rattle.p3_matrix.specs.Matrix.{FillsRows, Rows, height}
use Rattle.p3_matrix.specs.Laws.Flattened.{length-pieces}

-- a matrix with a row has no more columns than values
narrow : (n w d : ℕ) → n / w * w ≡ n → 0 < n / w → w * d ≤ n * d
narrow n w d fills tall =
    let low : w ≤ n = at_least (n / w) w n fills tall in
    more w n d low
  where
    at_least : (h w n : ℕ) → h * w ≡ n → 0 < h → w ≤ n
    at_least zero w n e pos = absurd (omega (arith, pos))
    at_least (suc h) w n e pos = omega (arith, e)

    more : (w n d : ℕ) → w ≤ n → w * d ≤ n * d
    more w n zero h = omega arith
    more w n (suc d) h = let q = more w n d h in omega (arith, q, h)

-- so its flattened columns are as few as the flattened values
pub flat_narrow : {X Y : Type 0} (f : X → List Y) (d : ℕ) → ((x : X) → length (f x) ≡ d) → (m : Rows X) → FillsRows m.values m.width → 0 < height m → m.width * d ≤ length (flat_map f m.values)
flat_narrow f d long m fills tall =
    let n = length-pieces f d long m.values in
    let q = narrow (length m.values) m.width d fills tall in
    omega (arith, n, q)
