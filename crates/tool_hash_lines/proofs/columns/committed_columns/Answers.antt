use Rattle.std.proofs.Common.{◌≡◌, ℕ, ◌+◌, ◌^◌, ◌≤◌, Vec, Global, Some, map}
use Rattle.std.specs.Prelude.{slice_get}
use Rattle.std.proofs.lemmas.Option.{slice_get-get_or}
use Rattle.std.proofs.lemmas.Result.{IfOk-weaker}
use Rattle.p3_field.specs.BabyBear.{baby_bear_ring, baby_bear_root, reduce}
use Rattle.p3_field.specs.Domain.{IsInterpolant, coset_point}
use Rattle.p3_field.specs.declared.baby_bear.BabyBear.{BabyBear}
use Rattle.p3_matrix.specs.Matrix.{Rows, column, height}
use Rattle.commit_core.specs.Space.{EachOf}
use Rattle.law_soundness.specs.Commitment.{matrix_at, no_matrix, polynomials_at}
use Rattle.tool_statement.specs.Config.{tool_scheme}
use Rattle.tool_hash_lines.proofs.Committed.{columns_are, there_high}
use Rattle.tool_hash_lines.proofs.columns.committed_columns.Goals as goal

pub committed-requires-clause-height : goal.committed-requires-clause-height
committed-requires-clause-height c = λ m e. there_high c.args.commitment.now c.args.matrix m c.requires.height e

pub returns-clause-columns : goal.returns-clause-columns
returns-clause-columns c =
    let given = c.args.commitment.now in
    let i = c.args.matrix in
    let At : Vec (Vec BabyBear Global) Global → Type 0 = λ v. (m : Rows BabyBear) (k : ℕ) → slice_get given.matrices i ≡ Some m → height m ≡ 2 ^ k
    → EachOf m.width v.items (λ j f. IsInterpolant baby_bear_ring (coset_point baby_bear_ring (reduce 31) (baby_bear_root k)) (column baby_bear_ring.zero m j) f.items) in
    let Are : Vec (Vec BabyBear Global) Global → Type 0 = λ v. (k : ℕ) → height (matrix_at given i) ≡ 2 ^ k
    → EachOf (matrix_at given i).width v.items (λ j f. IsInterpolant baby_bear_ring (coset_point baby_bear_ring (reduce 31) (baby_bear_root k)) (column baby_bear_ring.zero (matrix_at given i) j) f.items) in
    IfOk-weaker c.committed.result At Are (λ v h k high. h (matrix_at given i) k (slice_get-get_or given.matrices i no_matrix c.requires.exists) high) c.committed.ensures

pub returns-clause-polynomials : goal.returns-clause-polynomials
returns-clause-polynomials c =
    let given = c.args.commitment.now in
    let i = c.args.matrix in
    let At : Vec (Vec BabyBear Global) Global → Type 0 = λ v. (m : Rows BabyBear) (k : ℕ) → slice_get given.matrices i ≡ Some m → height m ≡ 2 ^ k
    → EachOf m.width v.items (λ j f. IsInterpolant baby_bear_ring (coset_point baby_bear_ring (reduce 31) (baby_bear_root k)) (column baby_bear_ring.zero m j) f.items) in
    let Are : Vec (Vec BabyBear Global) Global → Type 0 = λ v. (k : ℕ) → k + 1 ≤ 27 → height (matrix_at given i) ≡ 2 ^ (k + 1) → map (λ f. f.items) v.items ≡ polynomials_at tool_scheme k given i in
    IfOk-weaker c.committed.result At Are (λ v h k fits high. columns_are given i k fits high v.items (h (matrix_at given i) (k + 1) (slice_get-get_or given.matrices i no_matrix c.requires.exists) high)) c.committed.ensures
