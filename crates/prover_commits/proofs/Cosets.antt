-- What commits on the points of a backend's domains commits on the cosets' points.
use Rattle.std.proofs.Common.{◌≡◌, ℕ, ◌^◌, List, subst}
use Rattle.p3_field.specs.Domain.{CosetData, point}
use Rattle.p3_field.specs.Ring.{Ring}
use Rattle.p3_matrix.specs.Matrix.{Rows}
use Rattle.commit_core.specs.Commitments.{Committed, IsCommitment}

pub commits_on : {F C D : Type 0} (r : Ring F) (root : ℕ → F) (points : CosetData F → ℕ) (point_at : CosetData F → ℕ → F) (commits : List (CosetData F × Rows F) → C → Type 0) (made : D → Type 0) (holds : D → C → List (Committed F) → Type 0)
    → ((d : CosetData F) → points d ≡ 2 ^ d.log_size) → ((d : CosetData F) (i : ℕ) → point_at d i ≡ point r root d i)
    → (matrices : List (CosetData F × Rows F)) (w : C × D) → IsCommitment r points point_at commits made holds matrices w → IsCommitment r (λ (d : CosetData F). 2 ^ d.log_size) (point r root) commits made holds matrices w
commits_on {F} r root points point_at commits made holds sizes places matrices w I =
    subst (λ q. IsCommitment r (λ (d : CosetData F). 2 ^ d.log_size) q commits made holds matrices w) (λ i d j. places d j i)
    (subst (λ q. IsCommitment r q point_at commits made holds matrices w) (λ i d. sizes d i) I)
