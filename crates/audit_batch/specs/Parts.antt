-- The checks of a batch proof by their parts, in a verifier's order, and which of them are asked where all that fail are to be named.
use Rattle.std.specs.Prelude.{ℕ, List, [], ◌∷◌, ◌++◌}
use Rattle.p3_field.specs.Checks.{Check, NoneFails, in_turn}
use Rattle.audit_batch.specs.Asked.{Asked, always, only, in_order, of_each, checks_in}

-- The parts of the shape: the check of the counts, and of what is random; for each of so many tables its size; for each bus what may be sent on it; for each
-- table what is opened; and the presence of permutation columns.
pub record ShapeParts (R : Type 0) : Type 1 where
  pub counts : Check R
  pub randomized : Check R
  pub tables : ℕ
  pub size : ℕ → List (Check R)
  pub buses : ℕ
  pub bound : ℕ → List (Check R)
  pub opened : ℕ → List (Asked R)
  pub permutation : List (Check R)

-- All parts: those of the shape; the grinding values before the lookups' pair and before zeta, with the condition under which the script can be played past the
-- first; for each table the domain of its quotient; for each preprocessed matrix its height; what the backend opens; for each table its identity; and the
-- terminals' sum.
pub record Parts (R : Type 0) : Type 1 where
  pub shape : ShapeParts R
  pub lookup_grinding : List (Asked R)
  pub has_witness : Type 0
  pub ood_grinding : List (Check R)
  pub domain : ℕ → List (Check R)
  pub matrices : ℕ
  pub metadata : ℕ → List (Check R)
  pub opens : List (Check R)
  pub identity : ℕ → List (Check R)
  pub terminals : List (Check R)

module _ {R : Type 0} (p : ShapeParts R) where
  -- the checks of the shape, as a verifier goes through them
  unfoldable pub shape_list : List (Check R)
  shape_list =
      p.counts ∷ p.randomized ∷ []
      ++ in_turn p.tables p.size
      ++ in_turn p.buses p.bound
      ++ in_turn p.tables (λ i. checks_in (p.opened i))
      ++ p.permutation

  -- the counts are right, and so are the tables' sizes
  abbrev pub IsSized : Type 0
  IsSized = p.counts.holds × NoneFails (in_turn p.tables p.size)

  -- Which of them are asked. The counts and what is random always; the sizes where the counts are right; where the sizes are right too, the rest. Of one
  -- table's sizes and of the buses a later check is asked only where the earlier ones hold.
  unfoldable pub shape_asked : List (Asked R)
  shape_asked =
      always (p.counts ∷ p.randomized ∷ [])
      ++ only p.counts.holds (of_each p.tables (λ i. in_order (p.size i)))
      ++ only IsSized (in_order (in_turn p.buses p.bound))
      ++ only IsSized (of_each p.tables p.opened)
      ++ only IsSized (always p.permutation)

module _ {R : Type 0} (p : Parts R) where
  unfoldable pub draws_list : List (Check R)
  draws_list = checks_in p.lookup_grinding ++ p.ood_grinding

  unfoldable pub claims_list : List (Check R)
  claims_list = in_turn p.shape.tables p.domain ++ in_turn p.matrices p.metadata

  -- all of them, as a verifier goes through them
  unfoldable pub all_list : List (Check R)
  all_list = shape_list p.shape ++ draws_list ++ (claims_list ++ p.opens) ++ in_turn p.shape.tables p.identity ++ p.terminals

  -- the script is played exactly where the shape is right and a grinding value that it needs is there
  abbrev pub IsPlayed : Type 0
  IsPlayed = NoneFails (shape_list p.shape) × p.has_witness

  -- Which of them are asked. The shape's as above, and the terminals' sum always. Where the shape is right, the first grinding value and the claims; where the
  -- script is played, the second grinding value, and, if the claims can be made, the backend and the identities. Of one quotient's domain and of one table's
  -- identity a later check is asked only where the earlier ones hold.
  unfoldable pub draws_asked : List (Asked R)
  draws_asked = only (NoneFails (shape_list p.shape)) p.lookup_grinding ++ only IsPlayed (always p.ood_grinding)

  unfoldable pub claims_asked : List (Asked R)
  claims_asked =
      only (NoneFails (shape_list p.shape)) (of_each p.shape.tables (λ i. in_order (p.domain i)))
      ++ only (NoneFails (shape_list p.shape)) (of_each p.matrices (λ m. always (p.metadata m)))

  unfoldable pub all_asked : List (Asked R)
  all_asked =
      shape_asked p.shape
      ++ draws_asked
      ++ (claims_asked ++ only (IsPlayed × NoneFails claims_list) (always p.opens))
      ++ only (IsPlayed × NoneFails claims_list) (of_each p.shape.tables (λ i. in_order (p.identity i)))
      ++ always p.terminals
