-- What private functions of the gadget hand on: expressions that represent parts of a constraint.
use Rattle.std.specs.Prelude.{◌≡◌, ℕ, List, map}
use Rattle.p3_field.specs.Ring.{Ring}
use Rattle.air_core.specs.Degree.{multiple}
use Rattle.air_core.specs.Tree.{Tree}
use Rattle.p3_lookup.specs.Lookup.{Sent}
use Rattle.p3_lookup.specs.Term.{common, numerator}
use Rattle.p3_lookup.specs.Trees.{trees, term_tree}

-- the first expression represents the common denominator of what is sent under this base and beta, and the second for
-- the numerator
abbrev pub ArePartsOf : {X F : Type 0} → (X → Tree F → Type 0) → Ring F → Tree F → Tree F → X × X → List (Sent (Tree F)) → Type 0
ArePartsOf P f base beta p ss = P p.0 (common (trees f) (map (term_tree f base beta) ss)) × P p.1 (numerator (trees f) (map (term_tree f base beta) ss))

-- the degrees of both, where the transition selector has degree t
abbrev pub AreDegreesOf : {F : Type 0} → Ring F → ℕ → Tree F → Tree F → ℕ × ℕ → List (Sent (Tree F)) → Type 0
AreDegreesOf f t base beta p ss = (p.0 ≡ multiple t (common (trees f) (map (term_tree f base beta) ss))) × (p.1 ≡ multiple t (numerator (trees f) (map (term_tree f base beta) ss)))
