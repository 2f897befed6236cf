-- Claims on committed polynomials and requests to open them, as plain data. The types are those of Plonky3's p3-commit
-- (CommitmentOpening, MatrixOpening, PointOpening, OpeningRequest).
use Rattle.std.specs.Prelude.{List, map, Vec}

-- the claimed values of a matrix's columns at a point
pub record PointClaim (E : Type 0) : Type 0 where
  pub point : E
  pub values : List E

-- the claims on a matrix, whose columns were given on the domain
pub record MatrixClaim (E D : Type 0) : Type 0 where
  pub domain : D
  pub points : List (PointClaim E)

-- the claims on the matrices of a commitment
pub record CommitmentClaim (E C D : Type 0) : Type 0 where
  pub commitment : C
  pub matrices : List (MatrixClaim E D)

-- prover data with a list of points for each of its matrices
pub record Request (P E : Type 0) : Type 0 where
  pub prover_data : P
  pub points : List (List E)

-- the claims that are given by pairs, in the order of the pairs
abbrev pub point_claim : {E A : Type 0} → E × Vec E A → PointClaim E
point_claim p = record { point = p.0; values = p.1.items }

abbrev pub matrix_claim : {E D A : Type 0} → D × Vec (E × Vec E A) A → MatrixClaim E D
matrix_claim m = record { domain = m.0; points = map point_claim m.1.items }

abbrev pub commitment_claim : {E C D A : Type 0} → C × Vec (D × Vec (E × Vec E A) A) A → CommitmentClaim E C D
commitment_claim c = record { commitment = c.0; matrices = map matrix_claim c.1.items }
