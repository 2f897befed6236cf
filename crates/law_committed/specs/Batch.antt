-- A batch of committed tables, whose identities are tested with one alpha and one zeta.
use Rattle.std.specs.Prelude.{List, All, Contains}
use Rattle.p3_field.specs.Field.{TwoAdic, Extension}
use Rattle.air_core.specs.Tree.{Tree}
use Rattle.law_committed.specs.Committed.{CommittedTable, Holds}
use Rattle.law_committed.specs.Identity.{CommittedIdentity, CommittedQuotient}
use Rattle.law_committed.specs.Unlucky.{IsUnluckyAlpha, IsUnluckyZeta}

-- a committed table with its trees, and the quotient that is committed to for it
pub record DividedTable (F E : Type 0) : Type 0 where
  pub table : CommittedTable F E
  pub trees : List (Tree F)
  pub quotient : CommittedQuotient F

module _ {F E : Type 0} (f : TwoAdic F) (e : Extension F E) (batch : List (DividedTable F E)) where
  -- alpha is unlucky at some row of some table
  abbrev pub IsUnluckyAlphaOfBatch : E → Type 0
  IsUnluckyAlphaOfBatch alpha = (b : DividedTable F E) × Contains batch b × IsUnluckyAlpha f e b.table b.trees alpha

  -- zeta is unlucky for some table
  abbrev pub IsUnluckyZetaOfBatch : (alpha zeta : E) → Type 0
  IsUnluckyZetaOfBatch alpha zeta = (b : DividedTable F E) × Contains batch b × IsUnluckyZeta f e b.table b.trees b.quotient alpha zeta

  -- each table's identity holds at zeta
  abbrev pub AreIdentities : (alpha zeta : E) → Type 0
  AreIdentities alpha zeta = All (λ b. CommittedIdentity f e b.table b.trees b.quotient alpha zeta) batch

  -- each table holds
  abbrev pub AllHold : Type 0
  AllHold = All (λ b. Holds f e b.table b.trees) batch
