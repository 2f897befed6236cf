-- Unlucky challenges: those for which the identity says less of a committed table than it should.
use Rattle.std.specs.Prelude.{◌≡◌, ℕ, ◌<◌, List, length, get_or, map, All}
use Rattle.p3_field.specs.Field.{TwoAdic, Extension}
use Rattle.p3_field.specs.Poly.{Apart, IsZeroPoly, eval_poly}
use Rattle.air_core.specs.Tree.{Tree, eval_tree}
use Rattle.p3_uni_stark.specs.Fold.{fold}
use Rattle.law_committed.specs.Committed.{CommittedTable, row, row_count_of}
use Rattle.law_committed.specs.Identity.{CommittedQuotient, identity_poly}

-- the items of the list differ from each other; z, which no place in range reads, stands past the end
abbrev pub AreDistinct : {E : Type 0} → E → List E → Type 0
AreDistinct z xs = Apart (length xs) (λ i. get_or xs i z)

module _ {F E : Type 0} (f : TwoAdic F) (e : Extension F E) (t : CommittedTable F E) (trees : List (Tree F)) where
  -- zeta is unlucky: the identity polynomial isn't zero, and its value at zeta is
  pub record IsUnluckyZeta (q : CommittedQuotient F) (alpha zeta : E) : Type 0 where
    pub differs : IsZeroPoly e.ring (identity_poly f e t trees q alpha) → ⊥
    pub vanishes : eval_poly e.ring (identity_poly f e t trees q alpha) zeta ≡ e.ring.zero

  -- the trees' values at row i
  abbrev pub constraint_values : ℕ → List E
  constraint_values i = map (eval_tree (row f e t i)) trees

  -- alpha is unlucky at row i: the trees' values there aren't all zero, and their fold is
  pub record IsUnluckyAlphaAt (i : ℕ) (alpha : E) : Type 0 where
    pub differs : All (λ v. v ≡ e.ring.zero) (constraint_values i) → ⊥
    pub vanishes : fold e.ring alpha (constraint_values i) ≡ e.ring.zero

  -- it is so at some row
  abbrev pub IsUnluckyAlpha : E → Type 0
  IsUnluckyAlpha alpha = (i : ℕ) × (i < row_count_of t) × IsUnluckyAlphaAt i alpha
