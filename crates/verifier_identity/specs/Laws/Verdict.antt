-- There is one verdict on a table's identity.
use Rattle.std.proofs.Common.{ℕ, List}
use Rattle.std.specs.Prelude.{Option}
use Rattle.p3_field.specs.Checks.{AreSingle}
use Rattle.p3_field.specs.Laws.Checks.{none_single, check_single}
use Rattle.p3_field.specs.Field.{TwoAdic, Extension}
use Rattle.p3_field.specs.Domain.{CosetData}
use Rattle.air_core.specs.Tree.{Tree}
use Rattle.p3_uni_stark.specs.declared.error.VerificationError.{VerificationError}
use Rattle.verifier_identity.specs.Identity.{OpenedTable, identity_checks}

-- each of the two checks has one refusal
pub identity_single : {F E : Type 0} (R : Type 0) (f : TwoAdic F) (e : Extension F E) (index : Option ℕ) (d : CosetData F) (alpha zeta : E) (o : OpenedTable F E) (trees : List (Tree F)) (quotient : E)
    → AreSingle (identity_checks f e {R = R} index d alpha zeta o trees quotient)
unfolding identity_checks
identity_single R f e index d alpha zeta o trees quotient =
    check_single _ _ _ (check_single _ _ _ (none_single (VerificationError R)))
