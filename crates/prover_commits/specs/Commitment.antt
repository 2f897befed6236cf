-- The check of a commitment to matrices.
use Rattle.std.specs.Prelude.{List, [], ◌∷◌}
use Rattle.commit_core.specs.Failure.{NoneOf}
use Rattle.p3_field.specs.Checks.{Check}
use Rattle.batch_setup.specs.declared.error.ProverPhase.{ProverPhase}
use Rattle.prover_answer.specs.Proving.{IsPcsRefusal}
use Rattle.prover_answer.specs.declared.error.ProvingError.{ProvingError}

-- in this phase the backend doesn't refuse to commit to these matrices
abbrev pub commit_part : {M R : Type 0} → ProverPhase → (List M → R → Type 0) → List M → List (Check (ProvingError R))
commit_part phase fault ms = record { refusal = IsPcsRefusal phase (fault ms); holds = NoneOf (fault ms) } ∷ []
