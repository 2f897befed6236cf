-- A worked pattern: a value is sent, some are public, a value is ground and one drawn, and a bracket opens and closes.
use Rattle.std.specs.Prelude.{ℕ, List, [], ◌∷◌, codes}
use Rattle.std.specs.List.{fold}
use Rattle.p3_challenger.specs.declared.script.Hierarchy.{Hierarchy}
use Rattle.p3_challenger.specs.declared.script.Hierarchy.TheVariants.{Atomic, Begin, End}
use Rattle.p3_challenger.specs.declared.script.InteractionKind.{InteractionKind}
use Rattle.p3_challenger.specs.declared.script.InteractionKind.TheVariants.{Message, Public, Challenge, Pow, Protocol}
use Rattle.p3_challenger.specs.declared.script.StepValue.{StepValue}
use Rattle.p3_challenger.specs.declared.script.StepValue.TheVariants.{Marker, Opaque, Algebra}
use Rattle.p3_challenger.specs.declared.script.Length.{Length}
use Rattle.p3_challenger.specs.declared.script.Length.TheVariants.{None as NoLength, Scalar, Fixed}
use Rattle.p3_challenger.specs.declared.script.Interaction.{Interaction}

abbrev pub worked_step : Hierarchy → InteractionKind → StepValue → List ℕ → Length → Interaction
worked_step hierarchy kind value label length = record { hierarchy = hierarchy; kind = kind; value = value; label = label; length = length }

-- the steps, for so many public values and bits
unfoldable pub worked_steps : ℕ → ℕ → List Interaction
worked_steps publics bits =
    worked_step Atomic Message Opaque (codes "sent") Scalar
    ∷ worked_step Atomic Public (Algebra 1) (codes "known") (Fixed publics)
    ∷ worked_step Atomic Pow (Algebra 1) (codes "work") (Fixed bits)
    ∷ worked_step Atomic Challenge (Algebra 1) (codes "drawn") Scalar
    ∷ worked_step Begin Protocol Marker (codes "inner") NoLength
    ∷ worked_step End Protocol Marker (codes "inner") NoLength
    ∷ []

-- the state after the sent value and the public ones
abbrev pub told : {S F : Type 0} → (S → F → S) → S → F → List F → S
told observed s sent known = fold observed (observed s sent) known
