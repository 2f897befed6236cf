-- What a typed state of prover or verifier is: the challenger's state and the steps that are still to be played.
use Rattle.std.specs.Prelude.{◌≡◌, ℕ, List, [], ◌∷◌, ◌⊎◌}
use Rattle.p3_challenger.specs.declared.script.Hierarchy.TheVariants.{Atomic, Begin, End}
use Rattle.p3_challenger.specs.declared.script.InteractionKind.{InteractionKind}
use Rattle.p3_challenger.specs.declared.script.Length.{Length}
use Rattle.p3_challenger.specs.declared.script.Interaction.{Interaction}
use Rattle.p3_challenger.specs.Script.{amount}

pub record Playing (S : Type 0) : Type 0 where
  pub state : S
  pub remaining : List Interaction

-- the next step meets P
abbrev pub NextIs : (Interaction → Type 0) → List Interaction → Type 0
NextIs P [] = ⊥
NextIs P (s ∷ rest) = P s

-- a step of this kind, by itself
abbrev pub IsStep : InteractionKind → Interaction → Type 0
IsStep kind s = (s.hierarchy ≡ Atomic) × (s.kind ≡ kind)

-- a step of this kind, by itself, with this number of values
abbrev pub IsStepOf : InteractionKind → Length → Interaction → Type 0
IsStepOf kind length s = (s.hierarchy ≡ Atomic) × (s.kind ≡ kind) × (s.length ≡ length)

-- an end of a bracket
abbrev pub IsBracket : Interaction → Type 0
IsBracket s = (s.hierarchy ≡ Begin) ⊎ (s.hierarchy ≡ End)

-- the steps after the next one
abbrev pub steps_after_next : List Interaction → List Interaction
steps_after_next [] = []
steps_after_next (s ∷ rest) = rest

-- the bits of the next step, where it is a grinding
abbrev pub next_bits : List Interaction → ℕ
next_bits [] = 0
next_bits (s ∷ rest) = amount s.length

-- one step played: the challenger is left as said, and the step has been played
abbrev pub played : {S : Type 0} → Playing S → S → Playing S
played old s = record { state = s; remaining = steps_after_next old.remaining }
