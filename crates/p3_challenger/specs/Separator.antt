-- The domain separator: the bytes that fix a transcript's protocol, pattern and instance before anything else is observed.
-- The encoding is this project's own.
use Rattle.std.specs.Prelude.{ℕ, List, [], ◌∷◌, ◌++◌, length, flat_map}
use Rattle.std.specs.Int.{w64, to_be_bytes}
use Rattle.p3_challenger.specs.Script.{elements, amount}
use Rattle.p3_challenger.specs.declared.script.Hierarchy.{Hierarchy}
use Rattle.p3_challenger.specs.declared.script.Hierarchy.TheVariants.{Atomic, Begin, End}
use Rattle.p3_challenger.specs.declared.script.InteractionKind.{InteractionKind}
use Rattle.p3_challenger.specs.declared.script.InteractionKind.TheVariants.{Message, Public, Challenge, Pow, Protocol}
use Rattle.p3_challenger.specs.declared.script.StepValue.{StepValue}
use Rattle.p3_challenger.specs.declared.script.StepValue.TheVariants.{Marker, Opaque, Algebra}
use Rattle.p3_challenger.specs.declared.script.Length.{Length}
use Rattle.p3_challenger.specs.declared.script.Length.TheVariants.{None as NoLength, Scalar, Fixed}
use Rattle.p3_challenger.specs.declared.script.Interaction.{Interaction}

-- a number as 8 big-endian bytes
unfoldable pub eight_bytes : ℕ → List ℕ
eight_bytes n = to_be_bytes w64 n

abbrev pub hierarchy_byte : Hierarchy → ℕ
hierarchy_byte Atomic = 0
hierarchy_byte Begin = 1
hierarchy_byte End = 2

abbrev pub kind_byte : InteractionKind → ℕ
kind_byte Message = 0
kind_byte Public = 1
kind_byte Challenge = 2
kind_byte Pow = 3
kind_byte Protocol = 4

abbrev pub value_byte : StepValue → ℕ
value_byte Marker = 0
value_byte Opaque = 1
value_byte (Algebra dimension) = 2

abbrev pub length_byte : Length → ℕ
length_byte NoLength = 0
length_byte Scalar = 1
length_byte (Fixed n) = 2

-- a text after its length
unfoldable pub length_prefixed : List ℕ → List ℕ
length_prefixed bytes = eight_bytes (length bytes) ++ bytes

-- a step: hierarchy, kind, value and its dimension, label, length and its number
unfoldable pub step_bytes : Interaction → List ℕ
step_bytes s =
    hierarchy_byte s.hierarchy ∷ kind_byte s.kind ∷ value_byte s.value ∷ []
    ++ eight_bytes (elements s.value) ++ length_prefixed s.label ++ length_byte s.length ∷ [] ++ eight_bytes (amount s.length)

-- a separator's parts
pub record Separator : Type 0 where
  pub version : ℕ
  pub name : List ℕ
  pub steps : List Interaction
  pub instance : List ℕ

-- its encoding: version byte, name, number of steps, the steps, instance label
unfoldable pub encoding : Separator → List ℕ
encoding s = s.version ∷ [] ++ length_prefixed s.name ++ eight_bytes (length s.steps) ++ flat_map step_bytes s.steps ++ length_prefixed s.instance
