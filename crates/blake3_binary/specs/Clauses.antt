-- What the gadgets on bits say of the trees that their three operands represent, each as one fact.
use Rattle.std.specs.Prelude.{List, Result, IfOk}
use Rattle.air_core.specs.Appended.{OnFailure}
use Rattle.air_core.specs.Tree.{Tree}

-- what f makes of what x, y and z represent was appended
abbrev pub AppendedOfThree : {E T F R Er : Type 0} → (E → T → Type 0) → E → E → E → (List (Tree F) → Type 0) → (T → T → T → List (Tree F)) → Result R Er → Type 0
AppendedOfThree {T = T} before x y z appended f result =
    (s t u : T) → before x s → before y t → before z u → IfOk result (λ _. appended (f s t u))

-- on an error some of the first of these trees were appended, and nothing else
abbrev pub AppendedSomeOfThree : {E T F R Er : Type 0} → (E → T → Type 0) → E → E → E → (List (Tree F) → Type 0) → (T → T → T → List (Tree F)) → Result R Er → Type 0
AppendedSomeOfThree {T = T} before x y z appended f result =
    (s t u : T) → before x s → before y t → before z u → OnFailure result (appended (f s t u))
