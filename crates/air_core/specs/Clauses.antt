-- What calls of builders say of trees that their operands represent, each as one fact. `before` says which expression represents
-- what as a call begins, `after` the same at its return, and `appends` which asserted trees and interactions it appended.
use Rattle.std.specs.Prelude.{List, [], ◌∷◌, map, Result, IfOk, OnErr}
use Rattle.air_core.specs.declared.cells.Count.{Count}
use Rattle.air_core.specs.Tree.{Tree, Asserted, Interaction, Bus, Represent, RepresentsCount, SomeFirst, over_base}

-- the result represents what f makes of what x represents
abbrev pub GivesOfOne : {E T D U Er : Type 0} → (E → T → Type 0) → E → (D → U → Type 0) → (T → U) → Result D Er → Type 0
GivesOfOne {T = T} before x after f result = (t : T) → before x t → IfOk result (λ e. after e (f t))

-- the result represents what f makes of what x and y represent
abbrev pub GivesOfTwo : {E T D U Er : Type 0} → (E → T → Type 0) → E → E → (D → U → Type 0) → (T → T → U) → Result D Er → Type 0
GivesOfTwo {T = T} before x y after f result = (s t : T) → before x s → before y t → IfOk result (λ e. after e (f s t))

-- the result represents what f makes of what x, y and z represent
abbrev pub GivesOfThree : {E T D U Er : Type 0} → (E → T → Type 0) → E → E → E → (D → U → Type 0) → (T → T → T → U) → Result D Er → Type 0
GivesOfThree {T = T} before x y z after f result =
    (s t u : T) → before x s → before y t → before z u → IfOk result (λ e. after e (f s t u))

-- the one tree that f makes of what x represents was asserted
abbrev pub AppendsOfOne : {E T F R Er : Type 0} → (E → T → Type 0) → E → (List (Asserted F) → List (Interaction F) → Type 0) → (T → Asserted F) → Result R Er → Type 0
AppendsOfOne {T = T} before x appends f result = (t : T) → before x t → IfOk result (λ _. appends (f t ∷ []) [])

-- the one tree that f makes of what x and y represent was asserted
abbrev pub AppendsOfTwo : {E T F R Er : Type 0} → (E → T → Type 0) → E → E → (List (Asserted F) → List (Interaction F) → Type 0) → (T → T → Asserted F) → Result R Er → Type 0
AppendsOfTwo {T = T} before x y appends f result =
    (s t : T) → before x s → before y t → IfOk result (λ _. appends (f s t ∷ []) [])

-- the trees that f makes of what x represents were asserted over the base field, in order
abbrev pub AppendsEachOfOne : {E T F R Er : Type 0} → (E → T → Type 0) → E → (List (Asserted F) → List (Interaction F) → Type 0) → (T → List (Tree F)) → Result R Er → Type 0
AppendsEachOfOne {T = T} before x appends f result = (t : T) → before x t → IfOk result (λ _. appends (map over_base (f t)) [])

-- on an error some of the first of these trees were asserted, and nothing else
abbrev pub AppendsSomeOfOne : {E T F R Er : Type 0} → (E → T → Type 0) → E → (List (Asserted F) → List (Interaction F) → Type 0) → (T → List (Tree F)) → Result R Er → Type 0
AppendsSomeOfOne {T = T} before x appends f result = (t : T) → before x t → OnErr result (SomeFirst appends (map over_base (f t)) [])

-- the trees that f makes of what x, y and z represent were asserted over the base field, in order
abbrev pub AppendsEachOfThree : {E T F R Er : Type 0} → (E → T → Type 0) → E → E → E → (List (Asserted F) → List (Interaction F) → Type 0) → (T → T → T → List (Tree F)) → Result R Er → Type 0
AppendsEachOfThree {T = T} before x y z appends f result =
    (s t u : T) → before x s → before y t → before z u → IfOk result (λ _. appends (map over_base (f s t u)) [])

-- on an error some of the first of these trees were asserted, and nothing else
abbrev pub AppendsSomeOfThree : {E T F R Er : Type 0} → (E → T → Type 0) → E → E → E → (List (Asserted F) → List (Interaction F) → Type 0) → (T → T → T → List (Tree F)) → Result R Er → Type 0
AppendsSomeOfThree {T = T} before x y z appends f result =
    (s t u : T) → before x s → before y t → before z u → OnErr result (SomeFirst appends (map over_base (f s t u)) [])

-- the trees that f makes of what x, y, z and w represent were asserted over the base field, in order
abbrev pub AppendsEachOfFour : {E T F R Er : Type 0} → (E → T → Type 0) → E → E → E → E → (List (Asserted F) → List (Interaction F) → Type 0) → (T → T → T → T → List (Tree F)) → Result R Er → Type 0
AppendsEachOfFour {T = T} before x y z w appends f result =
    (s t u v : T) → before x s → before y t → before z u → before w v → IfOk result (λ _. appends (map over_base (f s t u v)) [])

-- on an error some of the first of these trees were asserted, and nothing else
abbrev pub AppendsSomeOfFour : {E T F R Er : Type 0} → (E → T → Type 0) → E → E → E → E → (List (Asserted F) → List (Interaction F) → Type 0) → (T → T → T → T → List (Tree F)) → Result R Er → Type 0
AppendsSomeOfFour {T = T} before x y z w appends f result =
    (s t u v : T) → before x s → before y t → before z u → before w v → OnErr result (SomeFirst appends (map over_base (f s t u v)) [])

-- the one tuple that the fields represent was sent on the bus, as often as the count says
abbrev pub SendsTuple : {E F R Er : Type 0} → (E → Tree F → Type 0) → Bus → List E → Count E → (List (Asserted F) → List (Interaction F) → Type 0) → Result R Er → Type 0
SendsTuple {F = F} before bus fields count appends result =
    (fs : List (Tree F)) (v : Tree F) → Represent before fields fs → before count.value v
    → IfOk result (λ _. appends [] (record { bus = bus; fields = fs; counts = record { value = v; bound = count.bound } ∷ [] } ∷ []))

-- the tuples that the fields represent were sent on the bus, one after another, each as often as its count says
abbrev pub SendsTuples : {E F R Er : Type 0} → (E → Tree F → Type 0) → Bus → List E → List (Count E) → (List (Asserted F) → List (Interaction F) → Type 0) → Result R Er → Type 0
SendsTuples {F = F} before bus fields counts appends result =
    (fs : List (Tree F)) (vs : List (Count (Tree F))) → Represent before fields fs → Represent (RepresentsCount before) counts vs
    → IfOk result (λ _. appends [] (record { bus = bus; fields = fs; counts = vs } ∷ []))
