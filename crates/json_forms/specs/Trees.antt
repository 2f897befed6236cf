-- Trees of JSON: what the parts of a value are as one.
use Rattle.std.specs.Prelude.{ℕ, List, [], ◌∷◌, Option, None, Some}
use Rattle.p3_field.specs.declared.baby_bear.BabyBear.{BabyBear}
use Rattle.p3_field.specs.declared.quartic.QuarticExtension.{QuarticExtension}
use Rattle.serde_json.specs.Data.{Data, null, number, unsigned, array, Items, no_items, item}

-- an unsigned whole number
abbrev pub number_tree : ℕ → Data
number_tree n = number (unsigned n)

-- a list: an array of its items
abbrev pub items_tree : {A : Type 0} → (A → Data) → List A → Items
items_tree tree [] = no_items
items_tree tree (x ∷ xs) = item (tree x) (items_tree tree xs)

abbrev pub list_tree : {A : Type 0} → (A → Data) → List A → Data
list_tree tree xs = array (items_tree tree xs)

-- a value that may be absent: null, or the value
abbrev pub option_tree : {A : Type 0} → (A → Data) → Option A → Data
option_tree tree None = null
option_tree tree (Some x) = tree x

-- a field element: its canonical number
abbrev pub element_tree : BabyBear → Data
element_tree x = number_tree x.value

-- an element of the extension: the array of its four coefficients
abbrev pub extension_tree : QuarticExtension → Data
extension_tree x = array (item (element_tree x.c0) (item (element_tree x.c1) (item (element_tree x.c2) (item (element_tree x.c3) no_items))))
