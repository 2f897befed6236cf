-- What a recording builder holds, and the trees and interactions that it represents.
use Rattle.std.specs.Prelude.{◌≡◌, ℕ, ◌<◌, ◌%◌, ◌++◌, suc, Bool, nat_lt, cond, not, List, [], ◌∷◌, length, map, filter, All, Option, Some, None}
use Rattle.std.specs.Prelude.{slice_index_or as get_or}
use Rattle.air_core.specs.declared.cells.Count.{Count}
use Rattle.air_core.specs.declared.layout.AirLayout.{AirLayout}
use Rattle.air_core.specs.declared.node.Node.{Node}
use Rattle.air_core.specs.declared.recorded.Assertion.{Assertion}
use Rattle.air_core.specs.Tree.{Tree, Asserted, Interaction, Bus, local, global}
use Rattle.air_core.specs.Operation.{Operation, tree_by}
use Rattle.air_core.specs.Symbolic.{tree_at, Ordered}
use Rattle.air_core.specs.Placed.{Placed}
use Rattle.air_core.specs.Layout.{Ascends}

-- the nodes so far, the places of the asserted ones in order, and the interactions in order
pub record Recording (F : Type 0) : Type 0 where
  pub layout : AirLayout
  pub nodes : List (Node F)
  pub asserted : List Assertion
  pub interactions : List Placed

-- the asserted trees
abbrev pub trees_at : {F : Type 0} → List (Node F) → List Assertion → List (Tree F)
trees_at ns xs = map (λ a. tree_at ns a.place) xs

-- the tree of an assertion, and whether it was made over the extension
abbrev pub asserted_tree : {F : Type 0} → List (Node F) → Assertion → Asserted F
asserted_tree ns a = record { tree = tree_at ns a.place; in_extension = a.in_extension }

abbrev pub asserted_at : {F : Type 0} → List (Node F) → List Assertion → List (Asserted F)
asserted_at ns xs = map (asserted_tree ns) xs

-- the bus of a recorded name
abbrev pub bus_of : Option (List ℕ) → Bus
bus_of None = local
bus_of (Some name) = global name

abbrev pub count_at : {F : Type 0} → List (Node F) → Count ℕ → Count (Tree F)
count_at ns c = record { value = tree_at ns c.value; bound = c.bound }

-- the interaction whose expressions are at these places
abbrev pub interaction_at : {F : Type 0} → List (Node F) → Placed → Interaction F
interaction_at ns p = record { bus = bus_of p.bus; fields = map (tree_at ns) p.fields; counts = map (count_at ns) p.counts }

abbrev pub sent_at : {F : Type 0} → List (Node F) → List Placed → List (Interaction F)
sent_at ns ps = map (interaction_at ns) ps

-- all places are below n, and the tuples fill the fields
pub record PlacedBelow (n : ℕ) (p : Placed) : Type 0 where
  pub fields : All (λ i. i < n) p.fields
  pub counts : All (λ c. c.value < n) p.counts
  pub counted : 0 < length p.counts
  pub whole : length p.fields % length p.counts ≡ 0

-- the operands of each node stand before it, and what is asserted or sent is among the nodes
pub record IsRecording {F : Type 0} (r : Recording F) : Type 0 where
  pub rooted : 0 < length r.nodes
  pub ordered : Ordered r.nodes
  pub asserted : All (λ a. a.place < length r.nodes) r.asserted
  pub interactions : All (PlacedBelow (length r.nodes)) r.interactions

-- the node at this place is there, and has this tree
pub record RepresentsAt {F : Type 0} (ns : List (Node F)) (e : ℕ) (t : Tree F) : Type 0 where
  pub within : e < length ns
  pub has_tree : tree_at ns e ≡ t

-- the second recording has the first one's layout, and its nodes with others after them
pub record IsLater {F : Type 0} (a b : Recording F) : Type 0 where
  pub layout : b.layout ≡ a.layout
  pub more : List (Node F)
  pub extends : b.nodes ≡ a.nodes ++ more

-- the second recording is later than the first, with these trees asserted and these interactions sent since
pub record HasAppended {F : Type 0} (a b : Recording F) (ts : List (Asserted F)) (is : List (Interaction F)) : Type 0 where
  pub later : IsLater a b
  pub trees : asserted_at b.nodes b.asserted ≡ asserted_at a.nodes a.asserted ++ ts
  pub sent : sent_at b.nodes b.interactions ≡ sent_at a.nodes a.interactions ++ is

-- The place of an expression among n nodes. One that is not among them, which some other builder gave, is taken for
-- the first node, the constant zero.
abbrev pub place_or_zero : ℕ → ℕ → ℕ
place_or_zero n x = cond (nat_lt x n) x 0

-- the tree that an expression is read as: one that is not among the nodes is the constant zero
abbrev pub tree_or_zero : {F : Type 0} → List (Node F) → ℕ → Tree F
tree_or_zero ns x = tree_at ns (place_or_zero (length ns) x)

-- in the second recording the last expression has the tree of this operation on the others, read in the first
abbrev pub Computes : {F : Type 0} → Recording F → Operation → ℕ → ℕ → Recording F → ℕ → Type 0
Computes a op x y b e = RepresentsAt b.nodes e (tree_by op (tree_or_zero a.nodes x) (tree_or_zero a.nodes y))

-- The recording after this expression was asserted: one that is not among its nodes is asserted as the constant zero.
abbrev pub asserting : {F : Type 0} → Recording F → ℕ → Bool → Recording F
asserting r x in_extension = record r { asserted = r.asserted ++ record { place = place_or_zero (length r.nodes) x; in_extension = in_extension } ∷ [] }

-- the assertion was made over the extension, or, where that is what is asked, over the base field
abbrev pub is_in : Bool → Assertion → Bool
is_in extension a = cond a.in_extension extension (not extension)

-- the assertions over the base field, or over the extension
abbrev pub asserted_in : Bool → List Assertion → List Assertion
asserted_in extension xs = filter (is_in extension) xs

-- their places among all, where the first of these assertions has the place k
unfoldable pub indices_from : Bool → ℕ → List Assertion → List ℕ
indices_from extension k [] = []
indices_from extension k (a ∷ xs) = cond (is_in extension a) (k ∷ indices_from extension (suc k) xs) (indices_from extension (suc k) xs)

-- these are places of assertions over the extension, or of such over the base field, each above the one before it
pub record AreTheirPlaces (extension : Bool) (xs : List Assertion) (is : List ℕ) : Type 0 where
  pub ascending : Ascends is
  pub own : All (λ i. (d : Assertion) → (get_or xs i d).in_extension ≡ extension) is

-- the tree was asserted over the extension, or, where that is what is asked, over the base field
abbrev pub is_over : {F : Type 0} → Bool → Asserted F → Bool
is_over extension a = cond a.in_extension extension (not extension)

-- of asserted trees those over the extension, or those over the base field, in order
abbrev pub trees_over : {F : Type 0} → Bool → List (Asserted F) → List (Tree F)
trees_over extension ts = map (λ a. a.tree) (filter (is_over extension) ts)

abbrev pub count_or_zero : ℕ → Count ℕ → Count ℕ
count_or_zero n c = record { value = place_or_zero n c.value; bound = c.bound }

-- the name of a bus, or none for a local interaction
abbrev pub name_of : Bus → Option (List ℕ)
name_of local = None
name_of (global name) = Some name

-- The recording after these fields and counts were sent on the bus of this name, or locally: an expression that is
-- not among its nodes is sent as the constant zero.
abbrev pub sending : {F : Type 0} → Recording F → Option (List ℕ) → List ℕ → List (Count ℕ) → Recording F
sending r bus xs cs = record r { interactions = r.interactions ++ record { bus = bus; fields = map (place_or_zero (length r.nodes)) xs; counts = map (count_or_zero (length r.nodes)) cs } ∷ [] }
