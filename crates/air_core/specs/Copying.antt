-- Copies of a node and all that it stands on, without the other nodes of its list.
use Rattle.std.specs.Prelude.{◌≡◌, ℕ, zero, suc, ◌+◌, ◌<◌, ◌++◌, List, length, Option, Some, None}
use Rattle.air_core.specs.declared.node.Node.{Node}
use Rattle.air_core.specs.Symbolic.{tree_at, Ordered}

-- the copies are in order, and each place that has a copy has one with its tree
pub record IsCopied {F : Type 0} (nodes copies : List (Node F)) (copy_of : ℕ → Option ℕ) : Type 0 where
  pub ordered : Ordered copies
  pub trees : (i p : ℕ) → copy_of i ≡ Some p → (p < length copies) × (tree_at copies p ≡ tree_at nodes i)

-- how many of the first n places have a copy
abbrev pub count_of_copy : Option ℕ → ℕ
count_of_copy None = 0
count_of_copy (Some p) = 1

abbrev pub copied_below : (ℕ → Option ℕ) → ℕ → ℕ
copied_below copy_of zero = 0
copied_below copy_of (suc n) = copied_below copy_of n + count_of_copy (copy_of n)

-- The copies grew, and p is the place of the copy of a place; a copy that was made is the last one. No place after
-- this one got a copy, and there are as many new copies as places that got one.
pub record CopiesTo {F : Type 0} (nodes old new : List (Node F)) (before after : ℕ → Option ℕ) (place p : ℕ) : Type 0 where
  pub copied : IsCopied nodes new after
  pub more : List (Node F)
  pub extends : new ≡ old ++ more
  pub within : p < length new
  pub has_tree : tree_at new p ≡ tree_at nodes place
  pub last : before place ≡ None → p + 1 ≡ length new
  pub others : (i : ℕ) → place < i → after i ≡ before i
  pub count : (n : ℕ) → place < n → length new + copied_below before n ≡ length old + copied_below after n
