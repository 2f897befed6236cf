-- The operations of builders on two expressions, of trees and of values.
use Rattle.p3_field.specs.Ring.{Ring, sub}
use Rattle.air_core.specs.Tree.{Tree, sum, difference, product}

pub data Operation : Type 0 where
  plus : Operation
  minus : Operation
  times : Operation

-- the tree of an operation on two trees
abbrev pub tree_by : {F : Type 0} → Operation → Tree F → Tree F → Tree F
tree_by plus x y = sum x y
tree_by minus x y = difference x y
tree_by times x y = product x y

-- the value of an operation on two values
abbrev pub value_by : {A : Type 0} → Ring A → Operation → A → A → A
value_by r plus x y = r.add x y
value_by r minus x y = sub r x y
value_by r times x y = r.mul x y
