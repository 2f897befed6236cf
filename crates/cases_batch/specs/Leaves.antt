-- Expressions that are one cell or one constant.
use Rattle.std.specs.Prelude.{ℕ, List}
use Rattle.air_core.specs.Degree.{HasPeriod}
use Rattle.air_core.specs.declared.node.Node.{Node}
use Rattle.air_core.specs.declared.node.Node.TheVariants.{Constant, Base, Extension, Sum, Difference, Product}
use Rattle.p3_field.specs.declared.baby_bear.BabyBear.{BabyBear}

-- a constant or a cell, where the periodic columns have these periods
abbrev pub IsLeaf : List ℕ → Node BabyBear → Type 0
IsLeaf periods (Constant x) = Unit {0}
IsLeaf periods (Base c) = HasPeriod periods c
IsLeaf periods (Extension c) = Unit {0}
IsLeaf periods (Sum i j) = ⊥
IsLeaf periods (Difference i j) = ⊥
IsLeaf periods (Product i j) = ⊥
