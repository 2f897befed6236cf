-- What lookups of a case read: the first column of the main trace, in the current row and in the next.
use Rattle.std.specs.Prelude.{◌<◌, IsTrue, List}
use Rattle.p3_field.specs.declared.baby_bear.BabyBear.{BabyBear}
use Rattle.air_core.specs.declared.node.Node.{Node}
use Rattle.air_core.specs.Shape.{Shape, ReadsSendable}
use Rattle.air_core.specs.Symbolic.{tree_of}
use Rattle.p3_lookup.specs.Lookup.{IsLookup}
use Rattle.p3_lookup.specs.Written.{Written, read}

-- the main trace has a first column, of which the next row may be read
pub record HasColumn (s : Shape) : Type 0 where
  pub column : 0 < s.main
  pub next : IsTrue (s.main_next 0)

-- a lookup may read the expression wherever there is a first column
abbrev pub IsSendableByColumn : List (Node BabyBear) → Type 0
IsSendableByColumn e = (s : Shape) → HasColumn s → ReadsSendable s (tree_of e)

-- the lookup is well-formed wherever there is a first column
abbrev pub IsTakenLookup : Written BabyBear → Type 0
IsTakenLookup l = (s : Shape) → HasColumn s → IsLookup s (read l)
