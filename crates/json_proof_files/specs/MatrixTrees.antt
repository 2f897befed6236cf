-- The tree of a matrix, and which matrix a tree is.
use Rattle.std.specs.Prelude.{ℕ, ◌*◌, List, length, codes, Bool, ◌&&◌, ◌==◌, not, if◌then◌else◌, Option, option_map}
use Rattle.p3_field.specs.declared.baby_bear.BabyBear.{BabyBear}
use Rattle.p3_matrix.specs.Matrix.{Rows, height}
use Rattle.serde_json.specs.Data.{Data, object, no_members, member}
use Rattle.json_forms.specs.Trees.{number_tree, list_tree, element_tree}
use Rattle.json_forms.specs.Readings.{number_reading, list_reading, element_reading, kept_reading, member_reading, then_reading, object_reading}

-- a matrix: its elements row by row
abbrev pub matrix_tree : Rows BabyBear → Data
matrix_tree m =
    object (member (codes "height") (number_tree (height m)) (member (codes "values") (list_tree element_tree m.values) (member (codes "width") (number_tree m.width) no_members)))

-- a height, elements and a width
abbrev pub Shaped : Type 0
Shaped = ℕ × (List BabyBear × ℕ)

-- so many values fill so many rows of so many columns, and there are no rows exactly where there are no columns
abbrev pub fills : (rows count columns : ℕ) → Bool
fills rows count columns = (columns * rows == count) && (if rows == 0 then columns == 0 else not (columns == 0))

abbrev pub is_filled : Shaped → Bool
is_filled p = fills p.0 (length p.1.0) p.1.1

abbrev pub shaped_reading : Data → Option Shaped
shaped_reading =
    object_reading (then_reading (member_reading (codes "height") (number_reading 0 4096))
    (then_reading (member_reading (codes "values") (list_reading 0 67108864 element_reading)) (member_reading (codes "width") (number_reading 0 16384))))

abbrev pub matrix_reading : Data → Option (Rows BabyBear)
matrix_reading d = option_map (λ p. record { values = p.1.0; width = p.1.1 }) (kept_reading is_filled shaped_reading d)
