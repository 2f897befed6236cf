-- The tree of a stated table, and which table a tree is.
use Rattle.std.specs.Prelude.{ℕ, List, codes, bytes_eq, if◌then◌else◌, Option, None, option_map, option_and_then}
use Rattle.tool_statement.specs.declared.table.TableStatement.{TableStatement}
use Rattle.tool_statement.specs.declared.table.TableStatement.TheVariants.{Swap, Wheel, Take, Give, Hash}
use Rattle.serde_json.specs.Data.{Data, string, object, no_members, member}
use Rattle.serde_json.specs.Find.{as_str, get}
use Rattle.json_forms.specs.Trees.{number_tree, element_tree}
use Rattle.json_forms.specs.Readings.{number_reading, element_reading, word_reading, member_reading, then_reading, object_reading}

-- a table: its kind, and the logarithm of its rows
abbrev pub plain_table_tree : List ℕ → ℕ → Data
plain_table_tree kind k = object (member (codes "k") (number_tree k) (member (codes "kind") (string kind) no_members))

abbrev pub table_tree : TableStatement → Data
table_tree (Swap k a b x) =
    object (member (codes "a") (element_tree a) (member (codes "b") (element_tree b) (member (codes "k") (number_tree k)
    (member (codes "kind") (string (codes "swap")) (member (codes "x") (element_tree x) no_members)))))
table_tree (Wheel k) = plain_table_tree (codes "wheel") k
table_tree (Take k) = plain_table_tree (codes "take") k
table_tree (Give k) = plain_table_tree (codes "give") k
table_tree (Hash k) = plain_table_tree (codes "hash") k

-- a table of this kind, with the logarithm of its rows
abbrev pub plain_table_reading : List ℕ → ℕ → ℕ → Data → Option ℕ
plain_table_reading kind least most d =
    option_map (λ p. p.0) (object_reading (then_reading (member_reading (codes "k") (number_reading least most)) (member_reading (codes "kind") (word_reading kind))) d)

abbrev pub swap_reading : Data → Option TableStatement
swap_reading d =
    option_map (λ p. Swap p.1.1.0 p.0 p.1.0 p.1.1.1.1)
    (object_reading (then_reading (member_reading (codes "a") element_reading) (then_reading (member_reading (codes "b") element_reading)
    (then_reading (member_reading (codes "k") (number_reading 0 10)) (then_reading (member_reading (codes "kind") (word_reading (codes "swap")))
    (member_reading (codes "x") element_reading))))) d)

-- the kind that a tree names
abbrev pub kind_of : Data → Option (List ℕ)
kind_of d = option_and_then as_str (get (codes "kind") d)

-- a table of this kind
abbrev pub kind_reading : List ℕ → Data → Option TableStatement
kind_reading kind d =
    if bytes_eq kind (codes "swap") then swap_reading d
    else if bytes_eq kind (codes "wheel") then option_map Wheel (plain_table_reading (codes "wheel") 1 10 d)
    else if bytes_eq kind (codes "take") then option_map Take (plain_table_reading (codes "take") 0 10 d)
    else if bytes_eq kind (codes "give") then option_map Give (plain_table_reading (codes "give") 0 10 d)
    else if bytes_eq kind (codes "hash") then option_map Hash (plain_table_reading (codes "hash") 0 3 d)
    else None

abbrev pub table_reading : Data → Option TableStatement
table_reading d = option_and_then (λ kind. kind_reading kind d) (kind_of d)
