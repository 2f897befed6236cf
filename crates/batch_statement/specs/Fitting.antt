-- What private functions of the test of common data compute: tests of widths, of lookups as a program holds them, and what is
-- asked of preprocessed traces.
use Rattle.std.specs.Prelude.{ℕ, ◌<◌, ◌==◌, Bool, not, ◌&&◌, ◌||◌, List, length, Option}
use Rattle.std.specs.Prelude.{slice_index_or as get_or}
use Rattle.std.specs.List.{list_all}
use Rattle.p3_lookup.specs.Packing.{same_name}
use Rattle.air_core.specs.Shape.{Declaration, width_of}
use Rattle.p3_lookup.specs.Written.{Written}
use Rattle.batch_statement.specs.Statement.{PreprocessedTracesData, HasEntryOf, entry_of, ListsEntries, HasPlace}

-- each tuple of the second list has the width of each of the first
abbrev pub tuples_agree : {A : Type 0} → List (List A) → List (List A) → Bool
tuples_agree xs ys = list_all (λ x. list_all (λ y. length y == length x) ys) xs

abbrev pub widths_agree : {F : Type 0} → Written F → Written F → Bool
widths_agree a b = tuples_agree a.elements b.elements

-- the lookups name different buses, or their tuples have one width
abbrev pub agree : {F : Type 0} → Written F → Written F → Bool
agree a b = not (same_name a.bus b.bus) || widths_agree a b

-- the lookup agrees with each of these tables
abbrev pub agrees_with : {F : Type 0} → Written F → List (List (Written F)) → Bool
agrees_with a tables = list_all (λ ls. list_all (agree a) ls) tables

-- the tuples of the lookup have one width, and it agrees with each of these tables
abbrev pub fits_among : {F : Type 0} → List (List (Written F)) → Written F → Bool
fits_among tables a = widths_agree a a && agrees_with a tables

-- all tuples on one bus have one width
abbrev pub have_one_width : {F : Type 0} → List (List (Written F)) → Bool
have_one_width tables = list_all (λ ls. list_all (fits_among tables) ls) tables

-- preprocessed traces fit the first n of the tables with these declarations
pub record FitsPreprocessed {F C : Type 0} (ds : List (Declaration F)) (p : Option (PreprocessedTracesData C)) (n : ℕ) : Type 0 where
  pub entries : (i : ℕ) → i < n → (d : Declaration F) → HasEntryOf (width_of (get_or ds i d).preprocessed) (entry_of p i)
  pub listed : ListsEntries n p
  pub places : (i : ℕ) → i < n → HasPlace p i
