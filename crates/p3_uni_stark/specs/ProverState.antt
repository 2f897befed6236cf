-- What a prover's folder reads, the powers that are left and the sum so far.
use Rattle.std.specs.Prelude.{◌≡◌, ℕ, ◌+◌, List, length, map, drop}
use Rattle.p3_field.specs.Ring.{Ring}
use Rattle.air_core.specs.Tree.{Tree, Asserted, eval_tree, eval_asserted}
use Rattle.p3_uni_stark.specs.declared.prover_folder.ProverFolder.{ProverFolder}
use Rattle.p3_uni_stark.specs.Fold.{Sum, weighed_from}
use Rattle.p3_uni_stark.specs.Point.{PointValues, point_reading, embedded}

abbrev pub folder_values_of : {F E : Type 0} → ProverFolder F E → PointValues F F
folder_values_of b = record {
  main_local = b.main_local.now;
  main_next = b.main_next.now;
  preprocessed_local = b.preprocessed_local.now;
  preprocessed_next = b.preprocessed_next.now;
  periodic = b.periodic_values.now;
  public = b.public_values.now;
  first_row = b.is_first_row;
  last_row = b.is_last_row;
  transition = b.is_transition;
}

-- what no call changes: the values that are read, and the powers, also those that are taken
pub record FolderInputs (F E : Type 0) : Type 0 where
  pub values : PointValues F F
  pub powers : List E

abbrev pub folder_inputs_of : {F E : Type 0} → ProverFolder F E → FolderInputs F E
folder_inputs_of b = record { values = folder_values_of b; powers = b.alpha_powers.now }

abbrev pub folder_sum_of : {F E : Type 0} → ProverFolder F E → Sum E
folder_sum_of b = record { left = drop b.constraint_index b.alpha_powers.now; total = b.accumulator }

-- How many powers are taken and left together. While this stays, the folder counts a constraint only where it takes
-- a power.
abbrev pub power_count : {F E : Type 0} → ProverFolder F E → ℕ
power_count b = b.constraint_index + length (folder_sum_of b).left

-- the value in the extension is the tree's at what the folder reads
abbrev pub IsFolderValue : {F E : Type 0} → Ring E → (F → E) → ProverFolder F E → E → Tree F → Type 0
IsFolderValue r embed b e t = e ≡ eval_tree (point_reading r embed (embedded embed (folder_values_of b))) t

-- the second folder has what the first one was given, and these values took their powers since, one after another
abbrev pub HasWeighed : {F E : Type 0} → Ring E → ProverFolder F E → ProverFolder F E → List E → Type 0
HasWeighed r a b values =
    (folder_inputs_of b ≡ folder_inputs_of a) × (folder_sum_of b ≡ weighed_from r (folder_sum_of a) values) × (power_count b ≡ power_count a)

-- the same of the values of asserted trees
abbrev pub HasWeighedTrees : {F E : Type 0} → Ring E → (F → E) → ProverFolder F E → ProverFolder F E → List (Asserted F) → Type 0
HasWeighedTrees r embed a b ts = HasWeighed r a b (map (eval_asserted (point_reading r embed (embedded embed (folder_values_of a)))) ts)
