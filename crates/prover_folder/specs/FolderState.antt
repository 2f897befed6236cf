-- What a prover's folder of a table with lookups reads. After Plonky3's p3-batch-stark (ProverConstraintFolderWithLookups).
use Rattle.std.specs.Prelude.{◌≡◌, List, length, map, min}
use Rattle.p3_field.specs.Ring.{Ring}
use Rattle.air_core.specs.CellValues.{CellValues, reading_at}
use Rattle.air_core.specs.Shape.{Shape}
use Rattle.air_core.specs.Tree.{Tree, Asserted, Reading, eval_tree, eval_asserted}
use Rattle.p3_uni_stark.specs.Fold.{weighed_from}
use Rattle.p3_uni_stark.specs.Point.{point_cells, point_shape, embedded}
use Rattle.p3_uni_stark.specs.ProverState.{FolderInputs, folder_inputs_of, folder_sum_of, power_count}
use Rattle.prover_folder.specs.declared.folder.ProverFolderWithLookups.{ProverFolderWithLookups}

-- what no call changes: what the plain folder is given, and the values over the extension
pub record GivenWithLookups (F E : Type 0) : Type 0 where
  pub plain : FolderInputs F E
  pub permutation_local : List E
  pub permutation_next : List E
  pub challenges : List E
  pub terminals : List E

abbrev pub given_with : {F E : Type 0} → ProverFolderWithLookups F E → GivenWithLookups F E
given_with b = record {
  plain = folder_inputs_of b.inner;
  permutation_local = b.permutation_local.now;
  permutation_next = b.permutation_next.now;
  challenges = b.permutation_challenges.now;
  terminals = b.permutation_values.now;
}

-- the values of the cells: those of the plain folder as values of the extension, and those of the lookups
abbrev pub given_cells : {F E : Type 0} → E → (F → E) → GivenWithLookups F E → CellValues E
given_cells zero embed g = record (point_cells zero embed (embedded embed g.plain.values)) {
  permutation_local = g.permutation_local;
  permutation_next = g.permutation_next;
  challenges = g.challenges;
  terminals = g.terminals;
}

abbrev pub prover_cells_of : {F E : Type 0} → E → (F → E) → ProverFolderWithLookups F E → CellValues E
prover_cells_of zero embed b = given_cells zero embed (given_with b)

-- the cells that are there: permutation columns that both rows have
abbrev pub given_shape : {F E : Type 0} → GivenWithLookups F E → Shape
given_shape g = record (point_shape g.plain.values) {
  permutation = min (length g.permutation_local) (length g.permutation_next);
  challenges = length g.challenges;
  terminals = length g.terminals;
}

abbrev pub prover_shape_of : {F E : Type 0} → ProverFolderWithLookups F E → Shape
prover_shape_of b = given_shape (given_with b)

-- the reading of constraints at the cells' values
abbrev pub prover_reading_of : {F E : Type 0} → Ring E → (F → E) → ProverFolderWithLookups F E → Reading F E
prover_reading_of r embed b = reading_at r embed (prover_cells_of r.zero embed b)

-- the value in the extension is the tree's at what the folder reads
abbrev pub IsProverValue : {F E : Type 0} → Ring E → (F → E) → ProverFolderWithLookups F E → E → Tree F → Type 0
IsProverValue r embed b e t = e ≡ eval_tree (prover_reading_of r embed b) t

-- the second folder has what the first one was given, and these values took their powers since, one after another
abbrev pub HasWeighedWith : {F E : Type 0} → Ring E → ProverFolderWithLookups F E → ProverFolderWithLookups F E → List E → Type 0
HasWeighedWith r a b values =
    (given_with b ≡ given_with a)
    × (folder_sum_of b.inner ≡ weighed_from r (folder_sum_of a.inner) values)
    × (power_count b.inner ≡ power_count a.inner)

-- the same of the values of asserted trees
abbrev pub HasWeighedTreesWith : {F E : Type 0} → Ring E → (F → E) → ProverFolderWithLookups F E → ProverFolderWithLookups F E → List (Asserted F) → Type 0
HasWeighedTreesWith r embed a b ts = HasWeighedWith r a b (map (eval_asserted (prover_reading_of r embed a)) ts)
