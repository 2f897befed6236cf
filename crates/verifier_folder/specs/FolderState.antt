-- What a verifier's folder of a table with lookups reads, and the fold so far. After Plonky3's p3-batch-stark (the verifier's folder with
-- lookups).
use Rattle.std.specs.Prelude.{◌≡◌, List, length, map, min}
use Rattle.p3_field.specs.Ring.{Ring}
use Rattle.air_core.specs.CellValues.{CellValues, reading_at}
use Rattle.air_core.specs.PointValues.{point_cells, point_shape}
use Rattle.air_core.specs.Shape.{Shape}
use Rattle.air_core.specs.Tree.{Tree, Asserted, Reading, eval_tree, eval_asserted}
use Rattle.p3_uni_stark.specs.Fold.{fold_from}
use Rattle.p3_uni_stark.specs.VerifierState.{Opened, folder_opened_of}
use Rattle.verifier_folder.specs.declared.verifier_folder.VerifierFolderWithLookups.{VerifierFolderWithLookups}

-- the values of the base field's cells with the folding challenge, and the permutation columns, the lookups' challenges and the terminals
pub record FolderValuesWithLookups (F E : Type 0) : Type 0 where
  pub opened : Opened F E
  pub permutation_local : List E
  pub permutation_next : List E
  pub challenges : List E
  pub terminals : List E

abbrev pub all_opened : {F E : Type 0} → VerifierFolderWithLookups F E → FolderValuesWithLookups F E
all_opened b = record {
  opened = folder_opened_of b.inner;
  permutation_local = b.permutation_local.now;
  permutation_next = b.permutation_next.now;
  challenges = b.permutation_challenges.now;
  terminals = b.permutation_values.now;
}

-- the value of each cell, where public values go into E by `embed`
abbrev pub verifier_cells_of : {F E : Type 0} → E → (F → E) → FolderValuesWithLookups F E → CellValues E
verifier_cells_of zero embed o = record (point_cells zero embed o.opened.values) {
  permutation_local = o.permutation_local;
  permutation_next = o.permutation_next;
  challenges = o.challenges;
  terminals = o.terminals;
}

-- the reading of constraints at these values; a cell that isn't there reads as zero
abbrev pub reading_of : {F E : Type 0} → Ring E → (F → E) → FolderValuesWithLookups F E → Reading F E
reading_of r embed o = reading_at r embed (verifier_cells_of r.zero embed o)

-- the cells that are there: a permutation column where both rows have it
abbrev pub verifier_shape_of : {F E : Type 0} → FolderValuesWithLookups F E → Shape
verifier_shape_of o = record (point_shape o.opened.values) {
  permutation = min (length o.permutation_local) (length o.permutation_next);
  challenges = length o.challenges;
  terminals = length o.terminals;
}

-- the expression is the tree's value at what the folder reads
abbrev pub IsValueWithLookups : {F E : Type 0} → Ring E → (F → E) → VerifierFolderWithLookups F E → E → Tree F → Type 0
IsValueWithLookups r embed b e t = e ≡ eval_tree (reading_of r embed (all_opened b)) t

-- the second folder reads what the first one does, and these values were folded in since, one after another
abbrev pub HasFoldedWith : {F E : Type 0} → Ring E → VerifierFolderWithLookups F E → VerifierFolderWithLookups F E → List E → Type 0
HasFoldedWith r a b values =
    (all_opened b ≡ all_opened a) × (b.inner.accumulator ≡ fold_from r a.inner.alpha a.inner.accumulator values)

-- the same of the values of asserted trees
abbrev pub HasFoldedTreesWith : {F E : Type 0} → Ring E → (F → E) → VerifierFolderWithLookups F E → VerifierFolderWithLookups F E → List (Asserted F) → Type 0
HasFoldedTreesWith r embed a b ts = HasFoldedWith r a b (map (eval_asserted (reading_of r embed (all_opened a))) ts)
