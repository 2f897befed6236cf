-- What a verifier's folder reads, and the fold so far.
use Rattle.std.specs.Prelude.{◌≡◌, List, map}
use Rattle.p3_field.specs.Ring.{Ring}
use Rattle.air_core.specs.Tree.{Tree, Asserted, eval_tree, eval_asserted}
use Rattle.p3_uni_stark.specs.declared.verifier_folder.VerifierFolder.{VerifierFolder}
use Rattle.p3_uni_stark.specs.Fold.{fold_from}
use Rattle.p3_uni_stark.specs.Point.{PointValues, point_reading}

-- the values that are read, and the challenge
pub record Opened (F E : Type 0) : Type 0 where
  pub values : PointValues F E
  pub alpha : E

abbrev pub folder_opened_of : {F E : Type 0} → VerifierFolder F E → Opened F E
folder_opened_of b = record {
  values = record {
    main_local = b.main_local.now;
    main_next = b.main_next.now;
    preprocessed_local = b.preprocessed_local.now;
    preprocessed_next = b.preprocessed_next.now;
    periodic = b.periodic_values.now;
    public = b.public_values.now;
    first_row = b.is_first_row;
    last_row = b.is_last_row;
    transition = b.is_transition;
  };
  alpha = b.alpha;
}

-- the expression is the tree's value at what is read
abbrev pub IsOpenedValue : {F E : Type 0} → Ring E → (F → E) → Opened F E → E → Tree F → Type 0
IsOpenedValue r embed o e t = e ≡ eval_tree (point_reading r embed o.values) t

-- the second folder reads what the first one does, and these values were folded in since, one after another
abbrev pub HasFolded : {F E : Type 0} → Ring E → VerifierFolder F E → VerifierFolder F E → List E → Type 0
HasFolded r a b values = (folder_opened_of b ≡ folder_opened_of a) × (b.accumulator ≡ fold_from r a.alpha a.accumulator values)

-- the same of the values of asserted trees
abbrev pub HasFoldedTrees : {F E : Type 0} → Ring E → (F → E) → VerifierFolder F E → VerifierFolder F E → List (Asserted F) → Type 0
HasFoldedTrees r embed a b ts = HasFolded r a b (map (eval_asserted (point_reading r embed (folder_opened_of a).values)) ts)
