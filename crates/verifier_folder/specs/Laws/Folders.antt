-- The fold of a table's constraints from zero.
use Rattle.std.proofs.Common.{◌≡◌, List, ◌++◌, map, ◌∙◌, ap}
use Rattle.p3_field.specs.Ring.{Ring, RingLaws}
use Rattle.air_core.specs.Tree.{Tree, Reading, eval_tree, eval_asserted, over_base, over_extension}
use Rattle.p3_uni_stark.specs.Fold.{fold, fold_from}
use Rattle.p3_uni_stark.specs.Laws.Folds.{fold_from_zero}
use Rattle.batch_constraints.specs.Laws.Rows.{asserted_values}

-- trees asserted over the base field and then over the extension, folded in from zero
pub folded_from_zero : {F E : Type 0} (s : Ring E) → RingLaws s → (rd : Reading F E) (a sum end : E) (ts us : List (Tree F)) → sum ≡ s.zero
    → end ≡ fold_from s a sum (map (eval_asserted rd) (map over_base ts ++ map over_extension us)) → end ≡ fold s a (map (eval_tree rd) (ts ++ us))
folded_from_zero s L rd a sum end ts us z h =
    h ∙ (ap (fold_from s a sum) (asserted_values (eval_tree rd) ts us)
    ∙ (ap (λ v. fold_from s a v (map (eval_tree rd) (ts ++ us))) z ∙ fold_from_zero s L a (map (eval_tree rd) (ts ++ us))))
