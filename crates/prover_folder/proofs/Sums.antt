-- The sum of a table's constraints from nothing.
use Rattle.std.proofs.Common.{◌≡◌, List, ◌++◌, length, map, sym, ◌∙◌, ap}
use Rattle.std.proofs.lemmas.List.{length-map}
use Rattle.air_core.specs.Tree.{Tree, over_base, over_extension}
use Rattle.p3_field.specs.Ring.{Ring, RingLaws}
use Rattle.p3_uni_stark.specs.Fold.{fold, fold_powers, weighed, Sum, weighed_from}
use Rattle.p3_uni_stark.specs.Laws.Folds.{weighed_fold, weighed_zero}
use Rattle.batch_constraints.specs.Laws.Rows.{asserted_values}

module _ {F E : Type 0} (s : Ring E) (L : RingLaws s) (value : Tree F → E) (own others : List (Tree F)) where
  -- constraints over the base field and others over the extension after them, weighed from nothing
  pub weighed_trees : (powers : List E) (old new : Sum E) → old ≡ record { left = powers; total = s.zero }
      → new ≡ weighed_from s old (map (λ a. value a.tree) (map over_base own ++ map over_extension others)) → new.total ≡ weighed s powers (map value (own ++ others))
  weighed_trees powers old new h k =
      ap (λ (w : Sum E). w.total) k
      ∙ (ap (λ (v : List E). (weighed_from s old v).total) (asserted_values value own others)
      ∙ (ap (λ (w : Sum E). (weighed_from s w (map value (own ++ others))).total) h ∙ weighed_zero s L powers (map value (own ++ others))))

  -- by a challenge's powers in order it is their fold
  pub folded_trees : (alpha total : E) (powers : List E) → total ≡ weighed s powers (map value (own ++ others)) → powers ≡ fold_powers s alpha (length (own ++ others))
      → total ≡ fold s alpha (map value (own ++ others))
  folded_trees alpha total powers k h =
      let values = map value (own ++ others) in
      let ordered : powers ≡ fold_powers s alpha (length values) = h ∙ ap (fold_powers s alpha) (sym (length-map (own ++ others) value)) in
      k
      ∙ (ap (λ (ws : List E). weighed s ws values) ordered
      ∙ (sym (weighed_zero s L (fold_powers s alpha (length values)) values) ∙ weighed_fold s L alpha values))
