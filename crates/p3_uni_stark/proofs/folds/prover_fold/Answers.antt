use Rattle.std.proofs.Common.{◌≡◌, length, map, drop, sym, ◌∙◌, ap}
use Rattle.std.proofs.lemmas.List.{length-map}
use Rattle.air_core.specs.Tree.{eval_tree, eval_asserted, over_base}
use Rattle.p3_uni_stark.specs.Fold.{fold_powers, weighed_from}
use Rattle.p3_uni_stark.specs.Point.{point_reading, embedded}
use Rattle.p3_uni_stark.specs.ProverState.{folder_values_of, folder_sum_of}
use Rattle.p3_uni_stark.specs.Laws.Folds.{weighed_fold, weighed_zero}
use Rattle.p3_uni_stark.specs.Laws.Folders.{base_values}
use Rattle.p3_uni_stark.proofs.folds.prover_fold.Goals as goal

pub returns-clause-weighed : goal.returns-clause-weighed
returns-clause-weighed g c =
    let s = g.E.RingCore.ring in
    let trees = g.A.Air.trees c.args.air.now in
    let values = map (eval_tree (point_reading s g.E.ExtensionField.embed (embedded g.E.ExtensionField.embed (folder_values_of c.args.folder)))) trees in
    let powers = c.args.folder.alpha_powers.now in
    let start : folder_sum_of c.args.folder ≡ record { left = powers; total = s.zero } =
    (λ i. record { left = ap (λ n. drop n powers) c.requires.first i; total = c.requires.zero i }) in
    ap (λ w. w.total) c.in-Ok.ensures.appends.1
    ∙ (ap (λ v. (weighed_from s (folder_sum_of c.args.folder) v).total) (base_values (point_reading s g.E.ExtensionField.embed (embedded g.E.ExtensionField.embed (folder_values_of c.args.folder))) trees)
    ∙ (ap (λ w. (weighed_from s w values).total) start ∙ weighed_zero s g.met.E.RingCore.ring_laws powers values))

pub returns-clause-fold : goal.returns-clause-fold
returns-clause-fold g c = λ alpha powers.
    let s = g.E.RingCore.ring in
    let trees = g.A.Air.trees c.args.air.now in
    let read = eval_tree (point_reading s g.E.ExtensionField.embed (embedded g.E.ExtensionField.embed (folder_values_of c.args.folder))) in
    let values = map read trees in
    let ordered : c.args.folder.alpha_powers.now ≡ fold_powers s alpha (length values) = powers ∙ ap (fold_powers s alpha) (sym (length-map trees read)) in
    let start : folder_sum_of c.args.folder ≡ record { left = fold_powers s alpha (length values); total = s.zero } =
    (λ i. record { left = (ap (λ n. drop n c.args.folder.alpha_powers.now) c.requires.first ∙ ordered) i; total = c.requires.zero i }) in
    let over : map (eval_asserted (point_reading s g.E.ExtensionField.embed (embedded g.E.ExtensionField.embed (folder_values_of c.args.folder)))) (map over_base trees) ≡ values =
    base_values (point_reading s g.E.ExtensionField.embed (embedded g.E.ExtensionField.embed (folder_values_of c.args.folder))) trees in
    ap (λ w. w.total) c.in-Ok.ensures.appends.1
    ∙ (ap (λ v. (weighed_from s (folder_sum_of c.args.folder) v).total) over
    ∙ (ap (λ w. (weighed_from s w values).total) start ∙ weighed_fold s g.met.E.RingCore.ring_laws alpha values))
