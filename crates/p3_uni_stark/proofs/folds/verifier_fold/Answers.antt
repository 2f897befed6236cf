use Rattle.std.proofs.Common.{map, ◌∙◌, ap}
use Rattle.air_core.specs.Tree.{eval_tree}
use Rattle.p3_uni_stark.specs.Fold.{fold_from}
use Rattle.p3_uni_stark.specs.Point.{point_reading}
use Rattle.p3_uni_stark.specs.VerifierState.{folder_opened_of}
use Rattle.p3_uni_stark.specs.Laws.Folds.{fold_from_zero}
use Rattle.p3_uni_stark.specs.Laws.Folders.{base_values}
use Rattle.p3_uni_stark.proofs.folds.verifier_fold.Goals as goal

pub returns : goal.returns
returns g c =
    let s = g.E.RingCore.ring in
    let values = map (eval_tree (point_reading s g.E.ExtensionField.embed (folder_opened_of c.args.folder).values)) (g.A.Air.trees c.args.air.now) in
    c.in-Ok.ensures.appends.1
    ∙ (ap (fold_from s c.args.folder.alpha c.args.folder.accumulator) (base_values (point_reading s g.E.ExtensionField.embed (folder_opened_of c.args.folder).values) (g.A.Air.trees c.args.air.now))
    ∙ (ap (λ v. fold_from s c.args.folder.alpha v values) c.requires.zero ∙ fold_from_zero s g.met.E.RingCore.ring_laws c.args.folder.alpha values))
