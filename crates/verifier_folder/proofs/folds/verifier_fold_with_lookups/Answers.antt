use Rattle.std.proofs.Common.{length}
use Rattle.std.proofs.lemmas.List.{length-map}
use Rattle.p3_lookup.specs.Trees.{lookup_trees}
use Rattle.p3_lookup.specs.Written.{read, read_all}
use Rattle.batch_constraints.specs.Laws.Reads.{shape_fits_lookups}
use Rattle.verifier_folder.specs.FolderState.{all_opened, reading_of, verifier_shape_of}
use Rattle.verifier_folder.specs.Laws.Folders.{folded_from_zero}
use Rattle.verifier_folder.proofs.folds.verifier_fold_with_lookups.Goals as goal

pub eval_air_and_lookups-requires-clause-lookups : goal.eval_air_and_lookups-requires-clause-lookups
eval_air_and_lookups-requires-clause-lookups g c =
    shape_fits_lookups (g.A.BaseAir.declaration c.args.air.now) (verifier_shape_of (all_opened c.args.folder)) (read_all c.args.lookups.now) (length c.args.lookups.now) (length-map c.args.lookups.now read)
    c.requires.declared c.requires.lookups c.requires.columns c.requires.challenges c.requires.terminals

pub returns : goal.returns
returns g c =
    let s = g.E.RingCore.ring in
    let f = c.args.folder in
    let ts = g.A.Air.trees c.args.air.now in
    let us = lookup_trees g.F.RingCore.ring (read_all c.args.lookups.now) in
    folded_from_zero s g.met.E.RingCore.ring_laws (reading_of s g.E.ExtensionField.embed (all_opened f)) f.inner.alpha f.inner.accumulator c.eval_air_and_lookups.new.builder.inner.accumulator ts us
    c.requires.zero c.in-Ok.ensures.appends.1
