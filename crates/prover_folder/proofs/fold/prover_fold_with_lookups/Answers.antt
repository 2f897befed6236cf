use Rattle.std.proofs.Common.{◌≡◌, drop, length, ap}
use Rattle.std.proofs.lemmas.List.{length-map}
use Rattle.air_core.specs.CellValues.{reading_at}
use Rattle.air_core.specs.Tree.{eval_tree}
use Rattle.p3_lookup.specs.Trees.{lookup_trees}
use Rattle.p3_lookup.specs.Written.{read, read_all}
use Rattle.p3_uni_stark.specs.ProverState.{folder_sum_of}
use Rattle.batch_constraints.specs.Laws.Reads.{shape_fits_lookups}
use Rattle.prover_folder.specs.FolderState.{prover_cells_of, prover_shape_of}
use Rattle.prover_folder.proofs.Sums.{weighed_trees, folded_trees}
use Rattle.prover_folder.proofs.fold.prover_fold_with_lookups.Goals as goal

pub eval_air_and_lookups-requires-clause-lookups : goal.eval_air_and_lookups-requires-clause-lookups
eval_air_and_lookups-requires-clause-lookups g c =
    shape_fits_lookups (g.A.BaseAir.declaration c.args.air.now) (prover_shape_of c.args.folder) (read_all c.args.lookups.now) (length c.args.lookups.now) (length-map c.args.lookups.now read)
    c.requires.declared c.requires.lookups c.requires.columns c.requires.challenges c.requires.terminals

pub returns-clause-weighed : goal.returns-clause-weighed
returns-clause-weighed g c =
    let s = g.E.RingCore.ring in
    let powers = c.args.folder.inner.alpha_powers.now in
    let start : folder_sum_of c.args.folder.inner ≡ record { left = powers; total = s.zero } =
    (λ i. record { left = ap (λ n. drop n powers) c.requires.first i; total = c.requires.zero i }) in
    weighed_trees s g.met.E.RingCore.ring_laws (eval_tree (reading_at s g.E.ExtensionField.embed (prover_cells_of s.zero g.E.ExtensionField.embed c.args.folder)))
    (g.A.Air.trees c.args.air.now) (lookup_trees g.F.RingCore.ring (read_all c.args.lookups.now)) powers (folder_sum_of c.args.folder.inner) (folder_sum_of c.eval_air_and_lookups.new.builder.inner) start c.in-Ok.ensures.appends.1

pub returns-clause-fold : goal.returns-clause-fold
returns-clause-fold g c = λ alpha ordered.
    let s = g.E.RingCore.ring in
    folded_trees s g.met.E.RingCore.ring_laws (eval_tree (reading_at s g.E.ExtensionField.embed (prover_cells_of s.zero g.E.ExtensionField.embed c.args.folder)))
    (g.A.Air.trees c.args.air.now) (lookup_trees g.F.RingCore.ring (read_all c.args.lookups.now)) alpha c.eval_air_and_lookups.new.builder.inner.accumulator
    c.args.folder.inner.alpha_powers.now (returns-clause-weighed g c) ordered
