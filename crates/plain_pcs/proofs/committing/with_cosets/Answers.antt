use Rattle.std.proofs.Common.{refl, ◌∙◌, length}
use Rattle.std.proofs.lemmas.Iterator.Adapters.{YieldsList-from_vec}
use Rattle.std.proofs.lemmas.Iterator.Consumers.{YieldsList-turn, YieldsList-end}
use Rattle.plain_pcs.specs.Cosets.{IsOnCoset}
use Rattle.plain_pcs.specs.Refusals.{HasSubgroupHeight}
use Rattle.commit_core.specs.Laws.Each.{none_yet}
use Rattle.plain_pcs.proofs.Lists.{each_yielded, each_done}
use Rattle.plain_pcs.proofs.Places.{read_all}
use Rattle.plain_pcs.proofs.committing.with_cosets.Goals as goal

pub coset_of_height-domain-requires : goal.coset_of_height-domain-requires
coset_of_height-domain-requires g c =
    let gives = c.into_iter-matrix-iterator.ensures.into_iter_gives in
    let road = YieldsList-from_vec {s = c.into_iter-matrix-iterator.result} c.args.matrices.items gives.0 (gives.1 ∙ c.args.matrices.ok.0) in
    let turn = YieldsList-turn road c.loop-matrix.yielded c.loop-matrix.matrix-iterator c.loop-matrix.yielded_by c.next.result c.next.new.self c.in-Some.matrix c.in-Some.is c.next.ensures.steps in
    read_all (HasSubgroupHeight g.F.TwoAdicCore.TWO_ADICITY) c.args.matrices.items (length c.loop-matrix.yielded) c.in-Some.matrix turn.0 turn.1 c.requires

pub loop-matrix-init : goal.loop-matrix-init
loop-matrix-init g c = none_yet c.in_ok-evaluated.evaluated.items _ c.in_ok-evaluated.ensures.items

pub loop-matrix-preserved : goal.loop-matrix-preserved
loop-matrix-preserved g c =
    let m = c.in-Some.matrix in
    let gives = c.into_iter-matrix-iterator.ensures.into_iter_gives in
    let road = YieldsList-from_vec {s = c.into_iter-matrix-iterator.result} c.args.matrices.items gives.0 (gives.1 ∙ c.args.matrices.ok.0) in
    let turn = YieldsList-turn road c.loop-matrix.yielded c.loop-matrix.matrix-iterator c.loop-matrix.yielded_by c.next.result c.next.new.self m c.in-Some.is c.next.ensures.steps in
    let here : IsOnCoset g.F.FieldCore.GENERATOR m (c.coset_of_height-domain.result, m) = record { matrix_is = refl; shift_is = c.coset_of_height-domain.ensures.shift; height_is = c.coset_of_height-domain.ensures.size } in
    each_yielded (λ m e. IsOnCoset g.F.FieldCore.GENERATOR m e) c.args.matrices.items c.loop-matrix.yielded m c.loop-matrix.evaluated.items c.push.new.self.items (c.coset_of_height-domain.result, m) turn.0 turn.1
    c.loop-matrix.invariant here c.in_ok-push.ensures.items

pub returns : goal.returns
returns g c =
    let gives = c.into_iter-matrix-iterator.ensures.into_iter_gives in
    let road = YieldsList-from_vec {s = c.into_iter-matrix-iterator.result} c.args.matrices.items gives.0 (gives.1 ∙ c.args.matrices.ok.0) in
    let seen = YieldsList-end road c.loop-matrix.yielded c.loop-matrix.matrix-iterator c.loop-matrix.yielded_by c.next.result c.next.new.self c.in-None.is c.next.ensures.steps in
    each_done (λ m e. IsOnCoset g.F.FieldCore.GENERATOR m e) c.args.matrices.items (length c.loop-matrix.yielded) c.loop-matrix.evaluated.items seen.1 c.loop-matrix.invariant
