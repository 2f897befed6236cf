-- Lists of the declared lengths are all that the identity reads.
use Rattle.std.proofs.Common.{sym, subst, ap, ◌∙◌}
use Rattle.p3_lookup.specs.Written.{read_all}
use Rattle.batch_constraints.specs.BatchTrees.{AreLookupsOf}
use Rattle.batch_constraints.specs.Laws.Own.{own_lookups}
use Rattle.verifier_identity.specs.Laws.Opened.{declared_lengths_enough}
use Rattle.cases_verifier.proofs.identities.identity.Goals as goal

pub verify_constraints_with_lookups-requires : goal.verify_constraints_with_lookups-requires
verify_constraints_with_lookups-requires g c = λ outside.
    let air = c.args.air.now in
    let d = g.A.BaseAir.declaration air in
    let are = subst (AreLookupsOf d) (sym (ap read_all c.as_slice.ensures ∙ c.in_ok-lookups.ensures)) (own_lookups d (g.A.Air.interactions air) (g.met.A.Air.interactions_read air)) in
    declared_lengths_enough d (read_all c.as_slice.result.now) _ (g.met.A.BaseAir.next_below air) (g.met.A.BaseAir.preprocessed_next_below air) are
    (c.are_declared.ensures c.if-not-are_declared.false)
