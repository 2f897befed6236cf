use Rattle.std.proofs.Common.{sym, subst}
use Rattle.prover_quotients.proofs.Shapes.{follows, values_are}
use Rattle.prover_quotients.proofs.columns.values_on.Goals as goal

pub returns : goal.returns
returns g c =
    let d = c.args.domain in
    follows c.get_evaluations_on_domain.result _ _ c.get_evaluations_on_domain.ensures (λ m h polynomials H.
    values_are _ d _ H.size _ polynomials m (g.met.SC.Pcs.CosetPcs.coset_points d) (g.met.SC.Pcs.CosetPcs.coset_point d) H.some
    (h H.commitment H.matrices _ (subst (λ s. g.SC-Pcs-Pcs.holds s c.args.held.now H.commitment H.matrices) (sym c.pcs.ensures) H.holds_are) H.place_is))
