use Rattle.std.proofs.Common.{◌≡◌, map}
use Rattle.p3_field.specs.Poly.{tabulate}
use Rattle.batch_statement.specs.Words.{bits_at, declared_at}
use Rattle.batch_config.specs.Domains.{next_by}
use Rattle.law_acceptance.specs.Rounds.{points_with}
use Rattle.prover_openings.proofs.points.all_main.Given as goal

abbrev pub invariant-loop-index : goal.invariant-loop-index
invariant-loop-index g l =
    map (λ x. x.items) l.points.items ≡ tabulate l.index (λ i. points_with (declared_at (map (λ i. g.A.BaseAir.declaration i.air) l.instances) i).main_next l.zeta (next_by g.E.RingCore.ring g.E.ExtensionField.embed g.F.TwoAdicCore.root l.masks l.zeta (bits_at l.degree_bits i)))
