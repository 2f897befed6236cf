use Rattle.std.proofs.Common.{◌≡◌, get_or, map}
use Rattle.p3_field.specs.Poly.{tabulate}
use Rattle.batch_statement.specs.Words.{bits_at, declared_at}
use Rattle.batch_config.specs.Domains.{next_by}
use Rattle.law_acceptance.specs.Rounds.{points_with}
use Rattle.prover_openings.proofs.points.all_preprocessed.Given as goal

abbrev pub invariant-loop-m : goal.invariant-loop-m
invariant-loop-m g l =
    map (λ x. x.items) l.points.items ≡ tabulate l.m (λ m. let i = get_or l.matrices m 0 in points_with (declared_at (map (λ i. g.A.BaseAir.declaration i.air) l.instances) i).preprocessed_next l.zeta (next_by g.E.RingCore.ring g.E.ExtensionField.embed g.F.TwoAdicCore.root l.masks l.zeta (bits_at l.degree_bits i)))
