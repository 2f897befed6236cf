use Rattle.std.proofs.Common.{◌≡◌}
use Rattle.std.specs.List.{flat_map}
use Rattle.p3_field.specs.Poly.{tabulate}
use Rattle.verifier_claims.specs.Claims.{permutation_claims}
use Rattle.batch_config.specs.Domains.{next_by}
use Rattle.verifier_claims.proofs.claim_rounds.all_permutation_claims.Given as goal

abbrev pub invariant-loop-index : goal.invariant-loop-index
invariant-loop-index g l = l.claims.items ≡ flat_map (permutation_claims g.F.RingCore.ring l.zeta (next_by g.E.RingCore.ring g.E.ExtensionField.embed g.F.TwoAdicCore.root l.masks l.zeta) l.degree_bits l.instances) (tabulate l.index (λ i. i))
