use Rattle.p3_field.specs.Checks.{NoneFails, in_turn}
use Rattle.verifier_claims.specs.ClaimChecks.{sizes_fit}
use Rattle.verifier_claims.proofs.domains.all_sizes.Given as goal

abbrev pub invariant-loop-index : goal.invariant-loop-index
invariant-loop-index g l = NoneFails (in_turn l.index (sizes_fit {R = g.row.R.Denot} l.masks l.most g.F.TwoAdicCore.TWO_ADICITY l.degree_bits l.log_chunks))
