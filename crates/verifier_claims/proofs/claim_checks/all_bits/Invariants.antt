use Rattle.p3_field.specs.Checks.{NoneFails, in_turn}
use Rattle.verifier_claims.specs.ClaimChecks.{bits_between}
use Rattle.verifier_claims.proofs.claim_checks.all_bits.Given as goal

abbrev pub invariant-loop-index : goal.invariant-loop-index
invariant-loop-index g l = NoneFails (in_turn l.index (bits_between {R = g.row.R.Denot} l.least l.most l.degree_bits))
