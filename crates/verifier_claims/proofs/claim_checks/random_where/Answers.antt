use Rattle.std.proofs.Common.{subst}
use Rattle.verifier_claims.specs.ClaimChecks.{random_check}
use Rattle.batch_statement.specs.Verdict.{IsDecided}
use Rattle.verifier_claims.proofs.claim_checks.random_where.Goals as goal

pub returns : goal.returns
returns g c = subst (λ b. IsDecided (random_check {R = g.row.R.Denot} b c.args.instances.now) c.all_random.result) c.is_committed.ensures c.all_random.ensures
