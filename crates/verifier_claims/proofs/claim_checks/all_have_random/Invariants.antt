use Rattle.std.proofs.Common.{◌≡◌, ℕ, ◌<◌, get_or, true}
use Rattle.batch_statement.specs.Words.{is_there}
use Rattle.verifier_claims.proofs.claim_checks.all_have_random.Given as goal

abbrev pub invariant-loop-opened : goal.invariant-loop-opened
invariant-loop-opened g l = (k : ℕ) (d : _) → k < l.opened-index → is_there (get_or l.instances k d).base.random ≡ true
