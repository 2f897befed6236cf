use Rattle.std.proofs.Common.{◌≡◌, ℕ, ◌<◌, get_or}
use Rattle.batch_statement.specs.Words.{is_there}
use Rattle.verifier_shape.proofs.counts.are_randomized.Given as goal

abbrev pub invariant-loop-opened : goal.invariant-loop-opened
invariant-loop-opened g l = (k : ℕ) (d : _) → k < l.opened-index → is_there (get_or l.instances k d).base.random ≡ l.zk
