use Rattle.law_committed.specs.Laws.Batch.{batch_holds_or_unlucky}
use Rattle.law_committed.proofs.soundness.identities_make_a_batch_hold.Goals as goal

pub returns : goal.returns
returns g c f e top inverse batch alpha zeta L fits I = batch_holds_or_unlucky f e top inverse L batch alpha zeta fits I
