use Rattle.law_committed.specs.Laws.Soundness.{holds_or_unlucky}
use Rattle.law_committed.proofs.soundness.an_identity_makes_a_table_hold.Goals as goal

pub returns : goal.returns
returns g c f e top inverse t trees q alpha zeta L fits I = holds_or_unlucky f e top inverse L t trees q alpha zeta fits I
