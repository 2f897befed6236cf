use Rattle.std.proofs.Common.{refl}
use Rattle.p3_field.specs.BabyBear.{baby_bear_ring}
use Rattle.p3_field.specs.Quartic.{quartic_ring}
use Rattle.p3_field.specs.Laws.QuarticLaws.{quartic_same}
use Rattle.cases_commit.proofs.folding.prover_folder.Goals as goal

pub returns-clause-zero : goal.returns-clause-zero
unfolding quartic_ring baby_bear_ring
returns-clause-zero c = quartic_same _ quartic_ring.zero refl refl refl refl
