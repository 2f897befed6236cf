use Rattle.air_core.proofs.copying.+copy_at.Given as goal

abbrev pub decreases-copy_at : goal.decreases-copy_at
decreases-copy_at g l = l.place
