use Rattle.air_core.proofs.degrees.+degree_at.Given as goal

abbrev pub decreases-degree_at : goal.decreases-degree_at
decreases-degree_at g l = l.place
