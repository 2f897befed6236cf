use Rattle.p3_lookup.proofs.values.+value_in.Given as goal

abbrev pub decreases-value_in : goal.decreases-value_in
decreases-value_in g l = l.place
