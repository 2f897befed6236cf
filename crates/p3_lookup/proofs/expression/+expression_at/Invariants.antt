use Rattle.p3_lookup.proofs.expression.+expression_at.Given as goal

abbrev pub decreases-expression_at : goal.decreases-expression_at
decreases-expression_at g l = l.place
