use Rattle.p3_dft.proofs.radix2.+push_reversed.Given as goal

abbrev pub decreases-push_reversed : goal.decreases-push_reversed
decreases-push_reversed g l = l.bits
