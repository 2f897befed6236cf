use Rattle.p3_dft.proofs.radix2.+transform_rows.Given as goal

abbrev pub decreases-transform_rows : goal.decreases-transform_rows
decreases-transform_rows g l = l.bits
