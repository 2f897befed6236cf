use Rattle.batch_statement.proofs.fits.widths_fit.Goals as goal

pub returns : goal.returns
returns g c = c.have_one_width.ensures
