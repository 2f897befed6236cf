use Rattle.example_commit.proofs.RowOfOne.{row_of_one}
use Rattle.example_commit.proofs.rows.committed_and_opened.Goals as goal

pub returns-clause-row : goal.returns-clause-row
returns-clause-row g c =
    row_of_one c.args.matrix (g.M.Mmcs.matrices c.in_ok-commitment.prover_data) c.args.index _ c.in_ok-commitment.ensures.matrices c.requires.index c.in_ok-opening.ensures.rows
