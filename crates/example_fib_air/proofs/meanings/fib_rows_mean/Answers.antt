use Rattle.example_fib_air.specs.Laws.Means.{fib_means, fib_meets}
use Rattle.example_fib_air.proofs.meanings.fib_rows_mean.Goals as goal

pub returns-clause-means : goal.returns-clause-means
returns-clause-means g c = fib_means g.F.RingCore.ring

pub returns-clause-meets : goal.returns-clause-meets
returns-clause-meets g c = fib_meets g.F.RingCore.ring
