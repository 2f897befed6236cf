-- Few bits make few values.
use Rattle.std.proofs.Common.{arith, pow_mono}
use Rattle.cases_batch.proofs.transcript.are_few.Goals as goal

pub returns : goal.returns
returns c = λ h. omega (arith, pow_mono {i = c.args.bits} {j = 30} (omega arith))
