use Rattle.std.proofs.Common.{refl}
use Rattle.p3_batch_stark_tests.proofs.example.bytes_are_accepted.Goals as goal

pub prove_bytes-requires-clause-power : goal.prove_bytes-requires-clause-power
prove_bytes-requires-clause-power g c = (3, refl)
