use Rattle.std.proofs.Common.{refl}
use Rattle.p3_uni_stark.specs.Laws.Point.{embedded_is_read}
use Rattle.p3_uni_stark.proofs.readings.folders_have_the_one_reading.Goals as goal

pub returns-clause-verifier : goal.returns-clause-verifier
returns-clause-verifier g c p = refl

pub returns-clause-prover : goal.returns-clause-prover
returns-clause-prover g c p =
    embedded_is_read g.F.RingCore.ring.zero g.EF.RingCore.ring g.EF.ExtensionField.embed p g.met.EF.ExtensionField.embed_laws.keeps_zero
