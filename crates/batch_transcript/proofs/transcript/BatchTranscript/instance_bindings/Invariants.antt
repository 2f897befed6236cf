use Rattle.std.proofs.Common.{◌≡◌, ◌++◌, map, drop, take}
use Rattle.std.specs.List.{fold}
use Rattle.p3_field.specs.Ring.{of_nat}
use Rattle.batch_transcript.specs.BatchScript.{degree_bits_step, from_main}
use Rattle.batch_transcript.proofs.transcript.BatchTranscript.instance_bindings.Given as goal

abbrev pub invariant-loop-bits : goal.invariant-loop-bits
invariant-loop-bits g l = record {
  state : l.self-inside.state.state ≡ fold (λ t n. g.C.CanObserve-2.observed t (of_nat g.EF.RingCore.ring n)) l.fn.self.state (take l.bits-index l.degree_bits);
  remaining : l.self-inside.state.remaining ≡ map (λ _. degree_bits_step g.EF.BasedVectorSpace.DIMENSION) (drop l.bits-index l.degree_bits) ++ from_main g.EF.BasedVectorSpace.DIMENSION l.fn.self.shape;
  shape : l.self-inside.shape ≡ l.fn.self.shape;
}
