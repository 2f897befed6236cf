use Rattle.std.proofs.Common.{◌≡◌, ◌++◌, map, drop, take, length}
use Rattle.std.specs.List.{fold}
use Rattle.batch_transcript.specs.BatchScript.{public_values_step, from_preprocessed}
use Rattle.batch_transcript.proofs.transcript.BatchTranscript.main_phase.Given as goal

abbrev pub invariant-loop-values : goal.invariant-loop-values
invariant-loop-values g l = record {
  state : l.self-inside.state.state ≡ fold (λ t v. fold g.C.CanObserve-1.observed t v.items) (g.C.CanObserve-3.observed l.fn.self.state l.fn.main_commitment) (take l.values-index l.public_values);
  remaining : l.self-inside.state.remaining ≡ map (λ v. public_values_step (length v.items)) (drop l.values-index l.public_values) ++ from_preprocessed g.EF.BasedVectorSpace.DIMENSION l.fn.self.shape;
  shape : l.self-inside.shape ≡ l.fn.self.shape;
}
