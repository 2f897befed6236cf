use Rattle.std.proofs.Common.{◌≡◌, ◌++◌, ◌∷◌, map, drop, take}
use Rattle.std.specs.List.{fold}
use Rattle.std.specs.Option.{option_copied, option_map_or}
use Rattle.batch_transcript.specs.BatchScript.{lookup_terminal_step, constraint_challenge_step, from_quotient}
use Rattle.batch_transcript.proofs.transcript.BatchTranscript.permutation_phase.Given as goal

abbrev pub invariant-loop-terminal : goal.invariant-loop-terminal
invariant-loop-terminal g l = record {
  state : l.self-inside.state.state ≡ fold g.C.CanObserve-2.observed (option_map_or (g.C.CanObserve-3.observed l.fn.self.state) (option_copied l.fn.commitment) l.fn.self.state) (take l.terminal-index l.terminals);
  remaining : l.self-inside.state.remaining ≡ map (λ _. lookup_terminal_step g.EF.BasedVectorSpace.DIMENSION) (drop l.terminal-index l.terminals) ++ constraint_challenge_step g.EF.BasedVectorSpace.DIMENSION ∷ from_quotient g.EF.BasedVectorSpace.DIMENSION l.fn.self.shape;
  shape : l.self-inside.shape ≡ l.fn.self.shape;
}
