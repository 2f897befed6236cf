use Rattle.std.proofs.Common.{◌≡◌, ℕ, ◌≤◌, get_or, length}
use Rattle.blake3_packed.specs.Inputs.{ArePairs}
use Rattle.blake3_packed.proofs.inputs.pairs_at.Given as goal

abbrev pub invariant-loop-j : goal.invariant-loop-j
invariant-loop-j l = record {
  long : length l.rows ≡ 64;
  so_far : ArePairs l.rows l.block l.p l.j;
  rest : (j : ℕ) → l.j ≤ j → get_or l.rows j 0 ≡ 0;
}
