-- Half rounds and the rounds of the BLAKE3 paper.
use Rattle.std.specs.Prelude.{◌≡◌, ℕ, ◌*◌, ◌<◌}
use Rattle.blake3_compress.specs.Compress.{Input, after_rounds, output_of, compress}
use Rattle.blake3_compress.specs.TraceRow.{state}

-- The state after four half rounds each is that after the rounds, and so the row's last 16 words are the compression
-- of its first 28.
abbrev pub StatesAreRounds : Type 0
StatesAreRounds = (x : Input) (n row i : ℕ) → row < 4 → i < 4 → state x (4 * n) row i ≡ after_rounds x n row i

abbrev pub OutputIsCompressed : Type 0
OutputIsCompressed = (x : Input) (k i : ℕ) → k < 4 → i < 4 → output_of x (state x 28) k i ≡ compress x k i
