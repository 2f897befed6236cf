use Rattle.std.proofs.Common.{◌≡◌, ℕ, ◌<◌, [], length, get_or}
use Rattle.blake3_compress.specs.Reading.{from_column}
use Rattle.blake3_compress.proofs.reading.bits_at.Given as goal

abbrev pub invariant-loop-i : goal.invariant-loop-i
invariant-loop-i g l =
    let B = g.AB.AirBuilder in record {
      keeps_shape : B.shape l.builder ≡ B.shape l.fn.builder;
      long : length l.cells ≡ 32;
      appends : B.appends l.fn.builder l.builder [] [];
      so_far : (k : ℕ) (d : g.row.AB-Expr.Denot) → k < l.i → B.represents l.builder (get_or l.cells k d) (from_column l.fn.column k);
    }
