use Rattle.std.proofs.Common.{ℕ, List}
use Rattle.blake3_compress.specs.Compress.{first_state, output_of}
use Rattle.blake3_compress.specs.TraceRow.{bit_cells}
use Rattle.blake3_compress.specs.Laws.Pushing.{push_none, push_more, bits_of_row}
use Rattle.blake3_prime.proofs.generation.push_output.Goals as goal

pub returns : goal.returns
returns g c x v first last =
    let r = g.F.RingCore.ring in
    let t : ℕ → List ℕ = λ k. bit_cells 4 (output_of x v k) in
    let a = bits_of_row r _ _ _ (output_of x v 0) (c.xor_words.ensures (v 0) (v 2) last.rows0 last.rows2) c.in_ok-push_bit_words.ensures in
    let b = bits_of_row r _ _ _ (output_of x v 1) (c.xor_words-2.ensures (v 1) (v 3) last.rows1 last.rows3) c.in_ok-push_bit_words-2.ensures in
    let d = bits_of_row r _ _ _ (output_of x v 2) (c.xor_words-3.ensures (v 2) (first_state x 0) last.rows2 first.rows0) c.in_ok-push_bit_words-3.ensures in
    let e = bits_of_row r _ _ _ (output_of x v 3) (c.xor_words-4.ensures (v 3) (first_state x 1) last.rows3 first.rows1) c.in_ok-push_bit_words-4.ensures in
    push_more r 3 t (push_more r 2 t (push_more r 1 t (push_more r 0 t (push_none r _ t) a) b) d) e
