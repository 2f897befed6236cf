use Rattle.std.proofs.Common.{refl, rules}
use Rattle.blake3_compress.specs.Compress.{first_state}
use Rattle.blake3_compress.specs.TraceRow.{state, row_cells}
use Rattle.blake3_compress.specs.Generated.{input_of}
use Rattle.blake3_compress.specs.Laws.Pushing.{push_both, bits_of_row, limbs_of_row, bits_of_all}
use Rattle.blake3_prime.proofs.generation.push_row.Goals as goal

pub returns : goal.returns
unfolding row_cells
returns g c =
    let r = g.F.RingCore.ring in
    let x = input_of c.args.words.now in
    let first = c.first_words-first.ensures in
    let rounds = c.in_ok-last.ensures x (λ i lt. refl) first in
    let a = bits_of_all r _ _ c.args.words.now 28 (search rules) c.in_ok-push_bit_words.ensures in
    let b = limbs_of_row r _ _ _ (first_state x 0) first.rows0 c.in_ok-push_limb_words.ensures in
    let d = limbs_of_row r _ _ _ (first_state x 2) first.rows2 c.in_ok-push_limb_words-2.ensures in
    let e = bits_of_row r _ _ _ (state x 28 2) rounds.0.rows2 c.in_ok-push_bit_words-2.ensures in
    let o = c.in_ok-push_output.ensures x (state x 28) first rounds.0 in
    push_both r (push_both r (push_both r (push_both r (push_both r a b) d) rounds.1) e) o
