use Rattle.blake3_compress.specs.Laws.Pushing.{push_both, bits_of_row, limbs_of_row}
use Rattle.blake3_prime.proofs.generation.push_state.Goals as goal

pub returns : goal.returns
returns g c v s =
    let r = g.F.RingCore.ring in
    let a = limbs_of_row r _ _ _ (v 0) s.rows0 c.in_ok-push_limb_words.ensures in
    let b = bits_of_row r _ _ _ (v 1) s.rows1 c.in_ok-push_bit_words.ensures in
    let d = limbs_of_row r _ _ _ (v 2) s.rows2 c.in_ok-push_limb_words-2.ensures in
    let e = bits_of_row r _ _ _ (v 3) s.rows3 c.in_ok-push_bit_words-2.ensures in
    push_both r (push_both r (push_both r a b) d) e
