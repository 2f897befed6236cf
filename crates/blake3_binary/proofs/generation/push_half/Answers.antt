use Rattle.std.proofs.Common.{subst}
use Rattle.blake3_compress.specs.Generated.{Pushed}
use Rattle.blake3_binary.specs.Row.{quarter_cells}
use Rattle.blake3_compress.specs.Laws.Pushing.{push_both}
use Rattle.blake3_binary.proofs.generation.push_half.Goals as goal

pub returns : goal.returns
returns g c x v hx hv =
    let r = g.F.RingCore.ring in
    let e1 = c.taken_words-before.ensures v hv in
    let e2 = c.made_words-after.ensures x v hx hv in
    subst (Pushed r _ _) (λ i. quarter_cells (e1 i) (e2 i))
    (push_both r (push_both r c.in_ok-push_carries.ensures c.in_ok-push_bits.ensures) c.in_ok-push_bits-2.ensures)
