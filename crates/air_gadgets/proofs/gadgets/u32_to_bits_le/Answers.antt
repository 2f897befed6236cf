use Rattle.std.proofs.Common.{◌≡◌, ℕ, length, sym, ◌∙◌, arith}
use Rattle.std.specs.Int.{bit_at}
use Rattle.std.proofs.lemmas.List.{ext_get_or}
use Rattle.p3_field.specs.Ring.{of_nat}
use Rattle.p3_field.specs.Laws.Tabulate.{length-tabulate, get_or-tabulate}
use Rattle.air_gadgets.specs.Gadgets.{word_bits}
use Rattle.air_gadgets.proofs.gadgets.u32_to_bits_le.Goals as goal

pub returns : goal.returns
unfolding word_bits
returns g c =
    let r = g.F.RingCore.ring in
    let f = λ (i : ℕ). of_nat r (bit_at c.args.word i) in
    let long : length c.loop-i.bits ≡ 32 = c.loop-i.invariant.long in
    ext_get_or r.zero c.loop-i.bits (word_bits r c.args.word) (long ∙ sym (length-tabulate 32 f))
    (λ i h. c.loop-i.invariant.so_far i (omega (arith, long, h)) ∙ sym (get_or-tabulate 32 f i r.zero (omega (arith, long, h))))
