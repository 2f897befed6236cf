use Rattle.std.proofs.Common.{◌≡◌, ℕ, ◌++◌, map, ◌∙◌, refl, ap}
use Rattle.std.specs.Int.{bit_at}
use Rattle.p3_field.specs.Ring.{Ring, of_nat}
use Rattle.p3_field.specs.Poly.{tabulate}
use Rattle.air_gadgets.specs.Gadgets.{word_bits}
use Rattle.blake3_compress.proofs.pushing.push_bits.Goals as goal

bits_are : {F : Type 0} (r : Ring F) (w : ℕ) → word_bits r w ≡ map (of_nat r) (tabulate 32 (bit_at w))
unfolding word_bits
bits_are r w = refl

pub returns : goal.returns
returns g c = record {
  pushed = c.in_ok-extend_from_slice.ensures.items ∙ ap (λ bs. c.args.values.now.items ++ bs) (c.u32_to_bits_le-bits.ensures ∙ bits_are g.F.RingCore.ring c.args.word);
}
