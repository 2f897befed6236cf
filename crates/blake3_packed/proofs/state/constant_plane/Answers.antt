use Rattle.std.proofs.Common.{◌≡◌, sym, ◌∙◌, arith}
use Rattle.std.specs.Int.{bit_at}
use Rattle.std.proofs.lemmas.Nat.Bits.{shr_and_one, bit_at-lt}
use Rattle.blake3_packed.specs.Laws.Present.{chosen_one, chosen_zero}
use Rattle.blake3_packed.proofs.state.constant_plane.Goals as goal

pub returns-then-word-k-eq1 : goal.returns-then-word-k-eq1
returns-then-word-k-eq1 c j =
    let e : bit_at c.args.word c.args.k ≡ 1 = sym (shr_and_one c.args.word c.args.k) ∙ c.if-word-k-eq1.true in
    chosen_one c.args.present c.args.word c.args.k j e

pub returns : goal.returns
returns c j =
    let e : bit_at c.args.word c.args.k ≡ 0 = omega (arith, shr_and_one c.args.word c.args.k, c.if-word-k-eq1.false, bit_at-lt c.args.word c.args.k) in
    chosen_zero c.args.present c.args.word c.args.k j e
