use Rattle.std.proofs.Common.{◌≡◌, ◌*◌, ◌%◌, ◌^◌, ◌∙◌, sym, refl}
use Rattle.std.proofs.lemmas.Bool.{eqb-true, eq-eqb}
use Rattle.std.proofs.lemmas.Grind.{one_shifted}
use Rattle.p3_matrix.specs.Laws.Powers.{power_between}
use Rattle.p3_matrix.proofs.util.is_power_of_two.Goals as goal

pub returns-then-n-gt0 : goal.returns-then-n-gt0
returns-then-n-gt0 c =
    let i = c.ilog2.result in
    let shifted : 1 * 2 ^ i % 18446744073709551616 ≡ 2 ^ i = (one_shifted i 18446744073709551615 refl c.ilog2.ensures.bound).0 in (
      λ t. (i, sym (eqb-true _ _ t) ∙ shifted),
      λ p. eq-eqb _ _ (shifted ∙ sym (power_between c.args.n i c.ilog2.ensures.power_le c.ilog2.ensures.next_power_gt p)),
    )
