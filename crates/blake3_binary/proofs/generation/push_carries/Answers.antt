use Rattle.std.proofs.Common.{◌≡◌, suc, ◌+◌, [], ◌∷◌, ◌∙◌, ap, sym, arith, subst}
use Rattle.std.specs.Int.{bit_at}
use Rattle.air_core.specs.Laws.Lists.{tabulate_joined}
use Rattle.blake3_compress.specs.Generated.{Pushed}
use Rattle.blake3_compress.specs.Laws.Pushing.{push_none, push_more, push_all}
use Rattle.blake3_binary.specs.Sums.{carry}
use Rattle.blake3_binary.proofs.generation.push_carries.Goals as goal

pub loop-i-init : goal.loop-i-init
loop-i-init g c = push_none g.F.RingCore.ring _ (λ i. carry c.args.a c.args.b (suc i) ∷ [])

pub loop-i-preserved : goal.loop-i-preserved
loop-i-preserved g c =
    let r = g.F.RingCore.ring in
    let i = c.loop-i.i in
    let next : i + 1 ≡ suc i = omega arith in
    let bit : bit_at c.carry_word-carries.result (i + 1) ≡ carry c.args.a c.args.b (suc i) = c.carry_word-carries.ensures (i + 1) (omega arith) ∙ ap (carry c.args.a c.args.b) next in
    push_more r i (λ i. carry c.args.a c.args.b (suc i) ∷ []) c.loop-i.invariant
    (subst (λ n. Pushed r c.loop-i.values.items c.push_bit.new.values.items (n ∷ [])) bit c.in_ok-push_bit.ensures)

pub returns : goal.returns
returns g c =
    subst (Pushed g.F.RingCore.ring _ _) (sym (tabulate_joined 31 (λ i. carry c.args.a c.args.b (suc i))))
    (push_all g.F.RingCore.ring _ _ c.loop-i.i 31 (λ i. carry c.args.a c.args.b (suc i) ∷ []) (omega arith) c.loop-i.invariant)
