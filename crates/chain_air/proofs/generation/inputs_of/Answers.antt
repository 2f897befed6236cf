use Rattle.std.proofs.Common.{◌≡◌, ℕ, suc, ◌+◌, List, length, ◌∙◌, ap, arith, rules, refl}
use Rattle.p3_field.specs.Poly.{tabulate}
use Rattle.p3_field.specs.Laws.Tabulate.{tabulate_push}
use Rattle.chain_air.specs.Generated.{block_words, chaining_before, eight_words, joined_words}
use Rattle.chain_air.proofs.generation.inputs_of.Goals as goal

pub loop-i-init : goal.loop-i-init
unfolding chaining_before
loop-i-init c = record { before = refl; so_far = search rules }

pub loop-i-preserved : goal.loop-i-preserved
unfolding chaining_before
loop-i-preserved c =
    let i = c.loop-i.i in
    let start = c.args.start in
    let blocks = c.args.blocks.now in
    let step : suc i ≡ i + 1 = omega arith in
    let inv = c.loop-i.invariant in
    record {
      before = c.next_chaining-chaining.ensures ∙ (ap (λ (cs : List ℕ). eight_words (block_words blocks i cs)) inv.before ∙ ap (chaining_before start blocks) step);
      so_far = c.in_ok-push.ensures.items
          ∙ tabulate_push i (λ j. joined_words blocks j (chaining_before start blocks j)) _ _ inv.so_far (c.input_words.ensures ∙ ap (joined_words blocks i) inv.before);
    }

pub returns : goal.returns
returns c =
    let e : c.loop-i.i ≡ length c.args.blocks.now = omega arith in
    c.loop-i.invariant.so_far ∙ ap (λ n. tabulate n (λ i. joined_words c.args.blocks.now i (chaining_before c.args.start c.args.blocks.now i))) e
