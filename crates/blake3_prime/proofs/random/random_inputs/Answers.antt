use Rattle.std.proofs.Common.{◌≡◌, ◌+◌, ◌*◌, ap, ◌∙◌, arith, rules}
use Rattle.p3_field.specs.Laws.Tabulate.{tabulate_push}
use Rattle.blake3_prime.specs.Random.{state_after, random_input}
use Rattle.blake3_prime.proofs.random.random_inputs.Goals as goal

pub loop-i-preserved : goal.loop-i-preserved
loop-i-preserved c =
    let i = c.loop-i._i in
    let step : 24 * i + 24 ≡ 24 * (i + 1) = omega arith in
    record {
      state = c.next_input.ensures.state (24 * i) c.loop-i.invariant.state ∙ ap state_after step;
      so_far =
          c.in_ok-push.ensures.items
          ∙ tabulate_push i (λ j. random_input (24 * j)) _ _ c.loop-i.invariant.so_far (c.next_input.ensures.words (24 * i) c.loop-i.invariant.state);
    }

pub loop-i-init : goal.loop-i-init
unfolding state_after
loop-i-init c = record { state = c.seed_from_u64-generator.ensures; so_far = search rules }
