use Rattle.std.proofs.Common.{◌∙◌, rules}
use Rattle.p3_field.specs.Laws.Tabulate.{tabulate_push}
use Rattle.blake3_binary.specs.Random.{state_after, binary_random_input}
use Rattle.blake3_binary.proofs.random.random_inputs.Goals as goal

pub loop-i-preserved : goal.loop-i-preserved
loop-i-preserved c =
    let i = c.loop-i.i in
    record {
      state = c.next_input.ensures.state c.loop-i.invariant.state;
      so_far =
          c.in_ok-push.ensures.items
          ∙ tabulate_push i binary_random_input _ _ c.loop-i.invariant.so_far (c.next_input.ensures.input c.loop-i.invariant.state);
    }

pub loop-i-init : goal.loop-i-init
unfolding state_after
loop-i-init c = record { state = c.seed_from_u64-generator.ensures; so_far = search rules }
