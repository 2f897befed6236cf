use Rattle.std.proofs.Common.{◌≡◌, ℕ, ◌<◌, get_or, arith, refl, sym, ◌∙◌}
use Rattle.batch_statement.specs.Words.{is_there}
use Rattle.verifier_shape.specs.Laws.Items.{all_more}
use Rattle.verifier_shape.proofs.Items.{same_bits}
use Rattle.verifier_shape.proofs.counts.are_randomized.Goals as goal

pub loop-opened-preserved : goal.loop-opened-preserved
loop-opened-preserved g c =
    all_more (λ o. is_there o.base.random ≡ c.args.zk) c.args.instances.now c.loop-opened.opened-index c.opened-item.result (omega arith) c.opened-item.is (sym c.has_random.ensures ∙ same_bits _ _ c.if-has_random-zk.false) c.loop-opened.invariant

pub returns : goal.returns
returns g c = (λ t k d b. c.loop-opened.invariant k d (omega arith), λ a. refl)
