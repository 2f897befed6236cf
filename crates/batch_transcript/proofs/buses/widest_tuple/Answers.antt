use Rattle.std.proofs.Common.{ap, ◌∙◌}
use Rattle.std.specs.List.{fold}
use Rattle.std.proofs.lemmas.List.{take_all}
use Rattle.batch_transcript.proofs.Widest.{with_lookups, folds-widest}
use Rattle.batch_transcript.proofs.buses.widest_tuple.Goals as goal

pub returns : goal.returns
returns g c =
    c.loop-instance.invariant ∙ ap (λ l. fold (λ w ls. with_lookups w ls) 1 l) (take_all _ c.args.lookups.now c.loop-instance-test.false) ∙ folds-widest c.args.lookups.now
