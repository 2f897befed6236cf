use Rattle.std.proofs.Common.{◌++◌, ◌∷◌, [], map, take, ◌∙◌, ap, refl}
use Rattle.p3_field.specs.BabyBear.{baby_bear_ring}
use Rattle.p3_field.specs.declared.baby_bear.BabyBear.{BabyBear}
use Rattle.law_tool_valid.specs.Job.{give_row}
use Rattle.tool_jobs.specs.Jobs.{read_given}
use Rattle.tool_jobs.proofs.Traces.{pairs-fill, rows-more}
use Rattle.tool_jobs.proofs.trace.give_trace.Goals as goal

pub loop-given-preserved : goal.loop-given-preserved
loop-given-preserved c =
    rows-more (give_row baby_bear_ring) read_given c.args.words.now c.loop-given.given-index c.given-item.result _ _ c.loop-given-test.true c.given-item.is c.loop-given.invariant
    (c.in_ok-push_row.ensures ∙ ap (λ (x : BabyBear). c.loop-given.values.items ++ c.given-item.result.word ∷ x ∷ []) c.from_u64.ensures)

pub new-requires : goal.new-requires
new-requires c = pairs-fill (give_row baby_bear_ring) (λ p. refl) (map read_given (take c.loop-given.given-index c.args.words.now)) _ c.loop-given.invariant
